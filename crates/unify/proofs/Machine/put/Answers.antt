-- `unify::Machine::put` meets its contract: two words are written, and the pair is read back from them.
use Rattle.unify.specs.Layout.{push_one}
use Rattle.unify.proofs.Machine.put.Goals as goal

pub returns-clause-grown : goal.returns-clause-grown
returns-clause-grown c = let e = c.pair_place-at.ensures in rw e (push_one _ _ _ _ _ c.requires)
