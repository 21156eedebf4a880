-- `copy::Copier::copy_structure` meets its contract: the run is added or noted, and the cell names it.
use Rattle.cell.specs.Kinds.{Proper}
use native.Mathlib.Omega.{arith}
use Rattle.copy.specs.Arms.{act_str}
use Rattle.copy.proofs.Copier.copy_structure.Goals as goal

pub word-requires : goal.word-requires
unfolding Proper
word-requires c = let l = c.add_structure.ensures.small in omega arith

pub returns-clause-state : goal.returns-clause-state
returns-clause-state c = act_str _ _ _ _ _ _ _ _ _ _ c.put_at.ensures _ c.add_structure.ensures.state c.word.ensures
