-- `store::Kept::chain_ends` meets its contract. The loop's invariant, `Walking`: `n` cells are walked over and noted, the last of them leads to `cur`, and none is lower than `low`.
use Rattle.store.specs.Walk.{Walking}
use Rattle.store.proofs.Kept.chain_ends.Given as goal

abbrev pub invariant-loop-n : goal.invariant-loop-n
invariant-loop-n g l = Walking l.self.cells.words.now l.self.cells.top l.at l.cur l.low l.n l.known
