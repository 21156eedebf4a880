-- `store::Kept::turns_end` meets its contract. The loop's invariant: following ends wherever a way turns before `i`, and at each noted cell.
use Prim.Native.Nat.{◌≤◌}
use Rattle.store.specs.Turns.{EndTurns}
use Rattle.store.specs.Walk.{Known}
use Rattle.store.proofs.Kept.turns_end.Given as goal

abbrev pub invariant-loop-i : goal.invariant-loop-i
invariant-loop-i g l = (l.from ≤ l.i) × EndTurns l.self.cells.words.now l.from l.i × Known l.self.cells.words.now l.self.cells.top l.known
