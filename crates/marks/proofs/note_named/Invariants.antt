-- `marks::note_named` meets its contract. The loop's invariant: the table says 1 of just the cells that the entries so far name.
use Rattle.std.proofs.Common.{◌≡◌, ◌+◌, ◌/◌, length}
use Rattle.store.specs.Store.{limit}
use Rattle.trail.specs.Seen.{Seen}
use Rattle.marks.proofs.note_named.Given as goal

abbrev pub invariant-loop-e : goal.invariant-loop-e
invariant-loop-e l = Seen l.trail l.from l.freed (l.from + l.e-index) × (length l.freed ≡ limit / 64)
