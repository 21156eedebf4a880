-- `trail::trail_used` meets its contract. The loop's invariant: what is left of the entries decides, and `seen` says 1 of just the cells that those before name.
use Rattle.std.proofs.Common.{◌≡◌, ◌-◌, ◌/◌, length}
use Rattle.store.specs.All.{all_from}
use Rattle.store.specs.Store.{limit}
use Rattle.trail.specs.Rules.{trail_used, entry_keeps}
use Rattle.trail.specs.Seen.{Seen}
use Rattle.trail.proofs.trail_used.Given as goal

abbrev pub invariant-loop-e : goal.invariant-loop-e
invariant-loop-e l = (trail_used l.cells.words.now l.cells.top l.trail l.trailed ≡ all_from l.e-index (l.trailed - l.e-index) (entry_keeps l.cells.words.now l.cells.top l.trail)) × Seen l.trail 0 l.seen l.e-index × (length l.seen ≡ limit / 64)
