-- `trail::marks_good` meets its contract. The loop's invariant: what is left of the marks decides, and `t` and `c` are the words of the mark before.
use Rattle.std.proofs.Common.{◌≡◌, ◌&&◌, ◌-◌, ◌*◌}
use Rattle.store.specs.All.{all_from}
use Rattle.store.specs.Store.{zero_from}
use Rattle.trail.specs.Rules.{mark_width, marks_good, mark_good, top_before, trail_before}
use Rattle.trail.proofs.marks_good.Given as goal

abbrev pub invariant-loop-nt : goal.invariant-loop-nt
invariant-loop-nt l = (marks_good l.top l.trailed l.marks l.marked ≡ (all_from l.nt-index (l.marked - l.nt-index) (mark_good l.top l.trailed l.marks) && zero_from l.marks (mark_width * l.marked))) × (l.t ≡ top_before l.marks l.nt-index) × (l.c ≡ trail_before l.marks l.nt-index)
