-- `cycle::count_runs` meets its contract. The loop's invariant: the runs that the finished cells below `i` name are counted.
use Rattle.std.proofs.Common.{◌*◌, ◌≤◌}
use Rattle.store.specs.Store.{limit}
use Rattle.cycle.specs.Counted.{CountedBelow}
use Rattle.cycle.proofs.count_runs.Given as goal

abbrev pub invariant-loop-i : goal.invariant-loop-i
invariant-loop-i l = let s = l.store.cells in (l.sum ≤ l.i * limit) × CountedBelow s.words.now s.top l.i l.colours l.runs.heads l.runs.pairs l.sum
