-- `unifier::count_unbound` meets its contract. The loop's invariant: those among the first `i` cells are counted.
use Rattle.std.proofs.Common.{◌≡◌, ◌≤◌}
use Rattle.unification.specs.Calls.{unbound}
use Rattle.unifier.proofs.count_unbound.Given as goal

abbrev pub invariant-loop-i : goal.invariant-loop-i
invariant-loop-i l = (l.n ≤ l.i) × (l.n ≡ unbound l.cells.words.now l.i)
