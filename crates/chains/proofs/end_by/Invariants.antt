-- `chains::end_by` meets its contract. The loop's invariant: following from `cur` ends where following from `at` does, and what is remembered is true. The measure is the number of steps left.
use Prim.Native.Nat.{◌≤◌}
use lib.ListN.{length}
use Rattle.chains.specs.Chains.{Chained, left}
use Rattle.chains.specs.Hops.{Following}
use Rattle.chains.proofs.end_by.Given as goal

abbrev pub invariant-loop-next : goal.invariant-loop-next
invariant-loop-next l = (_ : Chained l.cells l.top) × (l.top ≤ length l.initial.hops) × Following l.cells l.top l.at l.initial.hops l.hops l.cur l.next

abbrev pub decreases-loop-next : goal.decreases-loop-next
decreases-loop-next l = left l.cells l.top l.cur
