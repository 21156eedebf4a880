-- `copy::copy_run` meets its contract. The loop's invariant: the words that are left come to the whole run.
use mathlib.Core.Path.{◌≡◌}
use Prim.Native.Nat.{◌+◌, ◌-◌}
use lib.ListN.{length}
use Rattle.copy.specs.Rules.{copy_run}
use Rattle.copy.proofs.copy_run.Given as goal

abbrev pub invariant-loop-k : goal.invariant-loop-k
invariant-loop-k l = (length l.cells ≡ length l.initial.cells) × (copy_run l.n l.initial.cells l.b l.to ≡ copy_run (l.n - l.k) l.cells (l.b + l.k) (l.to + l.k))
