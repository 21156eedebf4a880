-- `store::zero_from` meets its contract. The loop's invariant: what was seen is 0 and what is left of the words is, or all are not.
use mathlib.Core.Path.{◌≡◌}
use mathlib.Core.Bool.{◌&&◌}
use Prim.Native.Nat.{◌+◌, ◌-◌}
use lib.ListN.{length}
use lib.Dec.{eqb}
use Rattle.store.specs.All.{all_from}
use Rattle.store.specs.Store.{is_zero, zero_from}
use Rattle.store.proofs.zero_from.Given as goal

abbrev pub invariant-loop-w : goal.invariant-loop-w
invariant-loop-w l = zero_from l.words l.from ≡ (eqb l.seen 0 && all_from (l.from + l.w-index) (length l.words - (l.from + l.w-index)) (is_zero l.words))
