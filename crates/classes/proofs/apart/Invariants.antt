-- `classes::apart` meets its contract. The loop's invariant: the cells below `i` are their own parents.
use mathlib.Core.Path.{◌≡◌}
use Prim.Native.Nat.{ℕ, ◌<◌, ◌≤◌}
use lib.ListN.{length, get_or}
use Rattle.classes.proofs.apart.Given as goal

abbrev pub invariant-loop-i : goal.invariant-loop-i
invariant-loop-i l = (length l.words ≡ length l.initial.words) × ((j : ℕ) → l.top ≤ j → get_or l.words j 0 ≡ get_or l.initial.words j 0) × ((k : ℕ) → k < l.i → get_or l.words k 0 ≡ k)
