-- The part of a list from a place to its end, as it is lent to a callee.
use Rattle.std.specs.Prelude.{◌≡◌, List, [], ℕ, ◌-◌, ◌≤◌, length, drop}
use Rattle.std.proofs.Common.{arith, length-drop, drop_of_length-le, take_all}
use borrow.Rule.Slice.PartMut.{mid_of, post_of}

module _ (s : List ℕ) (top : ℕ) (within : top ≤ length s) where
  -- what is lent
  pub mid_is : mid_of top (length s - top) s ≡ drop top s
  mid_is = take_all (length s - top) (drop top s) (simp length-drop (omega arith))

  -- nothing is behind it
  pub post_is : post_of top (length s - top) s ≡ []
  post_is = drop_of_length-le (drop top s) {i = length s - top} (simp length-drop (omega arith))
