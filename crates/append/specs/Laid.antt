-- Words laid over the front of a list, and over a list from a place on.
use Rattle.std.specs.Prelude.{◌≡◌}
use Rattle.std.proofs.Common.{sym, ◌∙◌, length-append, length-drop}
use Rattle.std.proofs.Math.Path.{ap}
use mathlib.Core.List.{List, ◌++◌}
use Prim.Native.Nat.{ℕ, ◌+◌, ◌-◌, ◌<◌, ◌≤◌}
use native.Mathlib.Omega.{arith}
use Rattle.std.proofs.Math.ListN.{length, get_or, take, drop, length-take, get_or-append}
use Rattle.std.proofs.Math.Seq.{length-take-le, get_or-drop, get_or-take, get_or-append-add}
use borrow.Rule.Slice.PartMut.{put_mid}
use Rattle.store.specs.Zeros.{zeroed, zeroed_is}

-- the words ws in place of the first of d
unfoldable pub front : List ℕ → List ℕ → List ℕ
front ws d = ws ++ drop (length ws) d

-- the words ws from place `at` on
unfoldable pub laid : List ℕ → ℕ → List ℕ → List ℕ
laid s at ws = take at s ++ front ws (drop at s)

-- ---- the words written over a part of the list, as long as they are, said of the whole
pub put_laid : (s : List ℕ) (at : ℕ) (ws : List ℕ) {k : ℕ} → k ≡ length ws → put_mid at k s ws ≡ laid s at ws
unfolding laid front
put_laid s at ws e = rw e

-- ---- what stands where
module _ (s : List ℕ) (top : ℕ) (ws : List ℕ) (fits : top + length ws ≤ length s) where
  pub laid_length : length (laid s top ws) ≡ length s
  unfolding laid front
  laid_length = simp (length-append, length-take, length-drop) (omega arith)

  -- below the place nothing changed
  pub laid_below : (i : ℕ) → i < top → get_or (laid s top ws) i 0 ≡ get_or s i 0
  unfolding laid
  laid_below i h = let e = length-take-le top s (omega arith) in get_or-append (take top s) _ 0 i (omega arith) ∙ get_or-take top s i 0 h

  -- nor behind the words
  pub laid_after : (i : ℕ) → top + length ws ≤ i → get_or (laid s top ws) i 0 ≡ get_or s i 0
  unfolding laid front
  laid_after i h =
      let e : length (take top s) ≡ top = length-take-le top s (omega arith) in
      let k : ℕ = i - (top + length ws) in
      let a : i ≡ length (take top s) + (length ws + k) = omega arith in
      let b : top + (length ws + k) ≡ i = omega arith in
      ap (λ (j : ℕ). get_or (take top s ++ (ws ++ drop (length ws) (drop top s))) j 0) a
      ∙ get_or-append-add (take top s) _ (length ws + k) 0 ∙ get_or-append-add ws _ k 0
      ∙ get_or-drop (length ws) (drop top s) k 0 ∙ get_or-drop top s (length ws + k) 0 ∙ ap (λ (j : ℕ). get_or s j 0) b

  -- over words that were 0 they can be taken away again
  pub laid_undone : ((i : ℕ) → top ≤ i → get_or s i 0 ≡ 0) → zeroed top (laid s top ws) ≡ s
  laid_undone z = zeroed_is top (laid s top ws) (let l = laid_length in omega arith) s (sym laid_length) laid_below z
