-- Following ends somewhere: if and only if it does from the next cell, and the same as that it ends within `top` steps, which is the test.
use Rattle.std.specs.Prelude.{◌≡◌, true, List}
use Rattle.std.proofs.Math.Path.{sym, ap}
use Rattle.std.proofs.Common.{subst, ◌∙◌}
use Prim.Native.Nat.{ℕ, zero, suc, ◌+◌, ◌*◌, ◌-◌, ◌<◌, ◌≤◌}
use native.Mathlib.Omega.{arith}
use Rattle.std.proofs.Math.Nat.{zero-add, suc-add, zero-mul, suc-mul}
use borrow.Author.Tests.{eq-eqb, eqb-true}
use Rattle.store.specs.All.{all_true}
use Rattle.store.specs.Store.{step, steps, end_of, Ends, ends_at, cells_keep, cells_end}
use Rattle.store.specs.Steps.{steps_fixed, steps_used}
use Rattle.store.specs.Pigeon.{pigeon}

module _ (s : List ℕ) where
  pub steps_add : (m n i : ℕ) → steps s (m + n) i ≡ steps s n (steps s m i)
  unfolding steps
  steps_add zero n i = rw zero-add
  steps_add (suc m) n i = rw suc-add (steps_add m n (step s i))

  pub steps_more : (n i : ℕ) → steps s (n + 1) i ≡ step s (steps s n i)
  unfolding steps
  steps_more n i = steps_add n 1 i

  -- ---- where following ends
  pub ends_stay : (i : ℕ) → step s i ≡ i → Ends s i
  unfolding steps
  ends_stay i e = (0, e)

  pub ends_back : (i : ℕ) → Ends s (step s i) → Ends s i
  unfolding steps
  ends_back i (n, e) = (suc n, e)

  pub ends_far : (n i : ℕ) → Ends s (steps s n i) → Ends s i
  unfolding steps
  ends_far zero i h = h
  ends_far (suc n) i h = ends_back i (ends_far n (step s i) h)

  -- it ends from the next cell too, at the same cell
  pub end_next : (top i : ℕ) → step s (end_of s top i) ≡ end_of s top i → end_of s top (step s i) ≡ end_of s top i
  unfolding steps
  end_next top i e =
      let z : 1 + top ≡ top + 1 = omega arith in
      sym (steps_add 1 top i) ∙ ap (λ (n : ℕ). steps s n i) z ∙ steps_add top 1 i ∙ e

  pub ends_on : (m i : ℕ) → Ends s i → Ends s (steps s m i)
  unfolding steps
  ends_on zero i h = h
  ends_on (suc m) i (n, e) = let q = end_next n i e in ends_on m (step s i) (n, ap (step s) q ∙ e ∙ sym q)

  -- past where it ends nothing moves
  later : (n m i : ℕ) → step s (steps s n i) ≡ steps s n i → n ≤ m → steps s m i ≡ steps s n i
  later n m i e l =
      let z : m ≡ n + (m - n) = omega arith in
      subst (λ (k : ℕ). steps s k i ≡ steps s n i) (sym z) (steps_add n (m - n) i ∙ steps_fixed s (m - n) (steps s n i) e)

  -- ---- a walk that comes back to where it was goes round for ever
  round : (i p : ℕ) → steps s p i ≡ i → (k : ℕ) → steps s (k * p) i ≡ i
  unfolding steps
  round i p e zero = rw zero-mul
  round i p e (suc k) = rw suc-mul (steps_add (k * p) p i ∙ ap (steps s p) (round i p e k) ∙ e)

  grows : (k p : ℕ) → 1 ≤ p → k ≤ k * p
  grows zero p h = omega arith
  grows (suc k) p h = let g = grows k p h in rw suc-mul (omega arith)

  -- so if following ends at all, it stays where it came back to
  pub back_stays : (i a b : ℕ) → a < b → steps s a i ≡ steps s b i → Ends s i → step s (steps s a i) ≡ steps s a i
  back_stays i a b l t (n, e) =
      let p = b - a in
      let z : b ≡ a + p = omega arith in
      let back : steps s p (steps s a i) ≡ steps s a i = sym (steps_add a p i) ∙ ap (λ (k : ℕ). steps s k i) (sym z) ∙ sym t in
      let far : steps s (a + n * p) i ≡ steps s a i = steps_add a (n * p) i ∙ round (steps s a i) p back n in
      let g = grows n p (omega arith) in
      let same : steps s a i ≡ steps s n i = sym far ∙ later n (a + n * p) i e (omega arith) in
      ap (step s) same ∙ e ∙ sym same

  -- ---- the test
  pub ends_in : (top : ℕ) → cells_keep s 1 top ≡ true → (i : ℕ) → 1 ≤ i → i < top → Ends s i → step s (steps s top i) ≡ steps s top i
  ends_in top all i l h e =
      let t = pigeon top (λ (k : ℕ). steps s k i) (λ k _. (steps_used s top all k i l h).1) in
      let below = t.2 in
      let within = t.3 in
      let fixed = back_stays i t.0 t.1 below t.4 e in
      let done : steps s top i ≡ steps s t.0 i = later t.0 top i fixed (omega arith) in
      ap (step s) done ∙ fixed ∙ sym done

  pub ends_tested : (top i : ℕ) → ends_at s top i ≡ true → Ends s i
  unfolding ends_at
  ends_tested top i e = (top, eqb-true (step s (end_of s top i)) (end_of s top i) e)

  module _ (top : ℕ) (all : cells_keep s 1 top ≡ true) where
    pub ends_test : (i : ℕ) → 1 ≤ i → i < top → Ends s i → ends_at s top i ≡ true
    unfolding ends_at
    ends_test i a b h = eq-eqb (step s (end_of s top i)) (end_of s top i) (ends_in top all i a b h)

    pub ends_cells : (from : ℕ) → 1 ≤ from → ((i : ℕ) → from ≤ i → i < top → Ends s i) → cells_end s from top ≡ true
    unfolding cells_end
    ends_cells from a h = all_true (ends_at s top) (top - from) from (λ i l b. ends_test i (omega arith) (omega arith) (h i l (omega arith)))
