-- A sum over n numbers from a start on.
use Rattle.std.specs.Prelude.{◌≡◌, refl}
use Rattle.std.proofs.Common.{ap₂}
use Prim.Native.Nat.{ℕ, zero, suc, ◌+◌, ◌-◌, ◌<◌, ◌≤◌}
use native.Mathlib.Omega.{arith}
use Rattle.std.proofs.Math.Numerals.{add-one}
use Rattle.std.proofs.Math.Decide.{ℕ_discrete}

-- g from + g (from + 1) + .. + g (from + n - 1)
unfoldable pub sum_from : ℕ → ℕ → (ℕ → ℕ) → ℕ
sum_from from zero g = 0
sum_from from (suc n) g = g from + sum_from (suc from) n g

module _ (g : ℕ → ℕ) where
  pub sum_done : (i : ℕ) {e : ℕ} → e ≤ i → sum_from i (e - i) g ≡ 0
  unfolding sum_from
  sum_done i {e} h = let z : e - i ≡ 0 = omega arith in rw z

  pub sum_goes : (i : ℕ) {e : ℕ} → i < e → sum_from i (e - i) g ≡ g i + sum_from (i + 1) (e - (i + 1)) g
  unfolding sum_from
  sum_goes i {e} h =
      let z : e - i ≡ suc (e - (i + 1)) = omega arith in
      rw (z, add-one i)

-- sums of what agrees
pub sum_same : (g h : ℕ → ℕ) (n from : ℕ) → ((i : ℕ) → from ≤ i → i < from + n → g i ≡ h i) → sum_from from n g ≡ sum_from from n h
unfolding sum_from
sum_same g h zero from e = refl
sum_same g h (suc n) from e = ap₂ ◌+◌ (e from (omega arith) (omega arith)) (sum_same g h n (suc from) (λ i a b. e i (omega arith) (omega arith)))

-- one more at one place
pub sum_one : (g h : ℕ → ℕ) (n from b d : ℕ) → from ≤ b → b < from + n → h b ≡ g b + d → ((k : ℕ) → from ≤ k → k < from + n → (k ≡ b → ⊥) → h k ≡ g k) → sum_from from n h ≡ sum_from from n g + d
unfolding sum_from
sum_one g h zero from b d l u e f = absurd (omega arith)
sum_one g h (suc n) from b d l u e f =
    elim (ℕ_discrete from b) [ yes z ↦ here z | no z ↦ (let i = sum_one g h n (suc from) b d (omega arith) (omega arith) e (λ k a c. f k (omega arith) (omega arith)) in let j = f from (omega arith) (omega arith) z in omega arith) ]
  where
    here : from ≡ b → h from + sum_from (suc from) n h ≡ g from + sum_from (suc from) n g + d
    here z =
        let i = sum_same h g n (suc from) (λ k a c. f k (omega arith) (omega arith) (λ y. omega arith)) in
        let j : h from ≡ g from + d = rw z e in
        omega arith

-- no more at any place
pub sum_le : (g h : ℕ → ℕ) (n from : ℕ) → ((k : ℕ) → from ≤ k → k < from + n → g k ≤ h k) → sum_from from n g ≤ sum_from from n h
unfolding sum_from
sum_le g h zero from f = omega arith
sum_le g h (suc n) from f = let a = f from (omega arith) (omega arith) in let b = sum_le g h n (suc from) (λ k x y. f k (omega arith) (omega arith)) in omega arith

-- at most d more at one place, and no more at any other
pub sum_once : (g h : ℕ → ℕ) (b d n from : ℕ) → h b ≤ g b + d → ((k : ℕ) → (k ≡ b → ⊥) → h k ≤ g k) → sum_from from n h ≤ sum_from from n g + d
unfolding sum_from
sum_once g h b d zero from e f = omega arith
sum_once g h b d (suc n) from e f =
    elim (ℕ_discrete from b) [
      | yes z ↦ (let i : h from ≤ g from + d = rw z e in let r = sum_le h g n (suc from) (λ k x y. f k (λ q. omega arith)) in omega arith)
      | no z ↦ (let i = f from z in let r = sum_once g h b d n (suc from) e f in omega arith)
    ]

-- term by term
pub sum_add : (g h : ℕ → ℕ) (n from : ℕ) → sum_from from n (λ k. g k + h k) ≡ sum_from from n g + sum_from from n h
unfolding sum_from
sum_add g h zero from = refl
sum_add g h (suc n) from = let r = sum_add g h n (suc from) in omega arith

-- the last one apart
pub sum_last : (g : ℕ → ℕ) (n from : ℕ) → sum_from from (suc n) g ≡ sum_from from n g + g (from + n)
unfolding sum_from
sum_last g zero from = let z : from + 0 ≡ from = omega arith in rw z (omega arith)
sum_last g (suc n) from = let r = sum_last g n (suc from) in let z : from + suc n ≡ suc from + n = omega arith in rw z (omega arith)
