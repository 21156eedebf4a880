-- Sums over the cells of a store that differ at one place.
use Rattle.std.specs.Prelude.{◌≡◌, ℕ, zero, suc, ◌+◌, ◌<◌, ◌≤◌}
use Rattle.std.proofs.Common.{sym, ap, arith}
use Rattle.std.proofs.Math.Decide.{ℕ_discrete}
use Rattle.cycle.specs.Sum.{sum_from, sum_one}

-- one place that is 0 in g
pub sum_drop : (f g : ℕ → ℕ) (q n from : ℕ) → from ≤ q → q < from + n → g q ≡ 0 → ((k : ℕ) → (k ≡ q → ⊥) → g k ≡ f k) → sum_from from n f ≡ sum_from from n g + f q
sum_drop f g q n from l h z e = sum_one g f n from q (f q) l h (omega arith) (λ k _ _ w. sym (e k w))

-- one place of a sum
pub sum_at : (f : ℕ → ℕ) (q n from : ℕ) → from ≤ q → q < from + n → f q ≤ sum_from from n f
unfolding sum_from
sum_at f q zero from l h = absurd (omega arith)
sum_at f q (suc n) from l h =
    elim (ℕ_discrete from q) [
      | yes p ↦ omega (arith, ap f p)
      | no p ↦ omega (arith, sum_at f q n (suc from) (omega arith) (omega arith))
    ]
