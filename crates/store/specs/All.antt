-- A test of each of n numbers from a start on, computed.
use Rattle.std.specs.Prelude.{◌≡◌, Bool, true, false, ◌&&◌}
use Rattle.std.proofs.Math.Path.{refl, subst}
use Rattle.std.proofs.Common.{sym, ap, ◌∙◌}
use Rattle.std.proofs.lemmas.Bool.{false≢true}
use Rattle.std.proofs.Math.Bool.{and-eq-true_iff}
use Prim.Native.Nat.{ℕ, zero, suc, ◌+◌, ◌-◌, ◌<◌, ◌≤◌}
use native.Mathlib.Omega.{arith}
use Rattle.std.proofs.Math.Numerals.{add-one}
use Rattle.std.proofs.Math.Decide.{ℕ_discrete}

-- p holds of from, from + 1, .., from + n - 1
unfoldable pub all_from : ℕ → ℕ → (ℕ → Bool) → Bool
all_from from zero p = true
all_from from (suc n) p = p from && all_from (suc from) n p

module _ (p : ℕ → Bool) where
  -- the first of what is left decides, or the rest does
  pub all_done : (i : ℕ) {e : ℕ} → e ≤ i → all_from i (e - i) p ≡ true
  unfolding all_from
  all_done i {e} h = let z : e - i ≡ 0 = omega arith in rw z

  pub all_split : (i : ℕ) {e : ℕ} → i < e → all_from i (e - i) p ≡ (p i && all_from (i + 1) (e - (i + 1)) p)
  unfolding all_from
  all_split i {e} h =
      let z : e - i ≡ suc (e - (i + 1)) = omega arith in
      rw (z, add-one i)

  pub all_fails : (i : ℕ) {e : ℕ} → i < e → p i ≡ false → all_from i (e - i) p ≡ false
  all_fails i h f = rw (all_split i h, f)

  pub all_goes : (i : ℕ) {e : ℕ} → i < e → p i ≡ true → all_from i (e - i) p ≡ all_from (i + 1) (e - (i + 1)) p
  all_goes i h t = rw (all_split i h, t)

  pub all_holds : (n from : ℕ) → all_from from n p ≡ true → (i : ℕ) → from ≤ i → i < from + n → p i ≡ true
  unfolding all_from
  all_holds zero from h i l g = absurd (omega arith)
  all_holds (suc n) from h i l g =
      let b = (and-eq-true_iff (p from) (all_from (suc from) n p)).0 h in
      elim (ℕ_discrete from i) [ yes e ↦ subst (λ (j : ℕ). p j ≡ true) e b.0 | no d ↦ all_holds n (suc from) b.1 i (omega arith) (omega arith) ]

  pub all_true : (n from : ℕ) → ((i : ℕ) → from ≤ i → i < from + n → p i ≡ true) → all_from from n p ≡ true
  unfolding all_from
  all_true zero from h = refl
  all_true (suc n) from h = rw (h from (omega arith) (omega arith)) (all_true n (suc from) (λ i l g. h i (omega arith) (omega arith)))

  -- what is known of the first d goes away
  pub all_skip : (d i : ℕ) {e : ℕ} → i + d ≤ e → ((j : ℕ) → i ≤ j → j < i + d → p j ≡ true) → all_from i (e - i) p ≡ all_from (i + d) (e - (i + d)) p
  all_skip zero i {e} h t = let z : i ≡ i + 0 = omega arith in ap (λ (k : ℕ). all_from k (e - k) p) z
  all_skip (suc d) i {e} h t =
      let z : i + 1 + d ≡ i + suc d = omega arith in
      all_goes i (omega arith) (t i (omega arith) (omega arith))
      ∙ all_skip d (i + 1) (omega arith) (λ j a b. t j (omega arith) (omega arith))
      ∙ ap (λ (k : ℕ). all_from k (e - k) p) z

  -- one that fails
  pub all_broken : (n from i : ℕ) → from ≤ i → i < from + n → p i ≡ false → all_from from n p ≡ false
  all_broken n from i a b e = go (all_from from n p) refl
    where
      go : (t : Bool) → all_from from n p ≡ t → t ≡ false
      go true q = absurd (false≢true (sym e ∙ all_holds n from q i a b))
      go false q = refl

-- tests that agree
pub all_same : (p q : ℕ → Bool) (n from : ℕ) → ((i : ℕ) → from ≤ i → i < from + n → p i ≡ q i) → all_from from n p ≡ all_from from n q
unfolding all_from
all_same p q zero from h = refl
all_same p q (suc n) from h = rw (h from (omega arith) (omega arith), all_same p q n (suc from) (λ i a b. h i (omega arith) (omega arith)))

-- ---- a test and what comes after it
pub and_fails : (a z : Bool) → a ≡ false → false ≡ (a && z)
and_fails a z e = rw e

pub and_goes : (a z : Bool) → a ≡ true → z ≡ (a && z)
and_goes a z e = rw e

pub and_same : (a b z : Bool) → a ≡ b → (a && z) ≡ (b && z)
and_same a b z e = rw e
