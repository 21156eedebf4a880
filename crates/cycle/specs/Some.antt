-- A test of the numbers below n, some of which passes: the quantifier that paths compute with.
use Rattle.std.specs.Prelude.{◌≡◌, Bool, ◌||◌}
use Rattle.std.proofs.Math.Path.{refl}
use Rattle.std.proofs.Common.{sym, subst, ◌∙◌}
use Rattle.std.proofs.Math.Bool.{true, false, or-true}
use Rattle.std.proofs.lemmas.Bool.{false≢true}
use Prim.Native.Nat.{ℕ, zero, suc, ◌<◌}
use native.Mathlib.Omega.{arith}
use Rattle.std.proofs.Math.Decide.{ℕ_discrete}

-- p holds of 0, or of 1, .., or of n - 1
unfoldable pub some_below : ℕ → (ℕ → Bool) → Bool
some_below zero p = false
some_below (suc n) p = p n || some_below n p

module _ (p : ℕ → Bool) where
  pub some_true : (n k : ℕ) → k < n → p k ≡ true → some_below n p ≡ true
  unfolding some_below
  some_true zero k h e = absurd (omega arith)
  some_true (suc n) k h e = elim (ℕ_discrete k n) [ yes q ↦ rw (subst (λ (j : ℕ). p j ≡ true) q e) | no q ↦ rw (some_true n k (omega arith) e) (or-true (p n)) ]

  pub some_holds : (n : ℕ) → some_below n p ≡ true → (k : ℕ) × (k < n) × (p k ≡ true)
  unfolding some_below
  some_holds zero e = absurd (false≢true e)
  some_holds (suc n) e = go (p n) refl e (λ h. some_holds n h)
    where
      go : (b : Bool) → p n ≡ b → (b || some_below n p) ≡ true → (some_below n p ≡ true → (k : ℕ) × (k < n) × (p k ≡ true)) → (k : ℕ) × (k < suc n) × (p k ≡ true)
      go true q h ih = (n, omega arith, q)
      go false q h ih = let r = ih h in let l = r.1 in (r.0, omega arith, r.2)

  pub none_holds : (n : ℕ) → some_below n p ≡ false → (k : ℕ) → k < n → p k ≡ false
  none_holds n e k h = go (p k) refl
    where
      go : (b : Bool) → p k ≡ b → b ≡ false
      go true q = absurd (false≢true (sym e ∙ some_true n k h q))
      go false q = refl
