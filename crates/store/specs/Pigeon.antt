-- Of m + 1 numbers below m two are equal.
use Rattle.std.specs.Prelude.{◌≡◌, ℕ, zero, suc, ◌<◌, ◌≤◌}
use Rattle.std.proofs.Math.Path.{sym}
use Rattle.std.proofs.Common.{ap, ◌∙◌}
use native.Mathlib.Omega.{arith}
use Rattle.std.proofs.Math.Decide.{ℕ_discrete}

abbrev pub Twice : (ℕ → ℕ) → ℕ → Type 0
Twice f m = (i : ℕ) × (j : ℕ) × (i < j) × (j ≤ m) × (f i ≡ f j)

-- one below n at which f is v, or none
look : (f : ℕ → ℕ) (v n : ℕ) → Dec ((i : ℕ) × (i < n) × (f i ≡ v))
look f v zero = no (λ p. absurd (below_zero p.1))
  where
    below_zero : {i : ℕ} → i < 0 → ⊥
    below_zero h = omega arith
look f v (suc n) = go (look f v n) (ℕ_discrete (f n) v)
  where
    go : Dec ((i : ℕ) × (i < n) × (f i ≡ v)) → Dec (f n ≡ v) → Dec ((i : ℕ) × (i < suc n) × (f i ≡ v))
    go (yes p) d = yes (p.0, (let h = p.1 in omega arith), p.2)
    go (no q) (yes e) = yes (n, omega arith, e)
    go (no q) (no d) = no (λ p. elim (ℕ_discrete p.0 n) [ yes e ↦ d (ap f (sym e) ∙ p.2) | no ne ↦ q (p.0, (let h = p.1 in omega arith), p.2) ])

-- f with the hole v put where it was w
moved : (f : ℕ → ℕ) (w v i : ℕ) → Dec (f i ≡ w) → ℕ
moved f w v i (yes e) = v
moved f w v i (no n) = f i

module _ (m : ℕ) (f : ℕ → ℕ) (h : (i : ℕ) → i ≤ suc m → f i < suc m) (q : (i : ℕ) → i ≤ m → f i ≡ f (suc m) → ⊥) where
  moved_lt : (i : ℕ) → i ≤ m → (d : Dec (f i ≡ m)) → moved f m (f (suc m)) i d < m
  unfolding moved
  moved_lt i l (yes e) =
      let k = h (suc m) (omega arith) in
      let n : f (suc m) ≡ m → ⊥ = λ z. q i l (e ∙ sym z) in
      omega arith
  moved_lt i l (no n) = let k = h i (omega arith) in omega arith

  moved_same : (i j : ℕ) → i ≤ m → j ≤ m → (d : Dec (f i ≡ m)) (e : Dec (f j ≡ m)) → moved f m (f (suc m)) i d ≡ moved f m (f (suc m)) j e → f i ≡ f j
  unfolding moved
  moved_same i j k l (yes a) (yes b) e = a ∙ sym b
  moved_same i j k l (yes a) (no b) e = absurd (q j l (sym e))
  moved_same i j k l (no a) (yes b) e = absurd (q i k e)
  moved_same i j k l (no a) (no b) e = e

  fewer : ((g : ℕ → ℕ) → ((i : ℕ) → i ≤ m → g i < m) → Twice g m) → Twice f (suc m)
  fewer ih =
      let t = ih (λ i. moved f m (f (suc m)) i (ℕ_discrete (f i) m)) (λ i l. moved_lt i l (ℕ_discrete (f i) m)) in
      let l = t.2 in
      let k = t.3 in
      (t.0, t.1, t.2, omega arith, moved_same t.0 t.1 (omega arith) t.3 (ℕ_discrete (f t.0) m) (ℕ_discrete (f t.1) m) t.4)

one_more : (m : ℕ) (f : ℕ → ℕ) → ((i : ℕ) → i ≤ suc m → f i < suc m) → ((g : ℕ → ℕ) → ((i : ℕ) → i ≤ m → g i < m) → Twice g m) → Twice f (suc m)
one_more m f h ih = go (look f (f (suc m)) (suc m))
  where
    go : Dec ((i : ℕ) × (i < suc m) × (f i ≡ f (suc m))) → Twice f (suc m)
    go (yes p) = (p.0, suc m, p.1, omega arith, p.2)
    go (no q) = fewer m f h (λ i l e. q (i, omega arith, e)) ih

pub pigeon : (m : ℕ) (f : ℕ → ℕ) → ((i : ℕ) → i ≤ m → f i < m) → Twice f m
pigeon zero f h = let g = h 0 (omega arith) in absurd (omega arith)
pigeon (suc m) f h = one_more m f h (pigeon m)
