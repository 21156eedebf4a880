-- The code's signed arithmetic: what 64-bit numbers and their tests come to in two's complement on 56 bits. A proof has a signed local as `to_z w64 (of_z w64 z)`, read back from its bits.
use Rattle.std.specs.Prelude.{Ok, Err}
use mathlib.Core.Path.{◌≡◌, refl, sym, ap, subst, subst⁻¹, ◌∙◌}
use mathlib.Core.Bool.{true, false}
use Prim.Native.Nat.{ℕ, suc, ◌-◌, ◌^◌, ◌<◌, ◌≤◌}
use native.Mathlib.Omega.{arith}
use native.Mathlib.Nat.{not-suc-le-zero}
use lib.IntN.{ℤ, pos, negsuc, ◌-ℤ◌, ◌+ℤ◌, nat_abs}
use lib.Signed.{lt_z, non_neg}
use lib.Dec.{T}
use mir.Syntax.{w64}
use mir.Val.{to_z, of_z, SFits, Fits}
use mir.Facts.{to_z_pos, to_z-of_z}
use borrow.Author.Tests.{lt-ltb, le-ltb, ltb-true, ltb-false}
use Rattle.cell.specs.declared.Refusal.TheVariants.{Number}
use Rattle.cell.specs.Word.{word_of}
use Rattle.cell.specs.Fixnum.{to_number, of_number, in_range, value_lt}
use Rattle.cell.specs.Answers.{number_cell}

-- ---- 56 bits read as a number: the upper half, less 2 ^ 56
lowered : (v : ℕ) → v < 2 ^ 56 → to_z w64 v -ℤ pos (2 ^ 56) ≡ negsuc (2 ^ 56 - suc v)
lowered v h = rw (to_z_pos w64 {n = v} (omega arith), lt-ltb v (2 ^ 56) h)

pub lowered_fits : (v : ℕ) → v < 2 ^ 56 → SFits w64 (to_z w64 v -ℤ pos (2 ^ 56))
lowered_fits v h = rw (lowered v h) (record { sfits = omega arith })

pub number_low : (v : ℕ) → v < 2 ^ 55 → to_z w64 v ≡ to_number v
unfolding to_number
number_low v h = rw (lt-ltb v (2 ^ 55) h) (to_z_pos w64 {n = v} (omega arith))

pub number_high : (v : ℕ) → 2 ^ 55 ≤ v → v < 2 ^ 56 → to_z w64 (of_z w64 (to_z w64 v -ℤ pos (2 ^ 56))) ≡ to_number v
unfolding to_number
number_high v l h = rw (le-ltb v (2 ^ 55) l) (to_z-of_z (lowered_fits v h) ∙ lowered v h)

-- ---- a number of 64 bits made a word of 56: the tests, and the value that the casts give
never : false ≡ true → ⊥
never h = subst T (sym h) tt

too_low : (z : ℤ) → lt_z z (negsuc (2 ^ 55 - 1)) ≡ true → in_range z ≡ false
too_low (pos a) h = absurd (never h)
too_low (negsuc a) h = le-ltb a (2 ^ 55) (omega (arith, ltb-true (2 ^ 55 - 1) a h))

too_high : (z : ℤ) → lt_z (pos (2 ^ 55 - 1)) z ≡ true → in_range z ≡ false
too_high (pos a) h = le-ltb a (2 ^ 55) (omega (arith, ltb-true (2 ^ 55 - 1) a h))
too_high (negsuc a) h = absurd (never h)

inside : (z : ℤ) → lt_z z (negsuc (2 ^ 55 - 1)) ≡ false → lt_z (pos (2 ^ 55 - 1)) z ≡ false → in_range z ≡ true
inside (pos a) l h = lt-ltb a (2 ^ 55) (omega (arith, ltb-false (2 ^ 55 - 1) a h))
inside (negsuc a) l h = lt-ltb a (2 ^ 55) (omega (arith, ltb-false (2 ^ 55 - 1) a l))

raised : (z : ℤ) → in_range z ≡ true → lt_z z (pos 0) ≡ true → z +ℤ pos (2 ^ 56) ≡ pos (of_number z)
unfolding of_number
raised (pos a) r h = absurd (not-suc-le-zero (ltb-true a 0 h))
raised (negsuc a) r h = rw (le-ltb (2 ^ 56) (suc a) (omega (arith, ltb-true a (2 ^ 55) r)))

kept : (z : ℤ) → lt_z z (pos 0) ≡ false → z ≡ pos (of_number z)
unfolding of_number
kept (pos a) h = refl
kept (negsuc a) h = absurd (never (sym h))

module _ (z : ℤ) (f : SFits w64 z) where
  abbrev seen : ℤ
  seen = to_z w64 (of_z w64 z)

  -- the tests are made of the number as it is seen
  as_seen : (P : ℤ → Type 0) → P seen → P z
  as_seen P h = subst P (to_z-of_z f) h

  pub is_low : lt_z seen (negsuc (2 ^ 55 - 1)) ≡ true → in_range z ≡ false
  is_low h = too_low z (as_seen (λ y. lt_z y (negsuc (2 ^ 55 - 1)) ≡ true) h)

  pub is_high : lt_z (pos (2 ^ 55 - 1)) seen ≡ true → in_range z ≡ false
  is_high h = too_high z (as_seen (λ y. lt_z (pos (2 ^ 55 - 1)) y ≡ true) h)

  pub is_inside : lt_z seen (negsuc (2 ^ 55 - 1)) ≡ false → lt_z (pos (2 ^ 55 - 1)) seen ≡ false → in_range z ≡ true
  is_inside l h = inside z (as_seen (λ y. lt_z y (negsuc (2 ^ 55 - 1)) ≡ false) l) (as_seen (λ y. lt_z (pos (2 ^ 55 - 1)) y ≡ false) h)

  module _ (r : in_range z ≡ true) where
    raised_seen : lt_z seen (pos 0) ≡ true → seen +ℤ pos (2 ^ 56) ≡ pos (of_number z)
    raised_seen h =
        subst⁻¹ (λ (y : ℤ). y +ℤ pos (2 ^ 56) ≡ pos (of_number z)) (to_z-of_z f)
        (raised z r (as_seen (λ y. lt_z y (pos 0) ≡ true) h))

    pub raised_fits : lt_z seen (pos 0) ≡ true → SFits w64 (seen +ℤ pos (2 ^ 56))
    raised_fits h = rw (raised_seen h) (record { sfits = omega (arith, value_lt z r) })

    pub raised_back : lt_z seen (pos 0) ≡ true → to_z w64 (of_z w64 (seen +ℤ pos (2 ^ 56))) ≡ pos (of_number z)
    raised_back h = to_z-of_z (raised_fits h) ∙ raised_seen h

    pub kept_back : lt_z seen (pos 0) ≡ false → seen ≡ pos (of_number z)
    kept_back h = to_z-of_z f ∙ kept z (as_seen (λ y. lt_z y (pos 0) ≡ false) h)

    -- of an integer that is the value: what its cast to `u64` asks, and what it gives
    pub cast_asks : (y : ℤ) → y ≡ pos (of_number z) → T (non_neg y) × Fits w64 (nat_abs y)
    cast_asks y e = rw e (tt, record { fits = omega (arith, value_lt z r) })

    pub cast_lt : (y : ℤ) → y ≡ pos (of_number z) → nat_abs y < 2 ^ 56
    cast_lt y e = rw e (value_lt z r)

    pub made : (y : ℤ) (w : ℕ) → y ≡ pos (of_number z) → w ≡ word_of 5 0 0 (nat_abs y) → Ok w ≡ number_cell z
    unfolding number_cell
    made y w e q = rw r (ap Ok (q ∙ ap (λ (n : ℤ). word_of 5 0 0 (nat_abs n)) e))

pub refused : (z : ℤ) → in_range z ≡ false → Err Number ≡ number_cell z
unfolding number_cell
refused z r = rw r

-- ---- the word of a Fixnum, through a call with the number read back from its bits
module _ (z : ℤ) (r : in_range z ≡ true) where
  made_is : number_cell z ≡ Ok (word_of 5 0 0 (of_number z))
  unfolding number_cell
  made_is = rw r

  fits : (y : ℤ) → in_range y ≡ true → SFits w64 y
  fits (pos a) h = record { sfits = omega (arith, ltb-true a (2 ^ 55) h) }
  fits (negsuc a) h = record { sfits = omega (arith, ltb-true a (2 ^ 55) h) }

  pub called : number_cell (to_z w64 (of_z w64 z)) ≡ Ok (word_of 5 0 0 (of_number z))
  called = ap number_cell (to_z-of_z (fits z r)) ∙ made_is
