-- A table of cells with a bit for each, in words of 64: whether a cell is noted, and noting one.
use Rattle.std.specs.Prelude.{◌≡◌, refl, List, ℕ, zero, suc, ◌+◌, ◌-◌, ◌/◌, ◌%◌, ◌^◌, ◌<◌, length, get_or, set, replicate}
use Rattle.std.proofs.Common.{ap, ◌∙◌, one-mul, arith, get_or-set_other, pow-add, pow_pos}
use Rattle.std.proofs.Math.Nat.{div-eq_of_lt}
use Rattle.std.proofs.Math.Decide.{ℕ_discrete, dec_lt}
use Rattle.std.proofs.Math.ListN.{length-set, get_or-eq_default}
use Rattle.std.proofs.lemmas.List.{length-replicate, get_or-replicate}
use Rattle.std.proofs.Math.Seq.{get_or-set_same}
use Rattle.std.specs.Int.Bits.{bit_or, or_zero_r, shifted_even}
use Rattle.std.proofs.lemmas.Nat.{or_mod, or_shr, shl-shr}
use Rattle.std.proofs.Math.Pow.{pow-lt}

-- the bit of cell j: 1 where it is noted
unfoldable pub bit_at : List ℕ → ℕ → ℕ
bit_at table j = get_or table (j / 64) 0 / 2 ^ (j % 64) % 2

-- the table with cell e noted
unfoldable pub noting : List ℕ → ℕ → List ℕ
noting table e = set table (e / 64) (bit_or (get_or table (e / 64) 0) (2 ^ (e % 64)))

-- ---- one bit of a word
or_odd : (x y : ℕ) → y % 2 ≡ 1 → bit_or x y % 2 ≡ 1
or_odd x y e = or_mod x y 1 ∙ rw e (low (x % 2) (omega arith))
  where
    low : (b : ℕ) → b < 2 → bit_or b 1 ≡ 1
    low zero h = refl
    low (suc zero) h = refl
    low (suc (suc b)) h = absurd (omega arith)

or_even : (x y : ℕ) → y % 2 ≡ 0 → bit_or x y % 2 ≡ x % 2
or_even x y e = or_mod x y 1 ∙ rw e (or_zero_r (x % 2))

power : (k : ℕ) → 2 ^ k / 2 ^ k ≡ 1
power k = rw one-mul at (shl-shr 1 k)

power_other : (k j : ℕ) → (k ≡ j → ⊥) → 2 ^ k / 2 ^ j % 2 ≡ 0
power_other k j n =
    elim (dec_lt k j) [
      | yes l ↦ rw (div-eq_of_lt (pow-lt l))
      | no l ↦ above (k - j - 1) (omega arith)
    ]
  where
    above : (d : ℕ) → k ≡ suc d + j → 2 ^ k / 2 ^ j % 2 ≡ 0
    above d e = rw (e, pow-add 2 (suc d) j, shl-shr (2 ^ suc d) j) (rw one-mul at (shifted_even 1 d))

word_here : (w k : ℕ) → bit_or w (2 ^ k) / 2 ^ k % 2 ≡ 1
word_here w k = rw (or_shr w (2 ^ k) k) (or_odd (w / 2 ^ k) (2 ^ k / 2 ^ k) (rw (power k)))

word_other : (w k j : ℕ) → (k ≡ j → ⊥) → bit_or w (2 ^ k) / 2 ^ j % 2 ≡ w / 2 ^ j % 2
word_other w k j n = rw (or_shr w (2 ^ k) j) (or_even (w / 2 ^ j) (2 ^ k / 2 ^ j) (power_other k j n))

-- ---- none is noted in a table of zeros, and noting a cell changes it alone
pub bit_none : (n j : ℕ) → bit_at (replicate n 0) j ≡ 0
unfolding bit_at
bit_none n j = rw zero (ap (λ (x : ℕ). x % 2) (div-eq_of_lt (pow_pos (j % 64))))
  where
    zero : get_or {A = ℕ} (replicate n 0) (j / 64) 0 ≡ 0
    zero =
        let z = length-replicate {A = ℕ} n 0 in
        elim (dec_lt (j / 64) n) [ yes l ↦ get_or-replicate n (j / 64) 0 0 l | no l ↦ get_or-eq_default (replicate n 0) 0 (omega arith) ]

module _ (table : List ℕ) (e : ℕ) where
  pub length_noting : length (noting table e) ≡ length table
  unfolding noting
  length_noting = length-set table (e / 64) _

  pub bit_same : e / 64 < length table → bit_at (noting table e) e ≡ 1
  unfolding bit_at noting
  bit_same h = rw (get_or-set_same table (e / 64) (bit_or (get_or table (e / 64) 0) (2 ^ (e % 64))) 0 h) (word_here (get_or table (e / 64) 0) (e % 64))

  pub bit_other : e / 64 < length table → (j : ℕ) → (j ≡ e → ⊥) → bit_at (noting table e) j ≡ bit_at table j
  unfolding bit_at noting
  bit_other h j n =
      elim (ℕ_discrete (j / 64) (e / 64)) [
        | yes q ↦ rw (q, get_or-set_same table (e / 64) (bit_or (get_or table (e / 64) 0) (2 ^ (e % 64))) 0 h) (word_other (get_or table (e / 64) 0) (e % 64) (j % 64) (λ z. n (omega arith)))
        | no q ↦ rw (get_or-set_other table (e / 64) (j / 64) (bit_or (get_or table (e / 64) 0) (2 ^ (e % 64))) 0 q)
      ]
