-- Two's complement on 56 bits: the number that a value stands for, and the value of a number.
use Rattle.std.specs.Prelude.{◌≡◌, refl, Bool, true, false, cond, ℕ, suc, ◌-◌, ◌^◌, ◌<◌, ℤ, pos, negsuc, ltb}
use Rattle.std.proofs.Common.{ap, arith, lt-ltb, le-ltb, ltb-true, ltb-false}

-- the number that 56 bits of two's complement stand for
unfoldable pub to_number : ℕ → ℤ
to_number v = cond (ltb v (2 ^ 55)) (pos v) (negsuc (2 ^ 56 - suc v))

-- the 56 bits of a number
unfoldable pub of_number : ℤ → ℕ
of_number (pos n) = n
of_number (negsuc n) = 2 ^ 56 - suc n

-- a number of the range, from -2 ^ 55 to 2 ^ 55 - 1
abbrev pub in_range : ℤ → Bool
in_range (pos n) = ltb n (2 ^ 55)
in_range (negsuc n) = ltb n (2 ^ 55)

-- ---- both ways round
pub number_back : (z : ℤ) → in_range z ≡ true → to_number (of_number z) ≡ z
unfolding to_number of_number
number_back (pos n) r = rw r
number_back (negsuc n) r =
    let h : n < 2 ^ 55 = ltb-true n (2 ^ 55) r in
    rw (le-ltb (2 ^ 56 - suc n) (2 ^ 55) (omega arith)) (ap negsuc (omega arith))

pub value_back : (v : ℕ) → v < 2 ^ 56 → of_number (to_number v) ≡ v
unfolding to_number of_number
value_back v h = go (ltb v (2 ^ 55))
  where
    go : (b : Bool) → of_number (cond b (pos v) (negsuc (2 ^ 56 - suc v))) ≡ v
    go true = refl
    go false = omega arith

pub value_lt : (z : ℤ) → in_range z ≡ true → of_number z < 2 ^ 56
unfolding of_number
value_lt (pos n) r = omega (arith, ltb-true n (2 ^ 55) r)
value_lt (negsuc n) r = omega arith

pub number_in : (v : ℕ) → v < 2 ^ 56 → in_range (to_number v) ≡ true
unfolding to_number
number_in v h = go (ltb v (2 ^ 55)) refl
  where
    go : (b : Bool) → ltb v (2 ^ 55) ≡ b → in_range (cond b (pos v) (negsuc (2 ^ 56 - suc v))) ≡ true
    go true e = e
    go false e = lt-ltb (2 ^ 56 - suc v) (2 ^ 55) (omega (arith, ltb-false v (2 ^ 55) e))
