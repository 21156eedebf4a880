-- Words that are all 0 from a place on: the test as a fact, and back; and words that are made so.
use Rattle.std.specs.Prelude.{◌≡◌, refl, true, ◌&&◌, List, ◌++◌, ℕ, zero, suc, ◌+◌, ◌-◌, ◌<◌, ◌≤◌, take, eqb}
use Rattle.std.proofs.Common.{sym, ◌∙◌, length-append, ext_get_or, eqb-true, eq-eqb, ne_eqb}
use Rattle.std.proofs.Math.Path.{ap}
use Rattle.std.proofs.Math.Bool.{and-true, and_assoc}
use native.Mathlib.Omega.{arith}
use Rattle.std.proofs.Math.Decide.{ℕ_discrete, dec_lt}
use Rattle.std.proofs.Math.ListN.{length, get_or, replicate, drop, length-take, length-drop, get_or-eq_default, get_or-append}
use Rattle.std.proofs.lemmas.List.{length-replicate, get_or-drop}
use Rattle.std.proofs.Math.Seq.{get_or-take, length-take-le, get_or-append-add}
use Rattle.std.specs.Int.Bits.{bit_or, or_add_and}
use Rattle.std.proofs.lemmas.Nat.{and_le_l, and_le_r}
use Rattle.std.specs.List.{slice_range}
use borrow.Rule.Slice.PartMut.{mid_of, put_mid}
use Rattle.store.specs.All.{all_from, all_holds, all_true, all_done, all_split}
use Rattle.store.specs.Store.{is_zero, zero_from}

pub zeros : (l : List ℕ) (n : ℕ) → zero_from l n ≡ true → (i : ℕ) → n ≤ i → get_or l i 0 ≡ 0
unfolding zero_from
zeros l n h i g =
    elim (dec_lt i (length l)) [ yes b ↦ eqb-true (get_or l i 0) 0 (all_holds (is_zero l) (length l - n) n h i g (omega arith)) | no b ↦ get_or-eq_default l 0 (omega arith) ]

pub zeros_back : (l : List ℕ) (n : ℕ) → ((i : ℕ) → n ≤ i → get_or l i 0 ≡ 0) → zero_from l n ≡ true
unfolding zero_from
zeros_back l n h = all_true (is_zero l) (length l - n) n (λ i a b. eq-eqb (get_or l i 0) 0 (h i a))

-- ---- words that are or-ed, when `i` has been reached
-- two words or-ed are 0 where both are
or_zero : (a b : ℕ) → eqb (bit_or a b) 0 ≡ (eqb a 0 && eqb b 0)
or_zero a b =
    let s = or_add_and a b in
    let l = and_le_l a b in
    let r = and_le_r a b in
    elim (ℕ_discrete (bit_or a b) 0) [
      | yes e ↦ rw (eq-eqb (bit_or a b) 0 e, eq-eqb a 0 (omega arith), eq-eqb b 0 (omega arith))
      | no n ↦ elim (ℕ_discrete a 0) [
        | yes z ↦ (let m : b ≡ 0 → ⊥ = λ y. n (omega arith) in rw (ne_eqb (bit_or a b) 0 n, ne_eqb b 0 m, eq-eqb a 0 z))
        | no z ↦ rw (ne_eqb (bit_or a b) 0 n, ne_eqb a 0 z)
      ]
    ]

module _ (l : List ℕ) (seen i : ℕ) where
  pub or_more : i < length l → (eqb seen 0 && all_from i (length l - i) (is_zero l)) ≡ (eqb (bit_or seen (get_or l i 0)) 0 && all_from (i + 1) (length l - (i + 1)) (is_zero l))
  or_more h = rw (all_split (is_zero l) i h, or_zero seen (get_or l i 0), and_assoc)

  pub or_done : length l ≤ i → (eqb seen 0 && all_from i (length l - i) (is_zero l)) ≡ eqb seen 0
  or_done h = rw (all_done (is_zero l) i h) (and-true (eqb seen 0))

-- the words from a place on, read as a list of their own
module _ (l : List ℕ) (from : ℕ) (rest : List ℕ) (is : rest ≡ slice_range l from (length l)) (long : length rest + from ≡ length l) where
  pub or_next : (seen i : ℕ) → i < length rest → (eqb seen 0 && all_from (from + i) (length l - (from + i)) (is_zero l)) ≡ (eqb (bit_or seen (get_or rest i 0)) 0 && all_from (from + (i + 1)) (length l - (from + (i + 1))) (is_zero l))
  or_next seen i h =
      let w : get_or l (from + i) 0 ≡ get_or rest i 0 = sym (get_or-take (length l - from) (drop from l) i 0 (omega arith) ∙ get_or-drop from l i 0) ∙ ap (λ (x : List ℕ). get_or x i 0) (sym is) in
      let n : from + i + 1 ≡ from + (i + 1) = omega arith in
      or_more l seen (from + i) (omega arith) ∙ rw (n, w)

-- ---- words that become 0
pub zero_at : (n j : ℕ) → get_or {A = ℕ} (replicate n 0) j 0 ≡ 0
zero_at zero j = refl
zero_at (suc n) zero = refl
zero_at (suc n) (suc j) = zero_at n j

-- everything from n on is 0
unfoldable pub zeroed : ℕ → List ℕ → List ℕ
zeroed n l = take n l ++ replicate (length l - n) 0

module _ (n : ℕ) (l : List ℕ) (h : n ≤ length l) where
  pub length_zeroed : length (zeroed n l) ≡ length l
  unfolding zeroed
  length_zeroed = simp (length-append, length-take, length-replicate) (omega arith)

  pub zeroed_below : (i : ℕ) → i < n → get_or (zeroed n l) i 0 ≡ get_or l i 0
  unfolding zeroed
  zeroed_below i g = let e = length-take-le n l h in get_or-append (take n l) _ 0 i (omega arith) ∙ get_or-take n l i 0 g

  pub zeroed_from : (i : ℕ) → n ≤ i → get_or (zeroed n l) i 0 ≡ 0
  unfolding zeroed
  zeroed_from i g =
      let e : length (take n l) ≡ n = length-take-le n l h in
      let q : i ≡ length (take n l) + (i - n) = omega arith in
      ap (λ (k : ℕ). get_or (take n l ++ replicate (length l - n) 0) k 0) q ∙ get_or-append-add (take n l) _ (i - n) 0 ∙ zero_at (length l - n) (i - n)

  -- a list that agrees below n, and is 0 from there
  pub zeroed_is : (k : List ℕ) → length k ≡ length l → ((i : ℕ) → i < n → get_or l i 0 ≡ get_or k i 0) → ((i : ℕ) → n ≤ i → get_or k i 0 ≡ 0) → zeroed n l ≡ k
  zeroed_is k e a z = ext_get_or 0 (zeroed n l) k (length_zeroed ∙ sym e) (λ i _. elim (dec_lt i n) [ yes g ↦ zeroed_below i g ∙ a i g | no g ↦ zeroed_from i (omega arith) ∙ sym (z i (omega arith)) ])

-- ---- a part that is filled with 0, with only 0 behind it
pub part_long : {from to : ℕ} (old : List ℕ) → from ≤ to → to ≤ length old → length (mid_of from (to - from) old) ≡ to - from
part_long old l m = simp (length-take, length-drop) (omega arith)

module _ {from to : ℕ} (old : List ℕ) (l : from ≤ to) (m : to ≤ length old) (r : (j : ℕ) → to ≤ j → get_or old j 0 ≡ 0) where
  pub zeroed_fill : {mid : List ℕ} → mid ≡ replicate (to - from) 0 → put_mid from (to - from) old mid ≡ zeroed from old
  zeroed_fill {mid} e = sym (zeroed_is from old (omega arith) new long (λ i g. sym (get_or-append (take from old) _ 0 i (omega (arith, f)) ∙ get_or-take from old i 0 g)) (λ i g. sym (ap (λ (k : ℕ). get_or new k 0) (back i g)) ∙ get_or-append-add (take from old) _ (i - from) 0 ∙ behind (i - from)))
    where
      new : List ℕ
      new = put_mid from (to - from) old mid

      n : length mid ≡ to - from
      n = ap length e ∙ length-replicate (to - from) 0

      f : length (take from old) ≡ from
      f = length-take-le from old (omega arith)

      long : length new ≡ length old
      long = simp (length-append, length-take, length-drop) (omega (arith, n))

      back : (i : ℕ) → from ≤ i → length (take from old) + (i - from) ≡ i
      back i g = omega (arith, f)

      -- what is behind the first part
      rest : List ℕ
      rest = drop (to - from) (drop from old)

      behind : (k : ℕ) → get_or (mid ++ rest) k 0 ≡ 0
      behind k =
          elim (dec_lt k (length mid)) [
            | yes h ↦ get_or-append mid rest 0 k h ∙ ap (λ (x : List ℕ). get_or x k 0) e ∙ zero_at (to - from) k
            | no h ↦ (let q : length mid + (k - length mid) ≡ k = omega arith in
                sym (ap (λ (x : ℕ). get_or (mid ++ rest) x 0) q) ∙ get_or-append-add mid rest (k - length mid) 0 ∙ last (k - length mid))
          ]
        where
          last : (j : ℕ) → get_or rest j 0 ≡ 0
          last j = get_or-drop (to - from) (drop from old) j 0 ∙ get_or-drop from old (to - from + j) 0 ∙ r (from + (to - from + j)) (omega arith)
