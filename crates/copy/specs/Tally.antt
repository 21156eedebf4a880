-- The cells that the notes in a copy's tables stand for, counted as the room of a copy is.
use Rattle.std.specs.Prelude.{◌≡◌, Bool, not, List, ℕ, zero, suc, ◌+◌, ◌-◌, ◌<◌, ◌≤◌, length, get_or, set, eqb}
use Rattle.std.proofs.Math.Path.{refl}
use Rattle.std.proofs.Common.{sym, ap, ◌∙◌, get_or-set_same, get_or-set_other, eq-eqb, ne_eqb}
use Rattle.std.proofs.Math.Bool.{true, false}
use native.Mathlib.Omega.{arith}
use Rattle.cycle.specs.Sum.{sum_from, sum_same, sum_one, sum_le}
use Rattle.cycle.specs.Kids.{arity_at}
use Rattle.cycle.specs.Room.{run_room, room_from, room_by}

-- a copy is noted at i
abbrev pub noted : List ℕ → ℕ → Bool
noted tables i = not (eqb (get_or tables i 0) 0)

-- the cells that a copy has with these notes: the first, and those of each run
abbrev pub tally : List ℕ → ℕ → List ℕ → ℕ
tally s top tables = room_by s top (noted tables) (λ l. noted tables (top + l))

pub is_noted : (tables : List ℕ) (i : ℕ) → (get_or tables i 0 ≡ 0 → ⊥) → noted tables i ≡ true
is_noted tables i n = rw (ne_eqb (get_or tables i 0) 0 n)

not_noted : (tables : List ℕ) (i : ℕ) → get_or tables i 0 ≡ 0 → noted tables i ≡ false
not_noted tables i e = rw (eq-eqb (get_or tables i 0) 0 e)

pub noted_is : (tables : List ℕ) (i : ℕ) → noted tables i ≡ true → get_or tables i 0 ≡ 0 → ⊥
noted_is tables i h e = let z : true ≡ false = sym h ∙ not_noted tables i e in let y : ◌≡◌ {A = ℕ} 0 1 = cc in omega arith

-- ---- a note more
module _ (s : List ℕ) (top : ℕ) (tables : List ℕ) (b v : ℕ) (l : 1 ≤ b) (u : b < top) (nz : v ≡ 0 → ⊥) where
  abbrev cost : List ℕ → ℕ → ℕ
  cost t f = run_room (noted t f) (noted t (top + f)) (arity_at s f)

  other : (i k : ℕ) → (k ≡ i → ⊥) → noted (set tables i v) k ≡ noted tables k
  other i k n = ap (λ (x : ℕ). not (eqb x 0)) (get_or-set_other tables i k v 0 n)

  same : (i : ℕ) → i < length tables → noted (set tables i v) i ≡ true
  same i h = is_noted (set tables i v) i (λ z. nz (sym (get_or-set_same tables i v 0 h) ∙ z))

  pub tally_str : b < length tables → get_or tables b 0 ≡ 0 → tally s top (set tables b v) ≡ tally s top tables + (1 + arity_at s b)
  unfolding room_by room_from run_room
  tally_str h e =
      let one = sum_one (cost tables) (cost (set tables b v)) (top - 1) 1 b (1 + arity_at s b) l (omega arith)
      (rw (same b h, other b (top + b) (λ z. omega arith), not_noted tables b e) (omega arith))
      (λ k x y n. rw (other b k n, other b (top + k) (λ z. omega arith))) in
      omega arith

  pub tally_lis : top + b < length tables → get_or tables (top + b) 0 ≡ 0 → tally s top (set tables (top + b) v) ≡ tally s top tables + 2
  unfolding room_by room_from run_room
  tally_lis h e =
      let one = sum_one (cost tables) (cost (set tables (top + b) v)) (top - 1) 1 b 2 l (omega arith)
      (rw (same (top + b) h, other (top + b) b (λ z. omega arith), not_noted tables (top + b) e) (omega arith))
      (λ k x y n. rw (other (top + b) k (λ z. omega arith), other (top + b) (top + k) (λ z. n (omega arith)))) in
      omega arith

-- a home costs nothing
pub tally_home : (s : List ℕ) (top : ℕ) (tables : List ℕ) (i v : ℕ) → top + top ≤ i → 1 ≤ top → tally s top (set tables i v) ≡ tally s top tables
unfolding room_by room_from run_room
tally_home s top tables i v h l =
    ap (λ (n : ℕ). 1 + n)
    (sum_same (λ f. run_room (noted (set tables i v) f) (noted (set tables i v) (top + f)) (arity_at s f)) (λ f. run_room (noted tables f) (noted tables (top + f)) (arity_at s f)) (top - 1) 1
    (λ k a b. rw (get_or-set_other tables i k v 0 (λ z. omega arith), get_or-set_other tables i (top + k) v 0 (λ z. omega arith))))

-- no note: the first cell alone
pub tally_none : (s : List ℕ) (top : ℕ) (tables : List ℕ) → ((i : ℕ) → i < top + top → get_or tables i 0 ≡ 0) → 1 ≤ top → tally s top tables ≡ 1
unfolding room_by room_from run_room sum_from
tally_none s top tables z l = ap (λ (n : ℕ). 1 + n) (none (top - 1) 1 (omega arith))
  where
    none : (n from : ℕ) → from + n ≤ top → sum_from from n (λ f. run_room (noted tables f) (noted tables (top + f)) (arity_at s f)) ≡ 0
    none zero from h = refl
    none (suc n) from h = let r = none n (suc from) (omega arith) in rw (z from (omega arith), z (top + from) (omega arith)) (omega arith)

-- ---- tests that imply others count no more
module _ (s : List ℕ) (top : ℕ) (str lis str' lis' : ℕ → Bool) where
  more : (a b c d : Bool) (x : ℕ) → (a ≡ true → c ≡ true) → (b ≡ true → d ≡ true) → run_room a b x ≤ run_room c d x
  unfolding run_room
  more true true c d x f g = rw (f refl, g refl) (omega arith)
  more true false c d x f g = rw (f refl) (omega arith)
  more false true c d x f g = rw (g refl) (omega arith)
  more false false c d x f g = omega arith

  pub room_le : ((f : ℕ) → 1 ≤ f → f < top → str f ≡ true → str' f ≡ true) → ((f : ℕ) → 1 ≤ f → f < top → lis f ≡ true → lis' f ≡ true) → room_by s top str lis ≤ room_by s top str' lis'
  unfolding room_by room_from
  room_le p q =
      let r = sum_le (λ f. run_room (str f) (lis f) (arity_at s f)) (λ f. run_room (str' f) (lis' f) (arity_at s f)) (top - 1) 1 (λ k a b. more (str k) (lis k) (str' k) (lis' k) (arity_at s k) (p k a (omega arith)) (q k a (omega arith))) in
      omega arith
