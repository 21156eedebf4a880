-- The room that a copy needs, as a computation on the words: 1, plus 1 + arity for each structure reached, plus 2 for each pair. specs/Reached.antt proves that what is counted is what the root reaches.
use Rattle.std.specs.Prelude.{◌≡◌, Bool, true, false, cond, ◌&&◌, ◌||◌, List, eqb, get_or}
use Rattle.std.proofs.Math.Path.{refl, ap}
use Prim.Native.Nat.{ℕ, zero, suc, ◌+◌, ◌-◌, ◌<◌, ◌≤◌}
use native.Mathlib.Omega.{arith}
use Rattle.cycle.specs.Some.{some_below}
use Rattle.cycle.specs.Sum.{sum_from, sum_same, sum_one}
use Rattle.cycle.specs.Kids.{arity_at, deg, kid, head, pair}

-- i reaches j by at most n edges
unfoldable pub reaches : List ℕ → ℕ → ℕ → ℕ → Bool
reaches s zero i j = eqb i j
reaches s (suc n) i j = eqb i j || some_below (deg s i) (λ k. reaches s n (kid s i k) j)

-- a structure reached, by its functor cell f: the root reaches a Str that names f
unfoldable pub str_reached : List ℕ → ℕ → ℕ → ℕ → Bool
str_reached s top root f = some_below top (λ x. reaches s top root x && eqb (head s x) f)

-- a pair reached, by its first cell l: the root reaches a Lis that names l
unfoldable pub lis_reached : List ℕ → ℕ → ℕ → ℕ → Bool
lis_reached s top root l = some_below top (λ x. reaches s top root x && eqb (pair s x) l)

-- what a copy needs for the runs that start at one cell: an Atom of arity 0 can be a structure and a pair's first cell at once
unfoldable pub run_room : Bool → Bool → ℕ → ℕ
run_room str lis arity = cond str (1 + arity) 0 + cond lis 2 0

-- the room of the runs at each used cell from a place on, by tests of which structures and which pairs count
unfoldable pub room_from : List ℕ → ℕ → ℕ → (ℕ → Bool) → (ℕ → Bool) → ℕ
room_from s from top str lis = sum_from from (top - from) (λ f. run_room (str f) (lis f) (arity_at s f))

-- 1, for the root, and the room of the runs
unfoldable pub room_by : List ℕ → ℕ → (ℕ → Bool) → (ℕ → Bool) → ℕ
room_by s top str lis = 1 + room_from s 1 top str lis

-- 1, plus 1 + arity for each structure reached, plus 2 for each pair
unfoldable pub room_of : List ℕ → ℕ → ℕ → ℕ
room_of s top root = room_by s top (str_reached s top root) (lis_reached s top root)

-- the test of a mark in a table
abbrev pub marked : List Bool → ℕ → Bool
marked table f = get_or table f false

-- ---- tests that agree count the same
pub room_same : (s : List ℕ) (top : ℕ) (str lis str' lis' : ℕ → Bool) → ((f : ℕ) → 1 ≤ f → str f ≡ str' f) → ((f : ℕ) → 1 ≤ f → lis f ≡ lis' f) → room_by s top str lis ≡ room_by s top str' lis'
unfolding room_by room_from
room_same s top str lis str' lis' p q =
    ap (λ (n : ℕ). 1 + n) (sum_same (λ f. run_room (str f) (lis f) (arity_at s f)) (λ f. run_room (str' f) (lis' f) (arity_at s f)) (top - 1) 1 (λ f a b. rw (p f a, q f a)))

-- ---- from no run on, one run after the other
module _ (s : List ℕ) (top : ℕ) (str lis : ℕ → Bool) where
  pub room_none : ((f : ℕ) → str f ≡ false) → ((f : ℕ) → lis f ≡ false) → room_by s top str lis ≡ 1
  unfolding room_by room_from run_room sum_from
  room_none p q = ap (λ (n : ℕ). 1 + n) (none (top - 1) 1)
    where
      none : (n from : ℕ) → sum_from from n (λ f. run_room (str f) (lis f) (arity_at s f)) ≡ 0
      none zero from = refl
      none (suc n) from = let r = none n (suc from) in rw (p from, q from) (omega arith)

  module _ (f : ℕ) (l : 1 ≤ f) (h : f < top) where
    pub room_str : (str' : ℕ → Bool) → str f ≡ false → str' f ≡ true → ((k : ℕ) → (k ≡ f → ⊥) → str' k ≡ str k) → room_by s top str' lis ≡ room_by s top str lis + (1 + arity_at s f)
    unfolding room_by room_from run_room
    room_str str' p q r =
        let one = sum_one (λ f. run_room (str f) (lis f) (arity_at s f)) (λ f. run_room (str' f) (lis f) (arity_at s f)) (top - 1) 1 f (1 + arity_at s f) l (omega arith) (rw (p, q) (omega arith)) (λ k a b n. rw (r k n)) in
        omega arith

    pub room_lis : (lis' : ℕ → Bool) → lis f ≡ false → lis' f ≡ true → ((k : ℕ) → (k ≡ f → ⊥) → lis' k ≡ lis k) → room_by s top str lis' ≡ room_by s top str lis + 2
    unfolding room_by room_from run_room
    room_lis lis' p q r =
        let one = sum_one (λ f. run_room (str f) (lis f) (arity_at s f)) (λ f. run_room (str f) (lis' f) (arity_at s f)) (top - 1) 1 f 2 l (omega arith) (rw (p, q) (omega arith)) (λ k a b n. rw (r k n)) in
        omega arith
