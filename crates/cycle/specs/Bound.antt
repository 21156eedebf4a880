-- A bound on the room of a copy, by what is counted at each used cell: for the runs that start there, and for those that it names.
use Rattle.std.specs.Prelude.{◌≡◌, Bool, true, false, List, eqb}
use Rattle.std.proofs.Common.{sym, ◌∙◌, ne_eqb}
use Rattle.std.proofs.Math.Path.{ap}
use Rattle.std.proofs.Math.Bool.{cond}
use Prim.Native.Nat.{ℕ, zero, suc, ◌+◌, ◌-◌, ◌≤◌}
use native.Mathlib.Omega.{arith}
use Rattle.store.specs.Store.{WellFormed}
use Rattle.cycle.specs.Some.{some_below}
use Rattle.cycle.specs.Sum.{sum_from, sum_le, sum_once, sum_add, sum_last}
use Rattle.cycle.specs.Kids.{arity_at}
use Rattle.cycle.specs.Room.{run_room, room_from, room_by}

-- n, if f is a cell and not 0
abbrev pub if_named : ℕ → ℕ → ℕ
if_named n f = cond (eqb f 0) 0 n

pub named_less : (n f : ℕ) → if_named n f ≤ n
named_less n f = go (eqb f 0)
  where
    go : (b : Bool) → cond b 0 n ≤ n
    go true = omega arith
    go false = omega arith

-- some of the first n names f
abbrev pub named : (ℕ → ℕ) → ℕ → ℕ → Bool
named g n f = some_below n (λ x. eqb (g x) f)

-- ---- what is named is counted at most once for each cell that names it
named_le : (g w : ℕ → ℕ) (m n : ℕ) → sum_from 1 m (λ f. cond (named g n f) (w f) 0) ≤ sum_from 0 n (λ x. w (g x))
unfolding some_below sum_from
named_le g w m zero = none m 1
  where
    none : (n from : ℕ) → sum_from from n (λ f. 0) ≤ 0
    none zero from = omega arith
    none (suc n) from = let r = none n (suc from) in omega arith
named_le g w m (suc n) =
    let r = named_le g w m n in
    let l = sum_last (λ x. w (g x)) n 0 in
    let z : 0 + n ≡ n = omega arith in
    let o = sum_once (λ f. cond (named g n f) (w f) 0) (λ f. cond (named g (suc n) f) (w f) 0) (g n) (w (g n)) m 1 (at (named g (suc n) (g n))) (λ k d. rw (ne_eqb (g n) k (λ e. d (sym e))) (omega arith)) in
    let y : w (g (0 + n)) ≡ w (g n) = ap (λ (k : ℕ). w (g k)) z in
    omega arith
  where
    at : (b : Bool) → cond b (w (g n)) 0 ≤ cond (named g n (g n)) (w (g n)) 0 + w (g n)
    at true = omega arith
    at false = omega arith

-- ---- the bound
module _ (s : List ℕ) (top : ℕ) (wf : WellFormed s top) where
  -- cell 0 names nothing
  from_one : (w g : ℕ → ℕ) → w (g 0) ≡ 0 → sum_from 0 top (λ x. w (g x)) ≡ sum_from 1 (top - 1) (λ x. w (g x))
  unfolding sum_from
  from_one w g e =
      let l = wf.low in
      let z : top ≡ suc (top - 1) = omega arith in
      ap (λ (n : ℕ). sum_from 0 n (λ x. w (g x))) z ∙ omega arith

  -- the bound holds where the runs that start at f need at most self f, and one f if some cell names f by heads, and two f if some cell names f by pairs, and where own covers this at each cell
  pub room_le : (str lis : ℕ → Bool) (self one two heads pairs own : ℕ → ℕ)
      → ((f : ℕ) → 1 ≤ f → run_room (str f) (lis f) (arity_at s f) ≤ self f + (cond (named heads top f) (one f) 0 + cond (named pairs top f) (two f) 0))
      → one (heads 0) ≡ 0
      → two (pairs 0) ≡ 0
      → ((x : ℕ) → self x + (one (heads x) + two (pairs x)) ≤ own x)
      → room_by s top str lis ≤ 1 + sum_from 1 (top - 1) own
  unfolding room_by room_from
  room_le str lis self one two heads pairs own need zero_str zero_lis cover =
      let n = top - 1 in
      let by_str : ℕ → ℕ = λ f. cond (named heads top f) (one f) 0 in
      let by_lis : ℕ → ℕ = λ f. cond (named pairs top f) (two f) 0 in
      let a = sum_le (λ f. run_room (str f) (lis f) (arity_at s f)) (λ f. self f + (by_str f + by_lis f)) n 1 (λ f l _. need f l) in
      let b = sum_add self (λ f. by_str f + by_lis f) n 1 in
      let c = sum_add by_str by_lis n 1 in
      let d = named_le heads one n top in
      let e = named_le pairs two n top in
      let f = from_one one heads zero_str in
      let g = from_one two pairs zero_lis in
      let h = sum_add (λ x. one (heads x)) (λ x. two (pairs x)) n 1 in
      let i = sum_add self (λ x. one (heads x) + two (pairs x)) n 1 in
      let j = sum_le (λ x. self x + (one (heads x) + two (pairs x))) own n 1 (λ k _ _. cover k) in
      omega arith
