-- The room of a copy, counted run by run: a run without a mark is counted, and gets one.
use Rattle.std.specs.Prelude.{◌≡◌, refl, Bool, true, false, cond, List, ℕ, ◌+◌, ◌<◌, ◌≤◌, length, get_or, set, replicate}
use Rattle.std.proofs.Common.{sym, arith, get_or-set_same, get_or-set_other, eq-eqb, ne_eqb}
use Rattle.std.proofs.Math.Decide.{ℕ_discrete}
use Rattle.store.specs.Store.{limit, WellFormed}
use Rattle.cycle.specs.declared.Colour.{Colour}
use Rattle.cycle.specs.Kids.{arity_at, head, pair, head_lt, pair_lt}
use Rattle.cycle.specs.Room.{room_by, marked, room_same, room_none, room_str, room_lis}
use Rattle.cycle.specs.Tables.{Done, with_mark, Names, names_none, names_more, names_skip, names_to, everywhere}

-- the runs that the cell i names have marks, and r is the room of those that had none
pub record Counted (s : List ℕ) (top i : ℕ) (heads pairs heads' pairs' : List Bool) (r : ℕ) : Type 0 where
  pub str : heads' ≡ with_mark heads (head s i)
  pub lis : pairs' ≡ with_mark pairs (pair s i)
  pub room : room_by s top (marked heads') (marked pairs') ≡ room_by s top (marked heads) (marked pairs) + r
  pub small : r ≤ limit

-- the runs that the finished cells below n name have marks, and no others, and r is 1 and their room
pub record CountedBelow (s : List ℕ) (top n : ℕ) (col : List Colour) (heads pairs : List Bool) (r : ℕ) : Type 0 where
  pub str : Names (head s) n col heads
  pub lis : Names (pair s) n col pairs
  pub room : r ≡ room_by s top (marked heads) (marked pairs)

-- r is 1 and the room of each run that a finished cell names
abbrev pub RunsCounted : List ℕ → ℕ → List Colour → ℕ → Type 0
RunsCounted s top col r = (heads : List Bool) × (pairs : List Bool) × CountedBelow s top top col heads pairs r

-- ---- a mark at y
module _ (table : List Bool) (y : ℕ) where
  with_none : y ≡ 0 → table ≡ with_mark table y
  unfolding with_mark
  with_none z = rw (eq-eqb y 0 z)

  with_one : 1 ≤ y → set table y true ≡ with_mark table y
  unfolding with_mark
  with_one z = rw (ne_eqb y 0 (λ e. omega arith))

  other : (k : ℕ) → (k ≡ y → ⊥) → marked (set table y true) k ≡ marked table k
  other k n = rw (get_or-set_other table y k true false n)

  same : y < length table → marked (set table y true) y ≡ true
  same h = rw (get_or-set_same table y true false h)

  again : y < length table → get_or table y false ≡ true → (k : ℕ) → marked (set table y true) k ≡ marked table k
  again h e k = elim (ℕ_discrete k y) [ yes z ↦ rw (z, same h, e) | no z ↦ other k z ]

module _ (s : List ℕ) (top i : ℕ) (heads pairs : List Bool) where
  -- ---- the cell is a Str that names f
  pub counts_str : (f : ℕ) → f ≡ head s i → 0 ≡ pair s i → 1 ≤ f → f < top → f < length heads → arity_at s f + 1 ≤ limit → Counted s top i heads pairs (set heads f true) pairs (cond (get_or heads f false) 0 (arity_at s f + 1))
  counts_str f e none l h long b = go (get_or heads f false) refl
    where
      go : (m : Bool) → get_or heads f false ≡ m → Counted s top i heads pairs (set heads f true) pairs (cond m 0 (arity_at s f + 1))
      go true m = record {
        str = rw (← e) (with_one heads f l);
        lis = rw (← none) (with_none pairs 0 refl);
        room = (let z = room_same s top (marked (set heads f true)) (marked pairs) (marked heads) (marked pairs) (λ k _. again heads f long m k) (λ k _. refl) in omega arith);
        small = omega arith;
      }
      go false m = record {
        str = rw (← e) (with_one heads f l);
        lis = rw (← none) (with_none pairs 0 refl);
        room = (let z = room_str s top (marked heads) (marked pairs) f l h (marked (set heads f true)) m (same heads f long) (other heads f) in omega arith);
        small = b;
      }

  -- ---- the cell is a Lis that names f
  pub counts_lis : (f : ℕ) → f ≡ pair s i → 0 ≡ head s i → 1 ≤ f → f < top → f < length pairs → Counted s top i heads pairs heads (set pairs f true) (cond (get_or pairs f false) 0 2)
  counts_lis f e none l h long = go (get_or pairs f false) refl
    where
      go : (m : Bool) → get_or pairs f false ≡ m → Counted s top i heads pairs heads (set pairs f true) (cond m 0 2)
      go true m = record {
        str = rw (← none) (with_none heads 0 refl);
        lis = rw (← e) (with_one pairs f l);
        room = (let z = room_same s top (marked heads) (marked (set pairs f true)) (marked heads) (marked pairs) (λ k _. refl) (λ k _. again pairs f long m k) in omega arith);
        small = omega arith;
      }
      go false m = record {
        str = rw (← none) (with_none heads 0 refl);
        lis = rw (← e) (with_one pairs f l);
        room = room_lis s top (marked heads) (marked pairs) f l h (marked (set pairs f true)) m (same pairs f long) (other pairs f);
        small = omega arith;
      }

  -- ---- the cell names no run
  pub names_no_run : 0 ≡ head s i → 0 ≡ pair s i → Counted s top i heads pairs heads pairs 0
  names_no_run p q = record {
    str = rw (← p) (with_none heads 0 refl);
    lis = rw (← q) (with_none pairs 0 refl);
    room = omega arith;
    small = omega arith;
  }

-- ---- without a mark, the room of the first cell alone
pub no_marks : (s : List ℕ) (top : ℕ) (col : List Colour) (heads pairs : List Bool) → heads ≡ replicate limit false → pairs ≡ replicate limit false → CountedBelow s top 1 col heads pairs 1
no_marks s top col heads pairs p q = record {
  str = names_none (head s) col heads p;
  lis = names_none (pair s) col pairs q;
  room = sym (room_none s top (marked heads) (marked pairs) (none heads p) (none pairs q));
}
  where
    none : (t : List Bool) → t ≡ replicate limit false → (f : ℕ) → marked t f ≡ false
    none t e f = rw e (everywhere false limit f)

-- ---- one cell after the other
module _ {s : List ℕ} {top n : ℕ} {col : List Colour} {heads pairs : List Bool} {r : ℕ} (wf : WellFormed s top) (l : 1 ≤ n) (h : n < top) (b : CountedBelow s top n col heads pairs r) where
  pub counted_more : {heads' pairs' : List Bool} {m : ℕ} → Done col n → Counted s top n heads pairs heads' pairs' m → CountedBelow s top (n + 1) col heads' pairs' (r + m)
  counted_more d c = let q = c.room in let p = b.room in let hi = wf.high in record {
    str = rw c.str (names_more _ _ b.str d (omega (arith, head_lt s top wf n l h)));
    lis = rw c.lis (names_more _ _ b.lis d (omega (arith, pair_lt s top wf n l h)));
    room = omega arith;
  }

  pub counted_skip : (Done col n → ⊥) → CountedBelow s top (n + 1) col heads pairs r
  counted_skip d = record { str = names_skip _ _ b.str d; lis = names_skip _ _ b.lis d; room = b.room }

-- ---- all the cells
pub counted_all : {s : List ℕ} {top n : ℕ} {col : List Colour} {heads pairs : List Bool} {r : ℕ} → top ≤ n → CountedBelow s top n col heads pairs r → RunsCounted s top col r
counted_all {heads = heads} {pairs = pairs} h b = (heads, pairs, record { str = names_to _ _ b.str h; lis = names_to _ _ b.lis h; room = b.room })
