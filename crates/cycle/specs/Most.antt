-- A bound on the room of a copy that takes no walk. A structure of arity 1 or more is counted at its functor cell, one of arity 0 at each Str that names it, and a pair at each Lis that names it; so none that a root reaches is left out.
-- That it is enough is proved in proofs/Most.antt.
use Rattle.std.specs.Prelude.{◌≡◌, refl, Bool, true, false, cond, List, ℕ, zero, suc, ◌+◌, ◌*◌, ◌-◌, ◌<◌, ◌≤◌, eqb}
use Rattle.std.specs.List.{sum_by, range_with_len}
use Rattle.std.proofs.Common.{ap, add-one, arith}
use Rattle.std.proofs.lemmas.List.Sums.{sum_by-cons}
use Rattle.cell.specs.declared.Kind.{Kind}
use Rattle.cell.specs.declared.Kind.TheVariants.{Var, Str, Lis, Atom, Fixnum, Bad}
use Rattle.store.specs.Store.{limit, kind_at, WellFormed}
use Rattle.cycle.specs.Sum.{sum_from}
use Rattle.cycle.specs.Kids.{arity_at, atom_arity, run_used}

-- the room that is counted at a cell of this kind
unfoldable pub own_kind : List ℕ → Kind → ℕ
own_kind s (Var v) = 0
own_kind s (Str f) = cond (eqb (arity_at s f) 0) 1 0
own_kind s (Lis l) = 2
own_kind s (Atom n a) = cond (eqb a 0) 0 (a + 1)
own_kind s (Fixnum z) = 0
own_kind s Bad = 0

-- the room that is counted at the cell i
unfoldable pub own_room : List ℕ → ℕ → ℕ
own_room s i = own_kind s (kind_at s i)

-- at each used cell from a place on
unfoldable pub own_from : List ℕ → ℕ → ℕ → ℕ
own_from s from top = sum_from from (top - from) (own_room s)

-- the most room that a copy can need
unfoldable pub most_room : List ℕ → ℕ → ℕ
most_room s top = 1 + own_from s 1 top

-- ---- as a sum over the numbers of the cells
pub own_all : (s : List ℕ) (top : ℕ) → 1 + sum_by (own_room s) (range_with_len 1 (top - 1)) ≡ most_room s top
unfolding most_room own_from sum_from
own_all s top = ap (λ (n : ℕ). 1 + n) (all (top - 1) 1)
  where
    all : (n from : ℕ) → sum_by (own_room s) (range_with_len from n) ≡ sum_from from n (own_room s)
    all zero from = refl
    all (suc n) from = let r = all n (suc from) in rw (sum_by-cons (own_room s), add-one from) (omega arith)

-- ---- no more than the limit at each cell
module _ (s : List ℕ) (top : ℕ) (wf : WellFormed s top) where
  pub own_small : (i : ℕ) → 1 ≤ i → i < top → own_room s i ≤ limit
  unfolding own_room own_kind
  own_small i l h = go (kind_at s i) refl
    where
      flag : (b : Bool) (m n : ℕ) → m ≤ limit → n ≤ limit → cond b m n ≤ limit
      flag true m n p q = p
      flag false m n p q = q

      go : (q : Kind) → kind_at s i ≡ q → own_kind s q ≤ limit
      go (Var v) e = omega arith
      go (Str f) e = flag (eqb (arity_at s f) 0) 1 0 (omega arith) (omega arith)
      go (Lis m) e = omega arith
      go (Atom n a) e = let r = atom_arity s i n a e in let u = run_used s top wf i l h in let hi = wf.high in flag (eqb a 0) 0 (a + 1) (omega arith) (omega arith)
      go (Fixnum z) e = omega arith
      go Bad e = omega arith

  pub own_fits : sum_by (own_room s) (range_with_len 1 (top - 1)) ≤ limit * limit
  own_fits = let hi = wf.high in let r = all (top - 1) 1 (omega arith) (omega arith) in omega arith
    where
      all : (n from : ℕ) → 1 ≤ from → from + n ≤ top → sum_by (own_room s) (range_with_len from n) ≤ limit * n
      all zero from l h = omega arith
      all (suc n) from l h = let r = all n (suc from) (omega arith) (omega arith) in let o = own_small from l (omega arith) in rw (sum_by-cons (own_room s), add-one from) (omega arith)
