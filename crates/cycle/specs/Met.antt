-- The links of the cells that a walk has met, each cell's once: what it went over when it is done. And why they are room enough for these cells' runs: a structure's arguments are links of its functor cell, whose own place is the link of a Str, and the two cells of a pair are the links of a Lis.
use Rattle.std.specs.Prelude.{◌≡◌, Bool, true, false, cond, List, length, set}
use Rattle.std.proofs.Math.Path.{refl}
use Prim.Native.Nat.{ℕ, zero, suc, ◌+◌, ◌-◌, ◌<◌, ◌≤◌}
use native.Mathlib.Omega.{arith}
use Rattle.std.proofs.Math.Decide.{ℕ_discrete}
use Rattle.std.proofs.Math.Seq.{get_or-set_same}
use Rattle.std.proofs.Common.{get_or-set_other}
use Rattle.cell.specs.declared.Kind.{Kind}
use Rattle.cell.specs.declared.Kind.TheVariants.{Var, Str, Lis, Atom, Fixnum, Bad}
use Rattle.store.specs.Store.{kind_at}
use Rattle.cycle.specs.Sum.{sum_from, sum_same, sum_one}
use Rattle.cycle.specs.Kids.{arity_kind, arity_at, head_kind, head, pair_kind, pair}
use Rattle.cycle.specs.Links.{links_kind, links}
use Rattle.cycle.specs.Bound.{if_named, named_less}
use Rattle.cycle.specs.declared.Colour.{Colour}
use Rattle.cycle.specs.declared.Colour.TheVariants.{White, Grey, Black}
use Rattle.cycle.specs.Tables.{colour, NoneMet}

-- a cell of this colour is met
unfoldable pub is_met : Colour → Bool
is_met White = false
is_met Grey = true
is_met Black = true

-- n, if the cell c is met
abbrev pub if_met : List Colour → ℕ → ℕ → ℕ
if_met col c n = cond (is_met (colour col c)) n 0

-- how many links the met cells have
unfoldable pub met_links : List ℕ → ℕ → List Colour → ℕ
met_links s top col = sum_from 1 (top - 1) (λ c. if_met col c (links s c))

-- a cell that has another colour than White is met
pub met_other : (k : Colour) → (k ≡ White → ⊥) → is_met k ≡ true
unfolding is_met
met_other White h = absurd (h refl)
met_other Grey h = refl
met_other Black h = refl

-- ---- one cell after the other
module _ (s : List ℕ) (top : ℕ) where
  pub met_none : (col : List Colour) → NoneMet col → met_links s top col ≡ 0
  unfolding met_links sum_from is_met
  met_none col white = none (top - 1) 1
    where
      none : (m from : ℕ) → sum_from from m (λ c. if_met col c (links s c)) ≡ 0
      none zero from = refl
      none (suc m) from = let r = none m (suc from) in rw (white from) (omega arith)

  module _ (col : List Colour) (c : ℕ) where
    -- a cell is met
    pub met_more : 1 ≤ c → c < top → c < length col → colour col c ≡ White → met_links s top (set col c Grey) ≡ met_links s top col + links s c
    unfolding met_links is_met
    met_more l h long white =
        sum_one (λ c. if_met col c (links s c)) (λ d. if_met (set col c Grey) d (links s d)) (top - 1) 1 c (links s c) l (omega arith)
        (rw (get_or-set_same col c Grey White long, white) (omega arith))
        (λ k _ _ n. rw (get_or-set_other col c k Grey White n))

    -- a cell that was met is finished
    pub met_still : c < length col → (colour col c ≡ White → ⊥) → met_links s top (set col c Black) ≡ met_links s top col
    unfolding met_links is_met
    met_still long once =
        sum_same (λ d. if_met (set col c Black) d (links s d)) (λ d. if_met col d (links s d)) (top - 1) 1
        (λ k _ _. elim (ℕ_discrete k c) [ yes z ↦ rw (z, get_or-set_same col c Black White long, met_other (colour col c) once) | no z ↦ rw (get_or-set_other col c k Black White z) ])

-- ---- the links of a cell cover its arguments, if it is a functor cell, and 1 for the functor cell or 2 for the pair that it names
module _ (s : List ℕ) where
  links_cover : (i : ℕ) → arity_at s i + (if_named 1 (head s i) + if_named 2 (pair s i)) ≤ links s i
  unfolding links links_kind head head_kind pair pair_kind arity_at arity_kind
  links_cover i = go (kind_at s i)
    where
      go : (q : Kind) → arity_kind q + (if_named 1 (head_kind q) + if_named 2 (pair_kind q)) ≤ links_kind i q
      go (Var v) = omega arith
      go (Str f) = let l = named_less 1 f in omega arith
      go (Lis m) = let l = named_less 2 m in omega arith
      go (Atom n a) = omega arith
      go (Fixnum z) = omega arith
      go Bad = omega arith

  pub met_cover : (col : List Colour) (i : ℕ) → if_met col i (arity_at s i) + (if_named 1 (if_met col i (head s i)) + if_named 2 (if_met col i (pair s i))) ≤ if_met col i (links s i)
  met_cover col i = go (is_met (colour col i))
    where
      go : (b : Bool) → cond b (arity_at s i) 0 + (if_named 1 (cond b (head s i) 0) + if_named 2 (cond b (pair s i) 0)) ≤ cond b (links s i) 0
      go true = links_cover i
      go false = omega arith
