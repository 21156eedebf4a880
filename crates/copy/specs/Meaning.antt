-- What a copy means, in full: the record `Copy` says all that holds of the store that a copy leaves. specs/Promise.antt proves it of what the rules compute.
use Rattle.std.specs.Prelude.{◌≡◌, List, ℕ, zero, suc, ◌+◌, ◌<◌, ◌≤◌, get_or}
use Rattle.cell.specs.declared.Kind.{Kind}
use Rattle.cell.specs.declared.Kind.TheVariants.{Var, Str, Lis, Atom, Fixnum, Bad}
use Rattle.cell.specs.Kinds.{kind_of}
use Rattle.store.specs.Store.{kind_at, end_of, WellFormed}
use Rattle.trail.specs.Facts.{TrailGood, MarksGood}
use Rattle.cycle.specs.Graph.{Reach}
use Rattle.cycle.specs.Kids.{arity_at}
use Rattle.cycle.specs.Room.{room_of}
use Rattle.cycle.specs.Reached.{StrReached, LisReached}
use Rattle.terms.specs.Term.{Term, variable, constant, compound, Terms, one, more}
use Rattle.terms.specs.Finite.{StandsAt}

-- where the copies stand: of each variable by its cell, of each structure by its functor cell, of each pair by its first cell. One place for each: what was shared is shared
pub record Places : Type 0 where
  pub variables : ℕ → ℕ
  pub structures : ℕ → ℕ
  pub pairs : ℕ → ℕ

-- ---- agreement at every depth
-- the new cell q of c shows what the old word e of s shows, by its kind; cells that stand below agree by F
unfoldable pub Shown : List ℕ → List ℕ → Places → (ℕ → ℕ → Type 0) → ℕ → ℕ → Kind → Type 0
-- an unbound variable: the one variable that takes its place, which is unbound
Shown s c m F q e (Var v) = (kind_at s v ≡ Var v) × (kind_at c q ≡ Var (m.variables v)) × (kind_at c (m.variables v) ≡ Var (m.variables v))
-- a structure: the one copy of it, with the same functor cell, and arguments that agree
Shown s c m F q e (Str f) = (kind_at c q ≡ Str (m.structures f)) × (get_or c (m.structures f) 0 ≡ get_or s f 0) × ((k : ℕ) → k < arity_at s f → F (m.structures f + 1 + k) (f + 1 + k))
-- a pair: the one copy of it, with two cells that agree
Shown s c m F q e (Lis l) = (kind_at c q ≡ Lis (m.pairs l)) × F (m.pairs l) l × F (m.pairs l + 1) (l + 1)
-- an atom or a number: the word itself
Shown s c m F q e (Atom n a) = get_or c q 0 ≡ e
Shown s c m F q e (Fixnum z) = get_or c q 0 ≡ e
Shown s c m F q e Bad = ⊥

-- the word where following an old cell ends
abbrev pub end_at : List ℕ → ℕ → ℕ → ℕ
end_at s top x = get_or s (end_of s top x) 0

-- the new cell q and the old cell x agree to depth d; cyclic terms at every depth too
abbrev pub Agree : List ℕ → ℕ → List ℕ → Places → ℕ → ℕ → ℕ → Type 0
Agree s top c m zero q x = Unit {0}
Agree s top c m (suc d) q x = Shown s c m (Agree s top c m d) q (end_at s top x) (kind_of (end_at s top x))

-- ---- variables
-- v is an unbound variable that the root reaches
pub record Variable (s : List ℕ) (root v : ℕ) : Type 0 where
  pub reached : Reach s root v
  pub unbound : kind_at s v ≡ Var v

-- a term with each variable replaced
abbrev mutual
  pub renamed : (ℕ → ℕ) → Term → Term
  renamed r (variable v) = variable (r v)
  renamed r (constant c) = constant c
  renamed r (compound f ts) = compound f (renamed_all r ts)

  pub renamed_all : (ℕ → ℕ) → Terms → Terms
  renamed_all r (one t) = one (renamed r t)
  renamed_all r (more t ts) = more (renamed r t) (renamed_all r ts)

-- ---- new cells
-- a cell of this kind names no cell below `top`
unfoldable pub NamesNew : ℕ → Kind → Type 0
NamesNew top (Var v) = top ≤ v
NamesNew top (Str f) = top ≤ f
NamesNew top (Lis l) = top ≤ l
NamesNew top (Atom n a) = Unit {0}
NamesNew top (Fixnum z) = Unit {0}
NamesNew top Bad = ⊥

-- ---- the store c of `end` used cells holds a copy of the term at `root` of the store s of `top` used cells
pub record Copy (s : List ℕ) (top root : ℕ) (c : List ℕ) (end : ℕ) : Type 0 where
  -- the cells added are the room: 1, plus 1 + arity for each structure reached, plus 2 for each pair
  pub room : end ≡ top + room_of s top root
  -- no old cell has changed, and new cells name only new cells
  pub old : (j : ℕ) → j < top → get_or c j 0 ≡ get_or s j 0
  pub inside : (q : ℕ) → top ≤ q → q < end → NamesNew top (kind_at c q)
  -- each variable that is reached has a new unbound one in its place, and different ones have different ones
  pub places : Places
  pub fresh : (v : ℕ) → Variable s root v → (top ≤ places.variables v) × (places.variables v < end) × (kind_at c (places.variables v) ≡ Var (places.variables v))
  pub apart : (v u : ℕ) → Variable s root v → Variable s root u → places.variables v ≡ places.variables u → v ≡ u
  -- different structures and pairs that are reached have different copies
  pub structures_apart : (f g : ℕ) → StrReached s root f → StrReached s root g → places.structures f ≡ places.structures g → f ≡ g
  pub pairs_apart : (l m : ℕ) → LisReached s root l → LisReached s root m → places.pairs l ≡ places.pairs m → l ≡ m
  pub kinds_apart : (f l : ℕ) → StrReached s root f → LisReached s root l → places.structures f ≡ places.pairs l → ⊥
  -- the copied root and the root agree at every depth; each structure and each pair has one copy
  pub same : (d : ℕ) → Agree s top c places d top root
  -- where the root stands for a finite term, the copy stands for that term with its variables replaced
  pub finite : (t : Term) → StandsAt s top t root → StandsAt c end (renamed places.variables t) top
  -- the store stays well formed, and a trail and marks that were good stay good
  pub well_formed_lem : WellFormed c end
  pub trail_good_lem : (trail : List ℕ) (trailed : ℕ) → TrailGood s top trail trailed → TrailGood c end trail trailed
  pub marks_good_lem : (trailed : ℕ) (marks : List ℕ) (marked : ℕ) → MarksGood top trailed marks marked → MarksGood end trailed marks marked
