-- What the code decides of two followed cells, by their kinds. specs/Arms.antt proves that the rules of unification say so.
use Rattle.std.specs.Prelude.{◌≡◌, Bool, true, false, ◌&&◌, List, ℕ, ◌+◌, ◌<◌, ◌≤◌, eqb, length}
use Rattle.cell.specs.declared.Kind.{Kind}
use Rattle.cell.specs.declared.Kind.TheVariants.{Var, Str, Lis, Atom, Fixnum, Bad}
use Rattle.store.specs.Store.{limit, kind_at, step, WellFormed}
use Rattle.terms.specs.View.{View, nod, Shape, arity_of, view_kind, dot, behind, shape_of}
use Rattle.unification.specs.Machine.{bind, rule, other}
use Rattle.unification.specs.Cases.{Apart}
use Rattle.unify.specs.declared.Act.{Act}
use Rattle.unify.specs.declared.Act.TheVariants.{Skip, Bind, Join, Clash}

-- ---- what is asked of the two cells
-- the used cell `at` is of this kind, and following it ends there
pub record Stays (cells : List ℕ) (top at : ℕ) (kind : Kind) : Type 0 where
  pub low : 1 ≤ at
  pub high : at < top
  pub stays : step cells at ≡ at
  pub is : kind ≡ kind_at cells at

-- two followed cells of a well-formed store, with their kinds
pub record Two (cells : List ℕ) (a : ℕ) (j : Kind) (b : ℕ) (k : Kind) : Type 0 where
  pub top : ℕ
  pub store : WellFormed cells top
  pub left : Stays cells top a j
  pub right : Stays cells top b k

-- the kinds of two followed cells, of which the second is no Var
pub record Kinds (cells : List ℕ) (j k : Kind) : Type 0 where
  pub a : ℕ
  pub b : ℕ
  pub two : Two cells a j b k
  pub no_var : (v : ℕ) → k ≡ Var v → ⊥

-- an Atom cell that a Str names
pub record AtomCell (cells : List ℕ) (f : ℕ) : Type 0 where
  pub inside : f < length cells
  pub high : f < limit
  pub name : ℕ
  pub arity : ℕ
  pub is : kind_at cells f ≡ Atom name arity

-- it is '.'/2
unfoldable pub is_dot : Kind → Bool
is_dot (Var v) = false
is_dot (Str v) = false
is_dot (Lis v) = false
is_dot (Atom n a) = eqb n dot.0 && eqb a dot.1
is_dot (Fixnum z) = false
is_dot Bad = false

-- it is the atom of this name
unfoldable pub atom_named : ℕ → Kind → Bool
atom_named m (Var v) = false
atom_named m (Str v) = false
atom_named m (Lis v) = false
atom_named m (Atom n a) = eqb n m && eqb a 0
atom_named m (Fixnum z) = false
atom_named m Bad = false

-- ---- what is decided
-- of two constants, which are the same or not
abbrev pub agreed : Bool → Act
agreed true = Skip
agreed false = Clash

-- the unbound Var v is bound, and gets the word of the other cell
pub record Binding (X Y : View) (a b v e : ℕ) : Type 0 where
  pub shows : View
  pub rules : (sh : Shape) (classes : ℕ → ℕ) → rule sh classes X Y ≡ bind v shows
  pub from : e ≡ other a b v

-- two nodes of one functor, whose arguments begin at these cells
pub record Nodes (cells : List ℕ) (X Y : View) (n m left right arity : ℕ) : Type 0 where
  pub left_node : X ≡ nod n
  pub right_node : Y ≡ nod m
  pub alike : (shape_of cells).fun n ≡ (shape_of cells).fun m
  pub arity_is : arity ≡ arity_of (shape_of cells) n
  pub left_first : left ≡ n + behind (kind_at cells n)
  pub right_first : right ≡ m + behind (kind_at cells m)

-- of the cells a and b, of the kinds j and k: they show the same; one is bound; two nodes meet; or no tree shows both
abbrev pub Decided : List ℕ → ℕ → Kind → ℕ → Kind → Act → Type 0
Decided cells a j b k Skip = view_kind cells j ≡ view_kind cells k
Decided cells a j b k (Bind v e) = Binding (view_kind cells j) (view_kind cells k) a b v e
Decided cells a j b k (Join q) = Nodes cells (view_kind cells j) (view_kind cells k) q.n q.m q.left q.right q.arity
Decided cells a j b k Clash = Apart (shape_of cells) (view_kind cells j) (view_kind cells k)
