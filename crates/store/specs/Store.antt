-- A well-formed store: the list of its words and the count `top` of used ones. `WellFormed` says the rules as facts and `well_formed` tests them; specs/WellFormed.antt proves that both are the same.
use Rattle.std.specs.Prelude.{◌≡◌, Bool, true, false, not, ◌&&◌, List, ℕ, zero, suc, ◌+◌, ◌-◌, ◌<◌, ◌≤◌, length, get_or, leb, ltb, eqb}
use Rattle.cell.specs.declared.Kind.{Kind}
use Rattle.cell.specs.declared.Kind.TheVariants.{Var, Str, Lis, Atom, Fixnum, Bad}
use Rattle.cell.specs.Kinds.{kind_of}
use Rattle.store.specs.All.{all_from}

-- the most cells that a store may use
abbrev pub limit : ℕ
limit = 4096

-- the kind of the cell at i
abbrev pub kind_at : List ℕ → ℕ → Kind
kind_at s i = kind_of (get_or s i 0)

-- ---- the rows of the table
-- an Atom of arity above 0 is a header
unfoldable pub is_header : Kind → Bool
is_header (Var v) = false
is_header (Str v) = false
is_header (Lis v) = false
is_header (Atom n a) = ltb 0 a
is_header (Fixnum z) = false
is_header Bad = false

-- an Atom, of any arity
unfoldable pub is_atom : Kind → Bool
is_atom (Var v) = false
is_atom (Str v) = false
is_atom (Lis v) = false
is_atom (Atom n a) = true
is_atom (Fixnum z) = false
is_atom Bad = false

-- the cell at i is a header
abbrev pub header_at : List ℕ → ℕ → Bool
header_at s i = is_header (kind_at s i)

-- it is none
abbrev pub no_header : List ℕ → ℕ → Bool
no_header s i = not (header_at s i)

-- a cell that stands for a term: a used cell from 1 that is no header. So it may be a root, the target of a Var, and a cell of a pair.
unfoldable pub term_at : List ℕ → ℕ → ℕ → Bool
term_at s top i = leb 1 i && ltb i top && no_header s i

-- an Atom cell from 1, of arity 0 too
unfoldable pub atom_at : List ℕ → ℕ → ℕ → Bool
atom_at s top f = leb 1 f && ltb f top && is_atom (kind_at s f)

-- an Atom at f of arity a: f + a < top, and the cells from f + 1 to f + a are not headers
unfoldable pub run_at : List ℕ → ℕ → ℕ → ℕ → Bool
run_at s top f a = ltb (f + a) top && all_from (f + 1) a (no_header s)

-- what the table asks of the cell at i, by its kind
unfoldable pub keeps : List ℕ → ℕ → ℕ → Kind → Bool
keeps s top i (Var v) = term_at s top v
keeps s top i (Str f) = atom_at s top f
keeps s top i (Lis l) = term_at s top l && term_at s top (l + 1)
keeps s top i (Atom n a) = run_at s top i a
keeps s top i (Fixnum z) = true
keeps s top i Bad = false

-- the cell at i keeps to its row
abbrev pub keeps_at : List ℕ → ℕ → ℕ → Bool
keeps_at s top i = keeps s top i (kind_at s i)

-- ---- following Vars
-- one step along a Var; an unbound Var, which names itself, and any other cell stay
unfoldable pub step_kind : ℕ → Kind → ℕ
step_kind i (Var v) = v
step_kind i (Str v) = i
step_kind i (Lis v) = i
step_kind i (Atom n a) = i
step_kind i (Fixnum z) = i
step_kind i Bad = i

-- one step from the cell at i
unfoldable pub step : List ℕ → ℕ → ℕ
step s i = step_kind i (kind_at s i)

-- n steps
unfoldable pub steps : List ℕ → ℕ → ℕ → ℕ
steps s zero i = i
steps s (suc n) i = steps s n (step s i)

-- following ends: some number of steps comes to a cell that stays
abbrev pub Ends : List ℕ → ℕ → Type 0
Ends s i = (n : ℕ) × (step s (steps s n i) ≡ steps s n i)

-- where following ends, if it does: `top` steps are enough
abbrev pub end_of : List ℕ → ℕ → ℕ → ℕ
end_of s top i = steps s top i

-- following ends, as a test
unfoldable pub ends_at : List ℕ → ℕ → ℕ → Bool
ends_at s top i = eqb (step s (end_of s top i)) (end_of s top i)

-- ---- the store
-- a well-formed store, rule by rule
pub record WellFormed (s : List ℕ) (top : ℕ) : Type 0 where
  -- `top` is 1 to the limit and at most the lent length
  pub low : 1 ≤ top
  pub high : top ≤ limit
  pub room : top ≤ length s
  -- cell 0 is the word 0, and so are the cells from `top` on
  pub zeroth : get_or s 0 0 ≡ 0
  pub rest : (i : ℕ) → top ≤ i → get_or s i 0 ≡ 0
  -- each used cell from 1 keeps to its row of the table
  pub keep : (i : ℕ) → 1 ≤ i → i < top → keeps_at s top i ≡ true
  -- following Vars always ends
  pub ends : (i : ℕ) → 1 ≤ i → i < top → Ends s i

-- the word at i is 0
abbrev pub is_zero : List ℕ → ℕ → Bool
is_zero s i = eqb (get_or s i 0) 0

-- all words from a place on are 0
unfoldable pub zero_from : List ℕ → ℕ → Bool
zero_from s from = all_from from (length s - from) (is_zero s)

-- each used cell from a place on keeps to its row
unfoldable pub cells_keep : List ℕ → ℕ → ℕ → Bool
cells_keep s from top = all_from from (top - from) (keeps_at s top)

-- following ends from each
unfoldable pub cells_end : List ℕ → ℕ → ℕ → Bool
cells_end s from top = all_from from (top - from) (ends_at s top)

-- the test of all these rules
unfoldable pub well_formed : List ℕ → ℕ → Bool
well_formed s top =
    leb 1 top && leb top limit && leb top (length s) && eqb (get_or s 0 0) 0 && zero_from s top && cells_keep s 1 top && cells_end s 1 top
