-- The rules of a copy, as a computation on the words: what is scanned, what each scanned cell becomes, and what is added at the end.
use Rattle.std.specs.Prelude.{cond, List, ℕ, zero, suc, ◌+◌, get_or, set, replicate, eqb, ltb}
use Rattle.cell.specs.declared.Kind.{Kind}
use Rattle.cell.specs.declared.Kind.TheVariants.{Var, Str, Lis, Atom, Fixnum, Bad}
use Rattle.cell.specs.Kinds.{kind_of, word_of_kind}
use Rattle.store.specs.Store.{limit, end_of}
use Rattle.cycle.specs.Kids.{arity_at}

-- ---- what a copy goes on
-- the cells, the tables of what was copied already, and the count of cells
pub record State : Type 0 where
  pub cells : List ℕ
  pub tables : List ℕ
  pub end : ℕ

-- three tables of a word for each old cell; 0: not copied yet
abbrev pub table_words : ℕ → ℕ
table_words top = top + top + top

-- where the copy of a structure is noted, by its functor cell
abbrev pub structure_at : ℕ → ℕ → ℕ
structure_at top f = f

-- where the copy of a pair is noted, by its first cell: an Atom of arity 0 can be a functor cell and a pair's first cell at once
abbrev pub pair_at : ℕ → ℕ → ℕ
pair_at top l = top + l

-- where the new home of an unbound variable is noted
abbrev pub home_at : ℕ → ℕ → ℕ
home_at top v = top + top + v

-- ---- what is done
-- n words from b on, to the cells from `to` on
unfoldable pub copy_run : ℕ → List ℕ → ℕ → ℕ → List ℕ
copy_run zero s b to = s
copy_run (suc n) s b to = copy_run n (set s to (get_or s b 0)) (suc b) (suc to)

-- a copy of the run of n cells at b is added at the end, if none is noted at i
unfoldable pub run : State → ℕ → ℕ → ℕ → State
run st i b n =
    cond (eqb (get_or st.tables i 0) 0)
    (record { cells = copy_run n st.cells b st.end; tables = set st.tables i st.end; end = st.end + n })
    st

-- p is noted at i as a variable's home, if none is
unfoldable pub homed : List ℕ → ℕ → ℕ → List ℕ
homed tables i p = cond (eqb (get_or tables i 0) 0) (set tables i p) tables

-- a variable that is met at p has its home
abbrev pub home : State → ℕ → ℕ → State
home st i p = record { cells = st.cells; tables = homed st.tables i p; end = st.end }

-- cell p gets the word w
unfoldable pub put : State → ℕ → ℕ → State
put st p w = record { cells = set st.cells p w; tables = st.tables; end = st.end }

-- ---- the scan
-- the word where following a word of this kind ends
unfoldable pub end_kind : List ℕ → ℕ → ℕ → Kind → ℕ
end_kind s top w (Var v) = get_or s (end_of s top v) 0
end_kind s top w (Str f) = w
end_kind s top w (Lis l) = w
end_kind s top w (Atom n a) = w
end_kind s top w (Fixnum z) = w
end_kind s top w Bad = w

-- the word where following a word ends
unfoldable pub end_word : List ℕ → ℕ → ℕ → ℕ
end_word s top w = end_kind s top w (kind_of w)

-- what the scanned cell p becomes, by the word w where following it ends: of an unbound Var its home, which is p itself where it had none; of a Str or Lis the copy of its run; any other word itself
unfoldable pub act : ℕ → State → ℕ → ℕ → Kind → State
act top st p w (Var v) =
    let i = home_at top v in
    let t = home st i p in
    put t p (word_of_kind (Var (get_or t.tables i 0)))
act top st p w (Str f) =
    let i = structure_at top f in
    let t = run st i f (1 + arity_at st.cells f) in
    put t p (word_of_kind (Str (get_or t.tables i 0)))
act top st p w (Lis l) =
    let i = pair_at top l in
    let t = run st i l 2 in
    put t p (word_of_kind (Lis (get_or t.tables i 0)))
act top st p w (Atom n a) = put st p w
act top st p w (Fixnum z) = put st p w
act top st p w Bad = put st p w

-- cell p is scanned: followed first
unfoldable pub scanned : ℕ → State → ℕ → State
scanned top st p = let w = end_word st.cells top (get_or st.cells p 0) in act top st p w (kind_of w)

-- upwards from p, as long as there are cells: n at most
unfoldable pub scan : ℕ → ℕ → ℕ → State → State
scan top zero p st = st
scan top (suc n) p st = cond (ltb p st.end) (scan top n (p + 1) (scanned top st p)) st

-- the new cells go from `top` on, and the first gets the root's word
abbrev pub first : List ℕ → ℕ → ℕ → State
first s top root = record { cells = set s top (get_or s root 0); tables = replicate (table_words top) 0; end = top + 1 }

-- what the scan leaves; a store has no more cells than the limit
unfoldable pub copied : List ℕ → ℕ → ℕ → State
copied s top root = scan top limit top (first s top root)
