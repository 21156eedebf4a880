-- What the cells of a store show: the view of a followed cell, and the shape of a node, which binding a variable never changes.
use Rattle.std.specs.Prelude.{List, ℕ, zero, suc, ◌+◌, ℤ}
use Rattle.cell.specs.declared.Kind.{Kind}
use Rattle.cell.specs.declared.Kind.TheVariants.{Var, Str, Lis, Atom, Fixnum, Bad}
use Rattle.store.specs.Store.{kind_at, end_of}

-- an atom, by its name, or a number, by its value: the two never agree
pub data Constant : Type 0 where
  atom : ℕ → Constant
  number : ℤ → Constant

-- what following a cell ends at: an unbound Var (by its cell), an atom or number, or a compound (by its node)
pub data View : Type 0 where
  free : ℕ → View
  con : Constant → View
  nod : ℕ → View

-- the name and arity of each node, and the cell of each of its arguments
pub record Shape : Type 0 where
  pub fun : ℕ → ℕ × ℕ
  pub arg : ℕ → ℕ → ℕ

abbrev pub arity_of : Shape → ℕ → ℕ
arity_of sh n = (sh.fun n).1

-- ---- the view of a cell
-- a Str of arity 0 means its atom, and any other means the node of its functor cell
unfoldable pub str_view : ℕ → Kind → View
str_view f (Var v) = con (atom 0)
str_view f (Str v) = con (atom 0)
str_view f (Lis v) = con (atom 0)
str_view f (Atom n zero) = con (atom n)
str_view f (Atom n (suc a)) = nod f
str_view f (Fixnum z) = con (atom 0)
str_view f Bad = con (atom 0)

-- a Lis means the node of its pair's first cell
unfoldable pub view_kind : List ℕ → Kind → View
view_kind s (Var v) = free v
view_kind s (Str f) = str_view f (kind_at s f)
view_kind s (Lis l) = nod l
view_kind s (Atom n a) = con (atom n)
view_kind s (Fixnum z) = con (number z)
view_kind s Bad = con (atom 0)

-- the view of the cell where following i ends
unfoldable pub look_at : List ℕ → ℕ → ℕ → View
look_at s top i = view_kind s (kind_at s (end_of s top i))

-- ---- the shape of a node
-- a pair means '.'/2, whose name is 46
abbrev pub dot : ℕ × ℕ
dot = (46, 2)

-- a header has its own name and arity, and its arguments stand behind it; any other cell is a pair's first, and so its own first argument
unfoldable pub fun_kind : Kind → ℕ × ℕ
fun_kind (Var v) = dot
fun_kind (Str v) = dot
fun_kind (Lis v) = dot
fun_kind (Atom n zero) = dot
fun_kind (Atom n (suc a)) = (n, suc a)
fun_kind (Fixnum z) = dot
fun_kind Bad = dot

unfoldable pub behind : Kind → ℕ
behind (Var v) = 0
behind (Str v) = 0
behind (Lis v) = 0
behind (Atom n zero) = 0
behind (Atom n (suc a)) = 1
behind (Fixnum z) = 0
behind Bad = 0

abbrev pub shape_of : List ℕ → Shape
shape_of s = record { fun = λ n. fun_kind (kind_at s n); arg = λ n k. n + behind (kind_at s n) + k }
