-- Unification on the words of a store, as it is computed: the rules for two followed cells, one turn, and a whole run. Last pair in, first out, starting with the roots.
use Rattle.std.specs.Prelude.{Bool, true, false, ◌&&◌, cond, List, [], ◌∷◌, ◌++◌, ℕ, zero, suc, ◌+◌, ◌*◌, eqb, ltb, ℤ, pos, negsuc, get_or, set}
use Rattle.store.specs.Store.{kind_at, end_of}
use Rattle.trail.specs.State.{State}
use Rattle.cycle.specs.Room.{reaches}
use Rattle.terms.specs.View.{Constant, atom, number, View, free, con, nod, Shape, arity_of, view_kind, shape_of}

-- ---- the rules
-- numbers agree by value
unfoldable pub same_number : ℤ → ℤ → Bool
same_number (pos n) (pos m) = eqb n m
same_number (pos n) (negsuc m) = false
same_number (negsuc n) (pos m) = false
same_number (negsuc n) (negsuc m) = eqb n m

-- atoms (or arity-0 Str) agree by name, numbers by value; kinds don't mix
unfoldable pub same_constant : Constant → Constant → Bool
same_constant (atom n) (atom m) = eqb n m
same_constant (atom n) (number z) = false
same_constant (number z) (atom n) = false
same_constant (number y) (number z) = same_number y z

-- compounds need equal name and arity
unfoldable pub same_fun : ℕ × ℕ → ℕ × ℕ → Bool
same_fun f g = eqb f.0 g.0 && eqb f.1 g.1

-- what two followed cells ask for: nothing; that an unbound Var comes to show what the other cell shows; that the classes of two nodes be joined; or they clash
pub data Act : Type 0 where
  skip : Act
  bind : ℕ → View → Act
  join : ℕ → ℕ → Act
  clash : Act

-- the rules for what two followed cells show: of two unbound Vars the higher is bound, one unbound Var is bound, and nodes already in one class ask for nothing
unfoldable pub rule : Shape → (ℕ → ℕ) → View → View → Act
rule sh classes (free v) (free w) = cond (eqb v w) skip (cond (ltb v w) (bind w (free v)) (bind v (free w)))
rule sh classes (free v) (con c) = bind v (con c)
rule sh classes (free v) (nod n) = bind v (nod n)
rule sh classes (con c) (free v) = bind v (con c)
rule sh classes (con c) (con d) = cond (same_constant c d) skip clash
rule sh classes (con c) (nod n) = clash
rule sh classes (nod n) (free v) = bind v (nod n)
rule sh classes (nod n) (con c) = clash
rule sh classes (nod n) (nod m) = cond (eqb (classes n) (classes m)) skip (cond (same_fun (sh.fun n) (sh.fun m)) (join n m) clash)

-- ---- the machine
-- the cells; the trail and how many entries it has; the name of each node's class; and the pairs that stand, the last in first
pub record Machine : Type 0 where
  pub cells : List ℕ
  pub trail : List ℕ
  pub trailed : ℕ
  pub classes : ℕ → ℕ
  pub pairs : List (ℕ × ℕ)

-- how a run ends: yes, with what it leaves; no unifier, since two terms clash or since a variable occurs in its own value; or the fuel is spent, which never happens
pub data Ending : Type 0 where
  yes : Machine → Ending
  clashes : Ending
  occurs : Ending
  late : Ending

-- with these pairs standing
abbrev pub popped : Machine → List (ℕ × ℕ) → Machine
popped s rest = record { cells = s.cells; trail = s.trail; trailed = s.trailed; classes = s.classes; pairs = rest }

-- the cell at v gets the word of the cell at e, and is trailed
abbrev pub written : Machine → ℕ → ℕ → Machine
written s v e = record { cells = set s.cells v (get_or s.cells e 0); trail = set s.trail s.trailed v; trailed = s.trailed + 1; classes = s.classes; pairs = s.pairs }

-- class q becomes class p
unfoldable pub merge : ℕ → ℕ → ℕ → ℕ
merge p q c = cond (eqb c q) p c

-- the pairs of the arguments of two nodes, a of them from number k on: the first is taken first
unfoldable pub args : Shape → ℕ → ℕ → ℕ → ℕ → List (ℕ × ℕ)
args sh n m zero k = []
args sh n m (suc a) k = (sh.arg n k, sh.arg m k) ∷ args sh n m a (suc k)

-- the classes of nodes n and m joined, and their arguments pushed
abbrev pub joined : Shape → Machine → ℕ → ℕ → Machine
joined sh s n m = record { cells = s.cells; trail = s.trail; trailed = s.trailed; classes = λ k. merge (s.classes n) (s.classes m) (s.classes k); pairs = args sh n m (arity_of sh n) 0 ++ s.pairs }

-- of two followed cells the one that is not v
abbrev pub other : ℕ → ℕ → ℕ → ℕ
other a b v = cond (eqb a v) b a

-- what the cell at i shows, where it is followed already
abbrev pub view_at : List ℕ → ℕ → View
view_at cells i = view_kind cells (kind_at cells i)

-- what two followed cells ask for; equal words: nothing
unfoldable pub act_of : Machine → ℕ → ℕ → Act
act_of s a b = cond (eqb (get_or s.cells a 0) (get_or s.cells b 0)) skip (rule (shape_of s.cells) s.classes (view_at s.cells a) (view_at s.cells b))

-- a compound is shown
unfoldable pub is_compound : View → Bool
is_compound (free v) = false
is_compound (con c) = false
is_compound (nod n) = true

-- the occurs check, where it is made: what v would come to show is compound, and the cell at e, which shows it, reaches v
unfoldable pub stopped : Bool → List ℕ → ℕ → ℕ → View → ℕ → Bool
stopped check cells top v x e = check && is_compound x && reaches cells top e v

-- where an act on the followed cells a and b leads; `next` goes on
abbrev pub after : Bool → ℕ → (Machine → Ending) → Machine → ℕ → ℕ → Act → Ending
after check top next s a b skip = next s
after check top next s a b (bind v x) = cond (stopped check s.cells top v x (other a b v)) occurs (next (written s v (other a b v)))
after check top next s a b (join n m) = next (joined (shape_of s.cells) s n m)
after check top next s a b clash = clashes

-- one turn: the last pair is taken, and both its cells are followed
abbrev pub turn : Bool → ℕ → (Machine → Ending) → Machine → List (ℕ × ℕ) → Ending
turn check top next s [] = yes s
turn check top next s (p ∷ rest) =
    let a = end_of s.cells top p.0 in
    let b = end_of s.cells top p.1 in
    after check top next (popped s rest) a b (act_of s a b)

-- at most n turns
unfoldable pub run : Bool → ℕ → ℕ → Machine → Ending
run check top zero s = late
run check top (suc n) s = turn check top (λ t. run check top n t) s s.pairs

-- ---- unification of the cells a and b
-- each node is a class of its own, and the roots are the one pair
abbrev pub start : State → ℕ → ℕ → Machine
start s a b = record { cells = s.cells; trail = s.trail; trailed = s.trailed; classes = λ n. n; pairs = (a, b) ∷ [] }

-- one turn more than pairs are ever taken
abbrev pub fuel : ℕ → ℕ
fuel top = 3 * top + 2

-- plain unification, and checked where `check` is true
unfoldable pub unified : Bool → State → ℕ → ℕ → Ending
unified check s a b = run check s.top (fuel s.top) (start s a b)
