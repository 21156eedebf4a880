-- What holds of a running machine, that each turn keeps it, and that what an act keeps a whole run keeps. So a run ends before its fuel is spent.
-- The theorems stand in proofs/Live.antt.
use Rattle.std.specs.Prelude.{◌≡◌, Bool, true, ◌⊎◌}
use mathlib.Core.List.{[]}
use Prim.Native.Nat.{ℕ, ◌<◌}
use Rattle.store.specs.Store.{term_at, WellFormed}
use Rattle.trail.specs.State.{State}
use Rattle.terms.specs.View.{View, free, nod, Shape, shape_of}
use Rattle.unification.specs.Machine.{Act, skip, bind, join, clash, Machine, Ending, yes, clashes, occurs, late, written, joined, other}
use Rattle.unification.specs.Seen.{Seen, seen_of, All}
use Rattle.unification.specs.Weight.{Classed, weight}
use Rattle.unification.specs.Wrote.{Wrote}
use Rattle.unification.specs.Occurs.{Below}

-- s is the state at entry; at most f turns are left
pub record Live (s : State) (f : ℕ) (m : Machine) : Type 0 where
  pub store : WellFormed m.cells s.top
  -- no header comes or goes
  pub shape : shape_of m.cells ≡ shape_of s.cells
  -- the pairs that stand are of cells that stand for terms
  pub terms : All (λ i j. (term_at m.cells s.top i ≡ true) × (term_at m.cells s.top j ≡ true)) m.pairs
  pub classed : Classed (shape_of s.cells) s.top (seen_of s.top m)
  -- the turns left are enough, and the pairs that stand are fewer
  pub time : weight (shape_of s.cells) s.top (seen_of s.top m) < f
  pub wrote : Wrote s m.cells m.trail m.trailed

-- the machine after an act on the followed cells a and b
abbrev pub applied : Shape → Machine → ℕ → ℕ → Act → Machine
applied sh m a b skip = m
applied sh m a b (bind v x) = written m v (other a b v)
applied sh m a b (join n k) = joined sh m n k
applied sh m a b clash = m

-- ---- the occurs check
-- an act that a checked run takes: it binds no variable to a node that the variable lies below
abbrev pub Passes : Bool → Shape → (ℕ → View) → Act → Type 0
Passes check sh look u = check ≡ true → (v n : ℕ) → u ≡ bind v (nod n) → Below sh look v n → ⊥

-- a pair that the occurs check stops: one cell shows a variable, the other a node that the variable lies below
pub record Stops (sh : Shape) (s : Seen) (a b : ℕ) : Type 0 where
  pub variable : ℕ
  pub node : ℕ
  pub sides : ((s.look a ≡ free variable) × (s.look b ≡ nod node)) ⊎ ((s.look b ≡ free variable) × (s.look a ≡ nod node))
  pub below : Below sh s.look variable node

-- ---- whole runs
-- how a run ends where each act keeps A: a clash then gives C, and a stop O
abbrev pub Ends : State → (Seen → Type 0) → Type 0 → Type 0 → Ending → Type 0
Ends s A C O (yes m) = (f : ℕ) × Live s f m × A (seen_of s.top m) × (m.pairs ≡ [])
Ends s A C O clashes = C
Ends s A C O occurs = O
Ends s A C O late = ⊥
