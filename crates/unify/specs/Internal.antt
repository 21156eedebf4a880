-- What unification past the refusals may rely on, and what it leaves.
use Rattle.std.specs.Prelude.{◌≡◌, Bool, true, false, List, [], ℕ, ◌+◌, ◌≤◌, length, drop}
use Rattle.store.specs.Store.{term_at, WellFormed}
use Rattle.trail.specs.State.{State, state_of}
use Rattle.chains.specs.Work.{work_need}
use Rattle.unification.specs.Machine.{Machine, yes, clashes, unified}
use Rattle.unification.specs.Calls.{unbound}
use Rattle.unification.specs.Wrote.{Wrote}

-- the cells and the trail with their counts; unification has no part in the marks
abbrev pub lent : List ℕ → ℕ → List ℕ → ℕ → State
lent cells top trail trailed = state_of cells top trail trailed [] 0

-- a well-formed store, two roots that stand for terms, room in the work buffer, and a trail entry for each unbound Var
pub record Begins (s : State) (work : List ℕ) (a b : ℕ) : Type 0 where
  pub store : WellFormed s.cells s.top
  pub left : term_at s.cells s.top a ≡ true
  pub right : term_at s.cells s.top b ≡ true
  pub wide : work_need s.top ≤ length work
  pub room : s.trailed + unbound s.cells s.top ≤ length s.trail

-- the ending of the plain machine: yes with these cells, this trail and this count, or a clash
abbrev pub Ended : State → ℕ → ℕ → List ℕ → List ℕ → ℕ → Bool → Type 0
Ended s a b cells trail trailed true = (m : Machine) × (unified false s a b ≡ yes m) × (m.cells ≡ cells) × (m.trail ≡ trail) × (m.trailed ≡ trailed)
Ended s a b cells trail trailed false = unified false s a b ≡ clashes

-- what is left: the machine's ending; after a clash too, unbinding the new entries gives the entry's cells back; and of the work buffer only the words that a call may use have changed
pub record Left (s : State) (work : List ℕ) (a b : ℕ) (cells trail : List ℕ) (trailed : ℕ) (work' : List ℕ) (ok : Bool) : Type 0 where
  pub ended : Ended s a b cells trail trailed ok
  pub wrote : Wrote s cells trail trailed
  pub long : length work' ≡ length work
  pub rest : drop (work_need s.top) work' ≡ drop (work_need s.top) work
