-- A store with its trail and its marks; whether it keeps every rule; and what a call on it comes to.
use Rattle.std.specs.Prelude.{◌≡◌, Bool, ◌&&◌, cond, List, ℕ, replicate, Ok, Err, Result}
use Rattle.std.proofs.Math.Path.{refl}
use Rattle.std.proofs.Math.Bool.{true, false}
use Rattle.cell.specs.declared.Refusal.{Refusal}
use Rattle.cell.specs.declared.Refusal.TheVariants.{Cells, Trail}
use Rattle.store.specs.Store.{well_formed}
use Rattle.trail.specs.Rules.{trail_good, marks_good}

-- the lent words and the counts: `top` used cells, `trailed` entries, `marked` marks
pub record State : Type 0 where
  pub cells : List ℕ
  pub top : ℕ
  pub trail : List ℕ
  pub trailed : ℕ
  pub marks : List ℕ
  pub marked : ℕ

-- these, put together
abbrev pub state_of : List ℕ → ℕ → List ℕ → ℕ → List ℕ → ℕ → State
state_of cells top trail trailed marks marked = record { cells = cells; top = top; trail = trail; trailed = trailed; marks = marks; marked = marked }

-- a fresh store, of buffers of these lengths
abbrev pub fresh : ℕ → ℕ → ℕ → State
fresh c t m = state_of (replicate c 0) 1 (replicate t 0) 0 (replicate m 0) 0

-- ---- the store check
-- the rules of the cells
abbrev pub cells_hold : State → Bool
cells_hold s = well_formed s.cells s.top

-- the rules of the trail and the marks
abbrev pub trail_holds : State → Bool
trail_holds s = trail_good s.cells s.top s.trail s.trailed && marks_good s.top s.trailed s.marks s.marked

-- every rule
abbrev pub holds : State → Bool
holds s = cells_hold s && trail_holds s

-- ---- refusals
-- nothing stands against a call, or the refusal that does
abbrev pub Answer : Type 0
Answer = Result Unit Refusal

-- what a call refuses, and no more
abbrev pub answer_of : {A : Type 0} → Result A Refusal → Answer
answer_of (Ok x) = Ok tt
answer_of (Err e) = Err e

-- refused by e unless b holds
abbrev pub need : Bool → Refusal → Answer
need b e = cond b (Ok tt) (Err e)

-- the first, and where it does not refuse the second: so the lowest number is given where several hold
infixr 20 ◌then◌
abbrev pub ◌then◌ : Answer → Answer → Answer
(Ok tt) then b = b
Err e then b = Err e

-- refusals 1 and 2: the cells, and the trail and the marks
unfoldable pub check_of : State → Answer
check_of s = need (cells_hold s) Cells then need (trail_holds s) Trail

-- ---- calls
-- what a call answers: done, with a number where it has one to tell; no unifier; or refused
pub data Outcome : Type 0 where
  done : ℕ → Outcome
  failed : Outcome
  refused : Refusal → Outcome

-- what an answer that tells nothing says
abbrev pub said : Answer → Outcome
said (Ok u) = done 0
said (Err r) = refused r

-- what an answer that tells a number says
abbrev pub said_number : Result ℕ Refusal → Outcome
said_number (Ok n) = done n
said_number (Err r) = refused r

-- what an answer that is yes or no says: yes tells nothing more
abbrev pub said_yes : Result Bool Refusal → Outcome
said_yes (Ok true) = done 0
said_yes (Ok false) = failed
said_yes (Err r) = refused r

-- a call with these refusals that else comes to r; a refusal changes nothing
abbrev pub unless : {A : Type 0} → Answer → A → Outcome × A → Outcome × A
unless (Ok tt) s r = r
unless (Err e) s r = (refused e, s)

-- ---- laws
pub same_state_lem : {s t : State} → s.cells ≡ t.cells → s.top ≡ t.top → s.trail ≡ t.trail → s.trailed ≡ t.trailed → s.marks ≡ t.marks → s.marked ≡ t.marked → s ≡ t
same_state_lem p q r u v w = λ i. record { cells = p i; top = q i; trail = r i; trailed = u i; marks = v i; marked = w i }

module _ (s : State) where
  pub check_cells : cells_hold s ≡ false → Err Cells ≡ check_of s
  unfolding check_of
  check_cells a = rw a

  pub check_trail : cells_hold s ≡ true → trail_holds s ≡ false → Err Trail ≡ check_of s
  unfolding check_of
  check_trail a b = rw (a, b)

  pub check_done : cells_hold s ≡ true → trail_holds s ≡ true → Ok tt ≡ check_of s
  unfolding check_of
  check_done a b = rw (a, b)

  -- a check that passes: every rule holds
  pub check_passed : Ok tt ≡ check_of s → holds s ≡ true
  unfolding check_of
  check_passed = go (cells_hold s) (trail_holds s)
    where
      go : (x y : Bool) → Ok tt ≡ (need x Cells then need y Trail) → (x && y) ≡ true
      go true true h = refl
      go true false h = cc
      go false y h = cc
