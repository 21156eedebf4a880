-- What unification promises, of any state, work buffer and roots: stated over words and over the results of the two calls. Terms, substitutions and unifiers are those of ISO/IEC 13211-1, 7.1 and 7.3; checked unification is its 8.2.2.
-- The theorems stand in proofs/Theorems.antt.
use Rattle.std.specs.Prelude.{◌≡◌, ℕ}
use Rattle.std.proofs.Math.Bool.{true}
use mathlib.Core.List.{List}
use Rattle.store.specs.Store.{term_at}
use Rattle.trail.specs.State.{State}
use Rattle.trail.specs.Facts.{Holds}
use Rattle.terms.specs.Term.{Term}
use Rattle.terms.specs.Finite.{StandsAt}
use Rattle.unification.specs.Substitution.{inst, Unifies}
use Rattle.unification.specs.Wrote.{Wrote}

-- some finite terms for the variables make the cells a and b equal (7.3: the terms that they stand for have a unifier)
pub record Unifiable (cells : List ℕ) (top a b : ℕ) : Type 0 where
  pub left : Term
  pub right : Term
  pub left_stands : StandsAt cells top left a
  pub right_stands : StandsAt cells top right b
  pub by : ℕ → Term
  pub equal : Unifies by left right

-- what a checked yes that leads from s to t has found
pub record Solved (s t : State) (a b : ℕ) : Type 0 where
  pub left : Term
  pub right : Term
  pub left_stands : StandsAt s.cells s.top left a
  pub right_stands : StandsAt s.cells s.top right b
  -- a unifier of the roots' terms
  pub found : ℕ → Term
  pub unifies : Unifies found left right
  -- a most general one: every unifier is this one and then itself, at every cell that stands for a term
  pub general : (ρ : ℕ → Term) → Unifies ρ left right → (i : ℕ) (u : Term) → term_at s.cells s.top i ≡ true → StandsAt s.cells s.top u i → inst ρ u ≡ inst ρ (inst found u)
  -- each cell's term has become its instance
  pub becomes : (i : ℕ) (u : Term) → StandsAt s.cells s.top u i → StandsAt t.cells t.top (inst found u) i
  -- the roots stand for one term
  pub both : Term
  pub left_now : StandsAt t.cells t.top both a
  pub right_now : StandsAt t.cells t.top both b

-- what a yes leaves: only cells that were unbound Vars are written, each is trailed, nothing else has changed, and every rule of the cells, the trail and the marks holds
pub record Leaves (s t : State) : Type 0 where
  pub wrote : Wrote s t.cells t.trail t.trailed
  pub top_same : t.top ≡ s.top
  pub marks_same : t.marks ≡ s.marks
  pub marked_same : t.marked ≡ s.marked
  pub rules : Holds t
