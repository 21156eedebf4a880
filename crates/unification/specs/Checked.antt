-- Checked unification of roots that stand for finite terms: a no means that no finite terms make them equal; after a yes the cells' terms are instances of those at entry by one substitution, which is a most general unifier.
-- The theorems stand in proofs/Checked.antt.
use Rattle.std.specs.Prelude.{ℕ}
use Rattle.terms.specs.View.{View, Shape}
use Rattle.terms.specs.Term.{Term}
use Rattle.terms.specs.Stands.{Stands}
use Rattle.unification.specs.Substitution.{inst}

-- ---- a binding that the occurs check lets pass keeps the terms finite
abbrev pub HasTerm : Shape → (ℕ → View) → ℕ → Type 0
HasTerm sh look i = (t : Term) × Stands sh look t i

-- each term of the start has become its instance by one substitution
abbrev pub Into : Shape → (ℕ → View) → (ℕ → View) → Type 0
Into sh look₀ look = (θ : ℕ → Term) × ((i : ℕ) (t : Term) → Stands sh look₀ t i → Stands sh look (inst θ t) i)
