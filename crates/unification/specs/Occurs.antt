-- The occurs check means what it says: the computed test holds exactly where the variable lies below the node that it would be bound to.
-- The theorems stand in proofs/Occurs.antt.
use Rattle.std.proofs.Math.Path.{◌≡◌}
use Rattle.std.specs.Prelude.{ℕ, ◌<◌}
use Rattle.terms.specs.View.{View, free, nod, Shape, arity_of}

-- the variable v lies within cell i
pub data Within (sh : Shape) (look : ℕ → View) (v : ℕ) : ℕ → Type 0 where
  itself : {i : ℕ} → look i ≡ free v → Within sh look v i
  inside : {i : ℕ} (n k : ℕ) → look i ≡ nod n → k < arity_of sh n → Within sh look v (sh.arg n k) → Within sh look v i

-- the variable v lies below the node n
abbrev pub Below : Shape → (ℕ → View) → ℕ → ℕ → Type 0
Below sh look v n = (k : ℕ) × (k < arity_of sh n) × Within sh look v (sh.arg n k)
