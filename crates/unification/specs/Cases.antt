-- The rules in cases, each with what it tells of the two views; every later proof goes by these.
-- The theorems stand in proofs/Cases.antt.
use Rattle.std.specs.Prelude.{◌≡◌, ℕ}
use Rattle.terms.specs.View.{Constant, View, free, con, nod, Shape}
use Rattle.unification.specs.Machine.{Act, skip, bind, join, clash}

-- ---- the cases
-- a view up to the classes
unfoldable pub key : (ℕ → ℕ) → View → View
key classes (free v) = free v
key classes (con c) = con c
key classes (nod n) = nod (classes n)

-- no tree shows both
pub data Apart (sh : Shape) : View → View → Type 0 where
  cc : (c d : Constant) → (c ≡ d → ⊥) → Apart sh (con c) (con d)
  cn : (c : Constant) (n : ℕ) → Apart sh (con c) (nod n)
  nc : (n : ℕ) (c : Constant) → Apart sh (nod n) (con c)
  nn : (n m : ℕ) → (sh.fun n ≡ sh.fun m → ⊥) → Apart sh (nod n) (nod m)

pub data Case (sh : Shape) (classes : ℕ → ℕ) (a b : View) : Act → Type 0 where
  skips : key classes a ≡ key classes b → Case sh classes a b skip
  binds : (v : ℕ) (x : View) → a ≡ free v → b ≡ x → (x ≡ free v → ⊥) → Case sh classes a b (bind v x)
  binds' : (v : ℕ) (x : View) → a ≡ x → b ≡ free v → (x ≡ free v → ⊥) → Case sh classes a b (bind v x)
  joins : (n m : ℕ) → a ≡ nod n → b ≡ nod m → sh.fun n ≡ sh.fun m → (classes n ≡ classes m → ⊥) → Case sh classes a b (join n m)
  parts : Apart sh a b → Case sh classes a b clash
