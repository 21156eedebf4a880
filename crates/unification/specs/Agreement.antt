-- Where no pair is left, cells of one key agree to every depth: so a yes makes the roots agree to every depth.
-- The theorems stand in proofs/Agreement.antt.
use Rattle.std.specs.Prelude.{◌≡◌, List, ℕ, ◌<◌}
use Rattle.terms.specs.View.{View, Shape, arity_of}
use Rattle.unification.specs.Seen.{Seen, All}
use Rattle.unification.specs.Cases.{key}

-- the pairs that g makes equal, through the keys
abbrev pub Via : (View → View) → (ℕ → View) → (ℕ → ℕ) → ℕ → ℕ → Type 0
Via g look classes i j = g (key classes (look i)) ≡ g (key classes (look j))

-- whatever makes the standing pairs equal makes i and j equal
abbrev pub Follows : (ℕ → View) → (ℕ → ℕ) → List (ℕ × ℕ) → ℕ → ℕ → Type 0
Follows look classes S i j = (g : View → View) → All (Via g look classes) S → Via g look classes i j

-- nodes of one class have one functor, and their arguments follow from the standing pairs
abbrev pub Inv : Shape → (ℕ → View) → (ℕ → ℕ) → List (ℕ × ℕ) → Type 0
Inv sh look classes S = (n m : ℕ) → classes n ≡ classes m
    → (sh.fun n ≡ sh.fun m) × ((k : ℕ) → k < arity_of sh n → Follows look classes S (sh.arg n k) (sh.arg m k))

-- what a state promises of two roots
abbrev pub Good : Shape → ℕ → ℕ → (ℕ → View) → (ℕ → ℕ) → List (ℕ × ℕ) → Type 0
Good sh r t look classes S = Inv sh look classes S × Follows look classes S r t

abbrev pub GoodSeen : Shape → ℕ → ℕ → Seen → Type 0
GoodSeen sh r t s = Good sh r t s.look s.classes s.pairs
