-- At most 3 x `top` + 1 pairs ever stand: of every machine that a run comes to.
-- The theorems stand in proofs/Standing.antt.
use Rattle.std.specs.Prelude.{◌≡◌, Bool, [], ℕ}
use Rattle.trail.specs.State.{State}
use Rattle.unification.specs.Machine.{Machine, yes, turn, start}

-- the machines that a run comes to: the start, and what one turn makes of another
pub data Comes (check : Bool) (s : State) (a b : ℕ) : Machine → Type 0 where
  first : Comes check s a b (start s a b)
  next : {m t : Machine} → Comes check s a b m → (m.pairs ≡ [] → ⊥) → turn check s.top yes m m.pairs ≡ yes t → Comes check s a b t
