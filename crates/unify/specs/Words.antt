-- What the code's machine holds, and what its methods leave alone.
use Rattle.std.specs.Prelude.{◌≡◌, length}
use Rattle.unify.specs.declared.Machine.{Machine}
use Rattle.unify.specs.Going.{Held, holds}

-- its words and counts
abbrev pub held : Machine → Held
held m = holds m.cells.now m.trail.now m.work.now m.pairs m.trailed.now

-- the same slices and the same count are still lent to it
abbrev pub Lent : Machine → Machine → Type 0
Lent m n =
    (n.cells.ghost_name ≡ m.cells.ghost_name) × (n.trail.ghost_name ≡ m.trail.ghost_name) × (n.trailed.ghost_name ≡ m.trailed.ghost_name) × (n.work.ghost_name ≡ m.work.ghost_name)
    × (length n.cells.now ≡ length m.cells.now) × (length n.trail.now ≡ length m.trail.now) × (length n.work.now ≡ length m.work.now) × (n.top ≡ m.top)

-- and only the work buffer and the pairs have changed
abbrev pub Works : Machine → Machine → Type 0
Works m n = Lent m n × (n.cells.now ≡ m.cells.now) × (n.trail.now ≡ m.trail.now) × (n.trailed.now ≡ m.trailed.now)
