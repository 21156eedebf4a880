-- What the contracts of the copier's methods say of it.
use Rattle.std.specs.Prelude.{◌≡◌, ℕ, ◌<◌, ◌≤◌}
use Rattle.cell.specs.declared.Kind.{Kind}
use Rattle.copy.specs.declared.Copier.{Copier}
use Rattle.copy.specs.Rules.{State}
use Rattle.copy.specs.Buffer.{tables_of}
use Rattle.copy.specs.Asks.{state_of, Able, Can, Ready}

-- the arrays and the count of old cells are the same, and no new cell is gone
abbrev pub Goes : Copier → Copier → Type 0
Goes a b = (b.cells.ghost_name ≡ a.cells.ghost_name) × (b.work.ghost_name ≡ a.work.ghost_name) × (b.top ≡ a.top) × (a.end ≤ b.end)

-- how far the copy is; of the work buffer all words count as tables
abbrev pub state : Copier → State
state c = state_of c.cells.now c.work.now c.end

-- how far the copy is
abbrev pub tabled : Copier → State
tabled c = state_of c.cells.now (tables_of c.top c.work.now) c.end

-- the run of n cells at b has a copy noted at i, or there is room for one
abbrev pub CanRun : Copier → ℕ → ℕ → ℕ → Type 0
CanRun c i b n = Able c.cells.now c.work.now c.top c.end i b n

-- the new cell p may become a copy of a cell of this kind
abbrev pub CanAct : Copier → ℕ → Kind → Type 0
CanAct c p k = (c.top ≤ p) × (p < c.end) × Can c.cells.now c.work.now c.top c.end k

-- the cell p is the next to be scanned
abbrev pub Next : Copier → ℕ → Type 0
Next c p = Ready c.cells.now c.work.now c.top c.end p
