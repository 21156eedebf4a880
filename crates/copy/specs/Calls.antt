-- What copying a term answers and leaves, of any words, any count and any root.
use Rattle.std.specs.Prelude.{List, ℕ, length, leb}
use Rattle.cell.specs.declared.Refusal.TheVariants.{Cells, Root, Work, Room}
use Rattle.store.specs.Store.{term_at, well_formed}
use Rattle.trail.specs.State.{Outcome, done, need, ◌then◌, unless, Answer}
use Rattle.append.specs.Calls.{room_for}
use Rattle.cycle.specs.Room.{room_of}
use Rattle.chains.specs.Work.{work_need, cleared}
use Rattle.copy.specs.Rules.{copied}

-- the lent words and the count of used cells
pub record Lent : Type 0 where
  pub cells : List ℕ
  pub top : ℕ
  pub work : List ℕ

-- these, put together
abbrev pub lent : List ℕ → ℕ → List ℕ → Lent
lent cells top work = record { cells = cells; top = top; work = work }

-- refusals 1, 3, 4 and 7
abbrev pub flaw : Lent → ℕ → Answer
flaw h root =
    need (well_formed h.cells h.top) Cells
    then need (term_at h.cells h.top root) Root
    then need (leb (work_need h.top) (length h.work)) Work
    then need (room_for h.cells h.top (room_of h.cells h.top root)) Room

-- the store with the copy, and the work buffer after it
abbrev pub grown : Lent → ℕ → Lent
grown h root = let c = copied h.cells h.top root in lent c.cells c.end (cleared (work_need h.top) h.work)

-- a copy answers the old `top`; a refusal changes nothing
unfoldable pub copying : Lent → ℕ → Outcome × Lent
copying h root = unless (flaw h root) h (done h.top, grown h root)
