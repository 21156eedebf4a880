-- `cycle::room_within` meets its contract: a copy needs no more room than 1 and the links that one walk on fresh tables goes over, and else the room counted of what it finished.
use Rattle.std.proofs.Common.{ℕ, sym, ap, arith, leb}
use borrow.Author.Tests.{le-leb}
use Rattle.store.specs.Store.{limit}
use Rattle.store.specs.WellFormed.{parts}
use Rattle.store.specs.Steps.{term_used}
use Rattle.cycle.specs.Room.{room_of}
use Rattle.cycle.specs.Tables.{NoneMet, none_met, fresh}
use Rattle.cycle.specs.Answers.{walked_room, walked_enough}
use Rattle.cycle.proofs.room_within.Goals as goal
use Rattle.cycle.proofs.room_within.Goals.{After-new-tables}

-- before the walk
unmet : (c : After-new-tables) → NoneMet c.new-tables.result.colours
unmet c x = rw c.new-tables.ensures (none_met limit x)

pub walk-seen-requires : goal.walk-seen-requires
walk-seen-requires c =
    let u = term_used _ _ _ c.requires in
    (omega arith, (u.0, u.1, c.args.store.cells.fits.0, omega arith, rw c.new-tables.ensures (fresh _ limit), unmet (goal.at.walk-seen-requires c).After-new-tables _))

pub returns-then-seen-free : goal.returns-then-seen-free
returns-then-seen-free c =
    let n = walked_enough (parts _ _ c.args.store.whole) c.requires c.walk-seen.ensures.0 (unmet (goal.at.returns-then-seen-free c).After-new-tables) _ c.walk-seen.ensures.1 in
    let s = c.args.store.cells in
    sym (le-leb (room_of s.words.now s.top c.args.root) c.args.free (omega arith))

pub returns : goal.returns
returns c =
    let n = c.count_runs.ensures in
    ap (λ (r : ℕ). leb r c.args.free) (walked_room (parts _ _ c.args.store.whole) c.requires c.walk-seen.ensures.0 (unmet (goal.at.returns c).After-new-tables) _ _ _ n.2.str n.2.lis n.2.room)
