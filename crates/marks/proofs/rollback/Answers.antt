-- `marks::rollback` meets its contract: the check decides, and what is then written is what the definition says.
use Rattle.std.proofs.Common.{sym, arith}
use Rattle.trail.specs.State.{state_of}
use Rattle.marks.specs.Rolling.{Passed, passed, lowers_to}
use Rattle.marks.proofs.rollback.Goals as goal
use Rattle.marks.proofs.rollback.Goals.{In_ok-at}

-- what is known of the state at the call past the check
past : (c : In_ok-at) → let a = c.args in Passed (state_of a.cells.now a.top.now a.trail.now a.trailed.now a.marks.now a.marked.now) a.k
past c = passed _ _ (sym c.in_ok-at.ensures.answer)

pub lower-requires : goal.lower-requires
lower-requires c = let n = c.in_ok-at.ensures.counts in lowers_to _ _ (past (goal.at.lower-requires c).In_ok-at) n.0 n.1

pub zero_to-requires : goal.zero_to-requires
zero_to-requires c =
    let n = c.in_ok-at.ensures.counts in
    let p = past (goal.at.zero_to-requires c).In_ok-at in
    let g = p.held.trail_good_lem in
    ((lowers_to _ _ p n.0 n.1).names.order, g.fits, g.rest)

pub overflow_mul-k : goal.overflow_mul-k
overflow_mul-k c = let p = past (goal.at.overflow_mul-k c).In_ok-at in let f = p.held.marks_good_lem.fits in let h = p.high in omega (arith, c.well_formed)

pub overflow_mul-m : goal.overflow_mul-m
overflow_mul-m c = let p = past (goal.at.overflow_mul-m c).In_ok-at in let f = p.held.marks_good_lem.fits in omega (arith, c.well_formed)

pub zero_to-requires-2 : goal.zero_to-requires-2
zero_to-requires-2 c =
    let p = past (goal.at.zero_to-requires-2 c).In_ok-at in
    let g = p.held.marks_good_lem in
    let h = p.high in
    (omega arith, g.fits, g.rest)
