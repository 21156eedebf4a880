-- `marks::cut` meets its contract: the check's answer and the count decide, and the marks above `k` become 0.
use Rattle.std.proofs.Common.{arith, rules}
use Rattle.trail.specs.Facts.{MarksGood, check_parts}
use Rattle.marks.proofs.cut.Goals as goal
use Rattle.marks.proofs.cut.Goals.{In_ok-check}

-- past the check the marks keep their rules
good : (c : In_ok-check) → let a = c.args in MarksGood a.top a.trailed a.marks.now a.marked.now
good c = (check_parts _ c.in_ok-check.ensures.answer).marks_good_lem

pub overflow_mul-k : goal.overflow_mul-k
overflow_mul-k c = let g = (good (goal.at.overflow_mul-k c).In_ok-check).fits in search rules

pub overflow_mul-m : goal.overflow_mul-m
overflow_mul-m c = let g = (good (goal.at.overflow_mul-m c).In_ok-check).fits in search rules

pub zero_to-requires : goal.zero_to-requires
zero_to-requires c = let g = good (goal.at.zero_to-requires c).In_ok-check in (omega arith, g.fits, g.rest)
