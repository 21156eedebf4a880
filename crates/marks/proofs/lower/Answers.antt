-- `marks::lower` meets its contract: the named cells unbound, then the cells from `t` on zeroed.
use Rattle.std.proofs.Common.{arith}
use Rattle.marks.specs.Left.{rest_stays}
use Rattle.marks.proofs.lower.Goals as goal

pub zero_to-requires : goal.zero_to-requires
zero_to-requires c =
    let l = c.requires in
    let u = c.unbind in
    let w = l.within in
    (omega arith, rw u.auto.cells l.room, rest_stays _ _ _ _ _ _ l _ u.ensures)
