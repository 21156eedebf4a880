-- `unify::Machine::end_of` meets its contract: following ends at the cell, or where following the next one ends.
use Rattle.chains.specs.Hops.{chained}
use Rattle.unify.specs.Following.{followed_none, mid_asks, followed_part, end_here, next_asks, end_next}
use Rattle.unify.proofs.Machine.end_of.Goals as goal

pub returns-then-next-i-clause-end : goal.returns-then-next-i-clause-end
returns-then-next-i-clause-end c = let p = c.requires in (end_here p c.step_of-next.ensures c.if-next-i.true, p.high, followed_none _ _ _ p.hops)

pub end_by-requires : goal.end_by-requires
end_by-requires c = let p = next_asks c.requires c.step_of-next.ensures in let m = mid_asks p in (chained _ _ p.store, m.0, p.low, p.high, m.1)

pub returns-clause-end : goal.returns-clause-end
returns-clause-end c = let p = c.requires in let e = c.end_by.ensures in (end_next p c.step_of-next.ensures e.0, e.2, followed_part p e.3)
