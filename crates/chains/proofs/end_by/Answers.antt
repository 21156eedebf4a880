use lib.ListN.{length-set}
use Rattle.chains.specs.Hops.{far_used, room_now, next_used, follow_less, follow_hops, follow_more, follow_done}
use Rattle.chains.proofs.end_by.Goals as goal

pub onward-far-requires : goal.onward-far-requires
onward-far-requires c = let v = c.loop-next.invariant in let u = far_used _ _ _ _ v.0 v.1 _ _ _ v.2 in (v.0, v.2.left.hops, u.0, u.1, room_now _ _ _ _ v.0 v.1 _ _ _ v.2)

pub onward-next-requires-in-loop-next : goal.onward-next-requires-in-loop-next
onward-next-requires-in-loop-next c =
    let v = c.loop-next.invariant in
    let m = c.loop-next-test.true in
    let o = c.onward-far.ensures in
    let u = next_used _ _ _ _ v.0 v.1 _ _ _ v.2 m _ o in
    (v.0, follow_hops _ _ _ _ v.0 v.1 _ _ _ v.2 m _ o, u.0, u.1, simp length-set (room_now _ _ _ _ v.0 v.1 _ _ _ v.2))

pub loop-next-smaller : goal.loop-next-smaller
loop-next-smaller c =
    let v = c.loop-next.invariant in
    follow_less _ _ _ _ v.0 v.1 _ _ _ v.2 c.loop-next-test.true _ c.onward-far.ensures

pub loop-next-preserved : goal.loop-next-preserved
loop-next-preserved c =
    let v = c.loop-next.invariant in
    (v.0, v.1, follow_more _ _ _ _ v.0 v.1 _ _ _ v.2 c.loop-next-test.true _ c.onward-far.ensures _ c.onward-next-in-loop-next.ensures)

pub returns : goal.returns
returns c = let v = c.loop-next.invariant in (follow_done _ _ _ _ v.0 v.1 _ _ _ v.2 c.loop-next-test.false, v.2.low, v.2.high, v.2.left)
