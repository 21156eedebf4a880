-- `unify::Machine::join` meets its contract, by whether the two names found are one.
use native.Mathlib.Omega.{arith}
use Rattle.unify.specs.Joining.{meet_together, join_asks, join_room, meet_grew}
use Rattle.unify.proofs.Machine.join.Goals as goal

pub returns-then-a-b-clause-met : goal.returns-then-a-b-clause-met
returns-then-a-b-clause-met c = meet_together c.requires c.find-a.ensures c.find-b.ensures c.if-a-b.true

pub join-requires : goal.join-requires
join-requires c = join_asks c.requires c.find-a.ensures c.find-b.ensures c.if-a-b.false

pub push_args-requires : goal.push_args-requires
push_args-requires c =
    let p = c.requires in
    let r = join_room p c.find-a.ensures c.find-b.ensures c.if-a-b.false in
    let w = p.wide in
    (omega arith, p.left_args, p.right_args)

pub returns-clause-met : goal.returns-clause-met
returns-clause-met c =
    let p = c.push_args.ensures in
    rw p.pairs (meet_grew c.requires c.find-a.ensures c.find-b.ensures c.if-a-b.false c.join.ensures p.grown (omega arith))
