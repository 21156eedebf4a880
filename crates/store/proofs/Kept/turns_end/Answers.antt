use mathlib.Core.Path.{sym}
use native.Mathlib.Omega.{arith}
use Rattle.store.specs.Turns.{turns_none, turns_more, turns_enough}
use Rattle.store.proofs.ByKind.{set_fits}
use Rattle.store.proofs.Kept.turns_end.Goals as goal

pub loop-i-init : goal.loop-i-init
loop-i-init g c = let p = c.requires in (omega arith, turns_none _ _, p.2)

pub turn_ends-requires : goal.turn_ends-requires
turn_ends-requires g c =
    let p = c.requires in
    (set_fits _ p.4, (p.0, c.loop-i.invariant.0, omega arith, p.1, c.loop-i.invariant.2, p.3, p.4))

pub returns-then-not-turn_ends : goal.returns-then-not-turn_ends
returns-then-not-turn_ends g c = sym (c.turn_ends.ensures.ring c.if-not-turn_ends.true)

pub loop-i-preserved : goal.loop-i-preserved
loop-i-preserved g c =
    let l = c.loop-i in
    let t = c.if-not-turn_ends.false in
    (omega arith, turns_more _ _ l.invariant.1 (c.turn_ends.ensures.ends t), c.turn_ends.ensures.known t)

pub returns : goal.returns
returns g c =
    let l = c.loop-i in
    let p = c.requires in
    sym (turns_enough _ _ c.args.self.keep _ p.0 p.1 (omega arith) l.invariant.1)
