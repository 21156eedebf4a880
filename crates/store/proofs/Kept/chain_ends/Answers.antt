use mathlib.Core.Path.{refl, sym, ◌∙◌}
use native.Mathlib.Omega.{arith}
use borrow.Author.Tests.{eqb-true}
use Rattle.store.specs.Steps.{next_used}
use Rattle.store.specs.Walk.{found_ring, walk_start, walk_never, still_long, walk_more, walk_ends, walk_stays, walk_below, walk_meets}
use Rattle.store.proofs.ByKind.{step_stays, step_goes}
use Rattle.store.proofs.Kept.chain_ends.Goals as goal

pub loop-n-init : goal.loop-n-init
loop-n-init g c = let p = c.requires in walk_start _ _ _ c.args.self.keep p.0 p.1 p.3

pub insert-requires : goal.insert-requires
insert-requires g c = let w = c.loop-n.invariant in let l = w.long in let h = w.high in omega arith

pub kind_at-requires : goal.kind_at-requires
kind_at-requires g c = let h = c.loop-n.invariant.high in omega arith

pub returns-in_default : goal.returns-in_default
returns-in_default g c =
    let p = c.requires in
    walk_stays _ _ _ c.args.self.keep p.0 p.1 c.loop-n.invariant (step_stays _ _ _ c.kind_at.ensures c.in_default.not-Var) c.insert.ensures refl

pub returns-then-next-cur : goal.returns-then-next-cur
returns-then-next-cur g c =
    let p = c.requires in
    walk_stays _ _ _ c.args.self.keep p.0 p.1 c.loop-n.invariant (step_goes _ _ _ c.kind_at.ensures _ c.in-Var.is) c.insert.ensures c.if-next-cur.true

pub returns-then-next-from : goal.returns-then-next-from
returns-then-next-from g c =
    let p = c.requires in
    let e = step_goes _ _ _ c.kind_at.ensures _ c.in-Var.is in
    let w = c.loop-n.invariant in
    walk_ends _ _ _ c.args.self.keep p.0 p.1 w e c.insert.ensures (p.2.below _ (next_used _ _ c.args.self.keep w.first w.high e).0 c.if-next-from.true)

pub contains-requires : goal.contains-requires
contains-requires g c =
    let p = c.requires in
    let e = step_goes _ _ _ c.kind_at.ensures _ c.in-Var.is in
    let w = c.loop-n.invariant in
    let u = next_used _ _ c.args.self.keep w.first w.high e in
    let l = still_long _ _ _ c.args.self.keep p.0 p.1 w e c.insert.ensures in
    omega arith

pub returns-then-next-low : goal.returns-then-next-low
returns-then-next-low g c =
    let p = c.requires in
    walk_below _ _ _ c.args.self.keep p.0 p.1 c.loop-n.invariant (step_goes _ _ _ c.kind_at.ensures _ c.in-Var.is) c.insert.ensures (eqb-true _ _ (sym c.contains.ensures ∙ c.if-contains.true)) c.if-next-low.true

pub returns-then-contains : goal.returns-then-contains
returns-then-contains g c =
    let p = c.requires in
    walk_meets _ _ _ c.args.self.keep p.0 p.1 c.loop-n.invariant (step_goes _ _ _ c.kind_at.ensures _ c.in-Var.is) c.insert.ensures (eqb-true _ _ (sym c.contains.ensures ∙ c.if-contains.true)) c.if-next-cur.false _ c.passes_by.ensures

pub loop-n-preserved : goal.loop-n-preserved
loop-n-preserved g c =
    let p = c.requires in
    walk_more _ _ _ c.args.self.keep p.0 p.1 c.loop-n.invariant (step_goes _ _ _ c.kind_at.ensures _ c.in-Var.is) c.insert.ensures c.if-next-cur.false (omega arith) (omega arith)

pub returns : goal.returns
returns g c = let p = c.requires in found_ring _ _ _ (walk_never _ _ _ c.args.self.keep p.0 p.1 c.loop-n.invariant (omega arith))
