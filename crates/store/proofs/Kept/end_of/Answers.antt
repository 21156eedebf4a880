use native.Mathlib.Nat.{sub-zero}
use mathlib.Core.Path.{◌∙◌, sym, ap}
use native.Mathlib.Omega.{arith}
use Rattle.store.specs.Store.{steps}
use Rattle.store.specs.Steps.{steps_split, steps_fixed, steps_done, step_used}
use Rattle.store.proofs.Kept.end_of.Goals as goal

pub loop-init : goal.loop-init
loop-init c = (omega arith, omega arith, rw sub-zero)

pub returns-then-next-cur : goal.returns-then-next-cur
returns-then-next-cur c = (omega arith, omega arith, sym (c.loop.invariant.2 ∙ steps_fixed _ _ _ (sym c.step_of-next.ensures ∙ c.if-next-cur.true)))

pub loop-preserved : goal.loop-preserved
loop-preserved c =
    let l = c.loop in
    let e = c.step_of-next.ensures in
    let u = step_used _ _ c.args.self.keep l.cur (omega arith) (omega arith) in
    (omega arith, omega arith, l.invariant.2 ∙ steps_split _ _ (omega arith) ∙ ap (steps _ _) (sym e))

pub returns : goal.returns
returns c = (omega arith, omega arith, sym (c.loop.invariant.2 ∙ steps_done _ _ (omega arith)))
