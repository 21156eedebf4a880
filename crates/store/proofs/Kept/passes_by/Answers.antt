use mathlib.Core.Path.{refl, sym, ap, ◌∙◌}
use mathlib.Core.Bool.{false≢true}
use native.Mathlib.Omega.{arith}
use borrow.Author.Count.{below_more}
use Rattle.store.specs.Store.{step, steps}
use Rattle.store.specs.Steps.{next_used}
use Rattle.store.specs.Ends.{steps_more}
use Rattle.store.proofs.Kept.passes_by.Goals as goal

pub loop-init : goal.loop-init
unfolding steps
loop-init c = (omega arith, omega arith, refl, λ k l. absurd (omega arith))

pub returns-then-cur-goal : goal.returns-then-cur-goal
returns-then-cur-goal c =
    let l = c.loop in
    record { passed = λ t. absurd (false≢true t); met = λ _. (l.counter, omega arith, sym l.invariant.2 ∙ c.if-cur-goal.true) }

pub loop-preserved : goal.loop-preserved
loop-preserved c =
    let l = c.loop in
    let e = c.step_of-cur.ensures in
    let u = next_used _ _ c.args.self.keep l.invariant.0 l.invariant.1 e in
    (u.0, u.1, e ∙ ap (step _) l.invariant.2 ∙ sym (steps_more _ _ _), below_more _ _ l.invariant.3 (λ q. c.if-cur-goal.false (l.invariant.2 ∙ q)))

pub returns : goal.returns
returns c = let l = c.loop in record { passed = λ _ w. l.invariant.3 w.0 (let h = w.1 in omega arith) w.2; met = λ f. absurd (false≢true (sym f)) }
