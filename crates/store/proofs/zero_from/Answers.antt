use mathlib.Core.Path.{◌∙◌, sym}
use mathlib.Core.Logic.{⊎_elim}
use Prim.Native.Nat.{◌+◌}
use native.Mathlib.Nat.{add-zero}
use native.Mathlib.Omega.{arith}
use Rattle.store.specs.All.{all_done}
use Rattle.store.specs.Store.{zero_from}
use Rattle.store.specs.Zeros.{or_done, or_next}
use Rattle.store.proofs.zero_from.Goals as goal

pub returns-in_default : goal.returns-in_default
unfolding zero_from
returns-in_default c =
    sym (all_done _ _ (⊎_elim (λ h. omega arith) (λ h. absurd (omega arith)) c.in_default.ensures.lookup.0))

pub loop-w-init : goal.loop-w-init
unfolding zero_from
loop-w-init c = rw add-zero

pub loop-w-preserved : goal.loop-w-preserved
loop-w-preserved c =
    let e = c.in-Some.ensures.lookup.0 in
    c.loop-w.invariant ∙ or_next _ _ _ e.2 e.3 _ _ c.loop-w-test.true

pub returns : goal.returns
returns c =
    let l = c.loop-w in
    let n = c.in-Some.ensures.lookup.0.3 in
    sym (l.invariant ∙ or_done c.args.words.now l.seen (c.args.from + l.w-index) (omega arith))
