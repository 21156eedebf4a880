-- `unifier::unify` meets its contract: the check decides, and past it the run.
use Rattle.std.proofs.Common.{◌∙◌, sym}
use Rattle.std.proofs.lemmas.Result.{err_from_is_err_and}
use Rattle.trail.specs.State.{state_of}
use Rattle.unifier.specs.Settling.{check_passes, passed_lent, settled_beside, call_says, call_refuses}
use Rattle.unifier.proofs.unify.Goals as goal

pub returns-in_err-check : goal.returns-in_err-check
returns-in_err-check c =
    let p = err_from_is_err_and c.from_residual.result c.from_residual.ensures.1 in
    rw (p.1, p.2) (call_refuses _ _ _ _ _ _ (sym c.in_err-check.ensures))

pub settle-requires : goal.settle-requires
settle-requires c =
    let a = c.args in
    let s = state_of a.cells.now a.top a.trail.now a.trailed.now a.marks.now a.marked in
    passed_lent _ s _ _ _ (check_passes s _ _ _ _ (sym c.in_ok-check.ensures))

pub returns : goal.returns
returns c =
    let a = c.args in
    let s = state_of a.cells.now a.top a.trail.now a.trailed.now a.marks.now a.marked in
    settled_beside _ s _ _ _ _ _ _ _ _ c.settle.ensures ∙ sym (call_says s _ _ _ _ (sym c.in_ok-check.ensures))
