-- `unifier::settle` meets its contract: the run's ending and the test after it decide whether what the run left stays.
use Rattle.std.proofs.Common.{◌∙◌, sym}
use Rattle.store.specs.WellFormed.{whole}
use Rattle.unifier.specs.Settling.{begins, yes_store, undoable, still_accepts, settled_yes, settled_no}
use Rattle.unifier.specs.Named.{named_below}
use Rattle.unifier.proofs.settle.Goals as goal
use Rattle.unifier.proofs.settle.Goals.{then-ok+else-accepted, else-ok}

pub unify_internal-ok-requires : goal.unify_internal-ok-requires
unify_internal-ok-requires c = begins _ _ _ _ _ c.requires

pub work_need-n-requires : goal.work_need-n-requires
work_need-n-requires c = (begins _ _ _ _ _ c.requires).store.high

pub invariant_of-cells : goal.invariant_of-cells
invariant_of-cells c = let w = (yes_store _ _ _ _ _ c.requires _ _ _ _ _ c.unify_internal-ok.ensures c.if-ok.true).0 in record { fits = (w.high, w.room) }

pub invariant_of-accepted : goal.invariant_of-accepted
invariant_of-accepted c = record { whole = whole _ _ (yes_store _ _ _ _ _ c.requires _ _ _ _ _ c.unify_internal-ok.ensures c.if-ok.true).0 }

pub accepted-requires-clause-root : goal.accepted-requires-clause-root
accepted-requires-clause-root c = (yes_store _ _ _ _ _ c.requires _ _ _ _ _ c.unify_internal-ok.ensures c.if-ok.true).1

pub accepted-requires-clause-named : goal.accepted-requires-clause-named
accepted-requires-clause-named c = named_below _ (undoable _ _ _ _ _ c.requires _ _ _ _ _ c.unify_internal-ok.ensures).0

pub returns-then-accepted : goal.returns-then-accepted
returns-then-accepted c =
    let l = c.unify_internal-ok.ensures in
    settled_yes _ _ _ _ _ c.requires _ _ _ _ _ l _ _ c.work_need-n.ensures c.clear.ensures (sym (still_accepts _ _ _ _ _ c.requires _ _ _ _ _ l c.accepted.ensures) ∙ rw (c.if-ok.true, c.if-accepted.true))

pub undo-requires : goal.undo-requires
undo-requires c = undoable _ _ _ _ _ c.requires _ _ _ _ _ c.unify_internal-ok.ensures

pub returns : goal.returns
returns c =
    let l = c.unify_internal-ok.ensures in
    settled_no _ _ _ _ _ c.requires _ _ _ _ _ l _ _ c.work_need-n.ensures c.clear.ensures (elim c.if-ok.branch [
      | then-ok+else-accepted w ↦ sym (still_accepts _ _ _ _ _ c.requires _ _ _ _ _ l w.accepted.ensures) ∙ rw (w.if-ok.true, w.if-accepted.false)
      | else-ok w ↦ rw w.if-ok.false
    ]) _ _ c.undo.ensures.0 c.undo.ensures.1
