-- `unifier::check` meets its contract: the refusals in the definition's order.
use Rattle.std.proofs.Common.{◌≡◌, true, ◌-◌, length, sym, ◌∙◌, ap, arith, false}
use Rattle.std.proofs.lemmas.Result.{err_from_is_err_and}
use Rattle.cell.specs.declared.Refusal.TheVariants.{TrailRoom}
use Rattle.trail.specs.State.{State, check_passed, need}
use Rattle.trail.specs.Facts.{Holds, holds_parts}
use Rattle.unification.specs.Calls.{plain_check}
use Rattle.unification.proofs.Asked.{refuses_left, refuses_right, refuses_work}
use Rattle.unifier.specs.Checks.{room_decides, check_refuses, state_refuses, cycle_decides}
use Rattle.unifier.proofs.check.Goals as goal
use Rattle.unifier.proofs.check.Goals.{In_ok-store, Else-work-work_need, After-trail_room, then-not-term_at-via-then-not-term_at, then-not-term_at-via-else-not-term_at+then-not-term_at-2, else-checked-via-then-checked+else-either_cyclic, else-checked-via-else-checked}

-- past the check of the state it keeps its rules
held : (c : In_ok-store) → Holds c.args.state.now
held c = holds_parts _ (check_passed _ c.in_ok-store.ensures.answer)

pub returns-in_err-store : goal.returns-in_err-store
returns-in_err-store c =
    let p = err_from_is_err_and c.from_residual.result c.from_residual.ensures.1 in
    rw (p.1, p.2) (state_refuses _ _ _ _ _ c.in_err-store.ensures.answer)

pub returns-then-not-term_at : goal.returns-then-not-term_at
returns-then-not-term_at c =
    let e = c.in_ok-store.ensures.store in
    let passed = sym c.in_ok-store.ensures.answer in
    check_refuses _ _ _ _ _ (elim c.then-not-term_at.branch [
      | then-not-term_at-via-then-not-term_at w ↦ refuses_left _ _ _ _ passed (rw (e.0, e.1) at (sym c.term_at.ensures ∙ w.if-not-term_at.true))
      | then-not-term_at-via-else-not-term_at+then-not-term_at-2 w ↦ refuses_right _ _ _ _ passed (rw (e.0, e.1) at (sym c.term_at.ensures ∙ w.if-not-term_at.false)) (rw (e.0, e.1) at (sym w.term_at-else-not-term_at.ensures ∙ w.if-not-term_at-2.true))
    ])

pub returns-then-work-work_need : goal.returns-then-work-work_need
returns-then-work-work_need c =
    let e = c.in_ok-store.ensures.store in
    let short = rw e.1 at c.work_need.ensures in
    check_refuses _ _ _ _ _ (refuses_work _ _ _ _ (sym c.in_ok-store.ensures.answer) (rw (e.0, e.1) at (sym c.term_at.ensures ∙ c.if-not-term_at.false)) (rw (e.0, e.1) at (sym c.term_at-else-not-term_at.ensures ∙ c.if-not-term_at-2.false)) (omega arith))

pub overflow_sub-state-inside : goal.overflow_sub-state-inside
overflow_sub-state-inside c = let h = held (goal.at.overflow_sub-state-inside c).In_ok-store in let f = rw (← c.state.view_is) at h.trail_good_lem.fits in omega arith

-- past the tests of the roots and of the work buffer the trail's room decides
decided : (c : After-trail_room) → need c.trail_room.result TrailRoom ≡ plain_check c.args.state.now c.args.work.now c.args.a c.args.b
decided c =
    let e = c.in_ok-store.ensures.store in
    let wide = rw e.1 at c.work_need.ensures in
    let room = rw (e.0, e.1, ap (λ (s : State). length s.trail - s.trailed) c.state.view_is) at c.trail_room.ensures in
    room_decides _ _ _ _ (sym c.in_ok-store.ensures.answer) (rw (e.0, e.1) at (sym c.term_at.ensures ∙ c.if-not-term_at.false)) (rw (e.0, e.1) at (sym c.term_at-else-not-term_at.ensures ∙ c.if-not-term_at-2.false)) (omega arith) _ room

pub returns-then-not-trail_room : goal.returns-then-not-trail_room
returns-then-not-trail_room c = check_refuses _ _ _ _ _ (sym (rw c.if-not-trail_room.true at (decided (goal.at.returns-then-not-trail_room c).After-trail_room)))

pub returns-then-either_cyclic : goal.returns-then-either_cyclic
returns-then-either_cyclic c =
    let e = c.in_ok-store.ensures.store in
    let passed = rw c.if-not-trail_room.false at (decided (goal.at.returns-then-either_cyclic c).After-trail_room) in
    cycle_decides _ _ _ _ _ (sym passed) true (rw c.if-checked.true (rw (e.0, e.1) at (sym c.if-either_cyclic.true ∙ c.either_cyclic.ensures)))

pub returns : goal.returns
returns c =
    let e = c.in_ok-store.ensures.store in
    let passed = rw c.if-not-trail_room.false at (decided (goal.at.returns c).After-trail_room) in
    cycle_decides _ _ _ _ _ (sym passed) false (elim c.else-checked.branch [
      | else-checked-via-then-checked+else-either_cyclic w ↦ rw w.if-checked.true (rw (e.0, e.1) at (sym w.if-either_cyclic.false ∙ w.either_cyclic.ensures))
      | else-checked-via-else-checked w ↦ rw w.if-checked.false
    ])
