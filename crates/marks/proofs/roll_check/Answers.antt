-- `marks::roll_check` meets its contract: the refusals in the definition's order.
use Rattle.std.proofs.Common.{◌≡◌, ◌∙◌, ◌-◌, ◌*◌, ◌≤◌, sym, ap, Bool, length, arith}
use Rattle.cell.specs.declared.Refusal.TheVariants.{Left}
use Rattle.trail.specs.Rules.{mark_width, mark_top, mark_trail}
use Rattle.trail.specs.State.{need}
use Rattle.trail.specs.Facts.{check_parts}
use Rattle.std.proofs.lemmas.Map.Keys.{le_from_is_le}
use Rattle.marks.specs.Calls.{roll_check}
use Rattle.marks.specs.Rolling.{Passed, found_is, left_decides, lowers_to}
use Rattle.marks.proofs.roll_check.Goals as goal
use Rattle.marks.proofs.roll_check.Goals.{Else-not-contains, After-of_mark-at, After-left_good}

-- what is known of the state past the first two tests
past : (c : Else-not-contains) → Passed c.args.s.now c.args.k
past c =
    let n = c.new.ensures in
    let t = c.if-not-contains.ensures.cases in
    let m : c.s.inside.marked ≡ c.args.s.now.marked = rw (← c.s.view_is) in
    record { held = check_parts _ c.in_ok-check.ensures.answer; low = le_from_is_le _ _ (rw n.start at t.0); high = rw (← m) (le_from_is_le _ _ (rw n.end at t.1)) }

pub of_mark-at-requires : goal.of_mark-at-requires
of_mark-at-requires c =
    let here = goal.at.of_mark-at-requires c in
    let p = past here.Else-not-contains in
    let f = p.held.marks_good_lem.fits in
    let h = p.high in
    let m : mark_width * c.args.k ≤ length c.args.s.now.marks = omega arith in
    (p.low, rw (← c.s.view_is) at m)

-- the counts are those of the mark
counts : (c : After-of_mark-at) → let at = c.of_mark-at.result in let m = c.args.s.now.marks in let k = c.args.k in (at.top ≡ mark_top m (k - 1)) × (at.trailed ≡ mark_trail m (k - 1))
counts c = rw (← c.s.view_is) c.of_mark-at.ensures

pub left_good-requires : goal.left_good-requires
left_good-requires c =
    let here = goal.at.left_good-requires c in
    let n = counts c in
    lowers_to _ _ (past here.Else-not-contains) n.0 n.1

-- what the pass found decides the rest
found : (c : After-left_good) → let at = c.of_mark-at.result in let s = c.args.s.now in let k = c.args.k in Passed s k → (at.top ≡ mark_top s.marks (k - 1)) × (at.trailed ≡ mark_trail s.marks (k - 1)) → need c.left_good.result Left ≡ roll_check s k
found c p n = sym (left_decides _ _ p ∙ ap (λ (b : Bool). need b Left) (found_is _ _ p _ _ n.0 n.1 _ c.left_good.ensures))

pub returns-then-left_good-clause-answer : goal.returns-then-left_good-clause-answer
returns-then-left_good-clause-answer c =
    let here = goal.at.returns-then-left_good-clause-answer c in
    rw c.if-left_good.true at (found here.After-left_good (past here.Else-not-contains) (counts here.After-of_mark-at))

pub returns-else-left_good-clause-answer : goal.returns-else-left_good-clause-answer
returns-else-left_good-clause-answer c =
    let here = goal.at.returns-else-left_good-clause-answer c in
    rw c.if-left_good.false at (found here.After-left_good (past here.Else-not-contains) (counts here.After-of_mark-at))
