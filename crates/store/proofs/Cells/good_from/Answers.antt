use mathlib.Core.Path.{◌∙◌, sym, subst}
use native.Mathlib.Omega.{arith}
use mathlib.Core.Path.{◌≡◌}
use Prim.Native.Nat.{◌+◌}
use Rattle.store.specs.All.{and_fails, and_goes}
use Rattle.store.specs.Survey.{StandsAt, survey_start, survey_breaks, survey_keeps, survey_turns, survey_inside, survey_short, survey_heads, survey_kept, survey_ends}
use Rattle.store.proofs.Cells.good_from.Goals as goal
use Rattle.store.proofs.Cells.good_from.Goals.{in-Keeps, in-Turns, in-Heads+else-i-last+else-self-last}

pub loop-i-init : goal.loop-i-init
loop-i-init c = survey_start _ _ _ (omega arith)

pub returns-in-Breaks : goal.returns-in-Breaks
returns-in-Breaks c =
    and_fails _ _ (survey_breaks _ _ _ c.loop-i.invariant (omega arith) (subst (StandsAt _ _ _) c.in-Breaks.is c.stands_at.ensures))

pub returns-then-i-last : goal.returns-then-i-last
returns-then-i-last c =
    and_fails _ _ (survey_inside _ _ _ c.loop-i.invariant (omega arith) _ (subst (StandsAt _ _ _) c.in-Heads.is c.stands_at.ensures) c.if-i-last.true)

pub returns-then-self-last : goal.returns-then-self-last
returns-then-self-last c =
    and_fails _ _ (survey_short _ _ _ c.loop-i.invariant (omega arith) _ (subst (StandsAt _ _ _) c.in-Heads.is c.stands_at.ensures) (omega arith) (omega arith))

pub loop-i-preserved : goal.loop-i-preserved
loop-i-preserved c =
    let s = c.loop-i.invariant in
    elim c.match-stands_at.branch [
      | in-Keeps w ↦ rw (w.turns-is, w.last-is) (survey_keeps _ _ _ s (omega arith) (subst (StandsAt _ _ _) w.in-Keeps.is c.stands_at.ensures))
      | in-Turns w ↦ rw (w.turns-is, w.last-is) (survey_turns _ _ _ s (omega arith) (subst (StandsAt _ _ _) w.in-Turns.is c.stands_at.ensures))
      | in-Heads+else-i-last+else-self-last w ↦ let e : w.saturating_add-last.result ≡ c.loop-i.i + w.in-Heads.arity = omega arith in rw (w.turns-is, w.last-is, e) (survey_heads _ _ _ s (omega arith) _ (subst (StandsAt _ _ _) w.in-Heads.is c.stands_at.ensures) (omega arith) (omega arith))
    ]

pub invariant_of-cells_end : goal.invariant_of-cells_end
invariant_of-cells_end c =
    record { keep = c.requires.1 (survey_kept _ _ _ c.loop-i.invariant (omega arith) (omega arith)) }

pub cells_end-requires : goal.cells_end-requires
cells_end-requires c = let p = c.requires in (p.0, p.2)

pub returns-then-turns : goal.returns-then-turns
returns-then-turns c = c.cells_end.ensures ∙ and_goes _ _ (survey_kept _ _ _ c.loop-i.invariant (omega arith) (omega arith))

pub returns-else-turns : goal.returns-else-turns
returns-else-turns c =
    let p = c.requires in
    let k = survey_kept _ _ _ c.loop-i.invariant (omega arith) (omega arith) in
    sym (survey_ends _ _ _ c.loop-i.invariant (omega arith) (p.1 k) p.0 p.2 c.if-turns.false) ∙ and_goes _ _ k
