use Rattle.std.proofs.Common.{◌≡◌, ◌∙◌, sym, ap, ℕ, ◌/◌, length, get_or, ◌<◌, arith}
use Rattle.std.proofs.lemmas.Grind.{common_steps}
use Rattle.std.proofs.lemmas.Bool.{le-leb, eqb-true, eqb-false}
use Rattle.std.proofs.Math.Nat.{sub-zero}
use Rattle.store.specs.All.{all_fails, all_goes}
use Rattle.store.specs.Store.{limit}
use Rattle.cell_set.specs.Table.{length_noting}
use Rattle.trail.specs.Rules.{trail_used}
use Rattle.trail.specs.Seen.{seen_none, seen_more, entry_bad, entry_twice, entry_good}
use Rattle.trail.specs.Facts.{bound_used}
use Rattle.trail.proofs.trail_used.Goals as goal
use Rattle.trail.proofs.trail_used.Goals.{In-Some, then-not-names_bound-via-then-not-names_bound, then-not-names_bound-via-else-not-names_bound+then-contains}

-- the used entries stand in the trail
entry : (c : In-Some) (i : ℕ) → i < length c.in-Some.used.now → get_or c.args.trail.now i 0 ≡ get_or c.in-Some.used.now i 0
entry c i h = let e = c.in-Some.ensures.lookup.0 in grind (arith, common_steps)

pub loop-e-init : goal.loop-e-init
unfolding trail_used
loop-e-init c = let h = c.in-Some.ensures.lookup.0 in (rw (le-leb _ _ h.1, sub-zero), seen_none _ 0 (limit / 64) _ c.new-seen.ensures, ap length c.new-seen.ensures)

pub contains-requires : goal.contains-requires
contains-requires c = let b = bound_used _ _ _ (sym c.names_bound.ensures ∙ c.if-not-names_bound.false) in omega arith

pub returns-then-not-names_bound : goal.returns-then-not-names_bound
returns-then-not-names_bound c =
    let here = goal.at.returns-then-not-names_bound c in
    let l = c.loop-e in
    let q = sym (entry here.In-Some l.e-index c.loop-e-test.true) in
    let z = c.in-Some.ensures.lookup.0 in
    let n = c.names_bound.ensures in
    sym (l.invariant.0 ∙ all_fails _ _ (omega arith) (elim c.then-not-names_bound.branch [
      | then-not-names_bound-via-then-not-names_bound w ↦ entry_bad _ _ _ l.invariant.1 _ q _ _ _ n w.if-not-names_bound.true
      | then-not-names_bound-via-else-not-names_bound+then-contains w ↦ entry_twice _ _ _ l.invariant.1 _ q _ _ _ n w.if-not-names_bound.false (eqb-true _ _ (sym w.contains.ensures ∙ w.if-contains.true))
    ]))

pub insert-requires : goal.insert-requires
insert-requires c = let b = bound_used _ _ _ (sym c.names_bound.ensures ∙ c.if-not-names_bound.false) in omega arith

pub loop-e-preserved : goal.loop-e-preserved
loop-e-preserved c =
    let here = goal.at.loop-e-preserved c in
    let l = c.loop-e in
    let q = sym (entry here.In-Some l.e-index c.loop-e-test.true) in
    let z = c.in-Some.ensures.lookup.0 in
    let n = c.names_bound.ensures in
    let t = c.if-not-names_bound.false in
    let b = bound_used _ _ _ (sym n ∙ t) in
    (l.invariant.0 ∙ all_goes _ _ (omega arith) (entry_good _ _ _ l.invariant.1 _ q _ _ _ n t (eqb-false _ _ (sym c.contains.ensures ∙ c.if-contains.false))), seen_more _ 0 _ _ l.invariant.1 _ q (omega arith) (omega arith) _ c.insert.ensures, ap length c.insert.ensures ∙ length_noting _ _ ∙ l.invariant.2)
