use Rattle.std.proofs.Common.{◌≡◌, ◌∙◌, sym, length, get_or, ℕ, [], ◌<◌, ◌/◌, arith}
use Rattle.std.proofs.lemmas.Grind.{common_steps}
use Rattle.store.specs.All.{all_fails, all_goes, and_fails, and_same}
use Rattle.trail.specs.Rules.{mark_width, mark_top, mark_trail}
use Rattle.trail.proofs.MarkLoop.{top_next, trail_next, mark_low, mark_is}
use Rattle.trail.proofs.Pairs.{mark_words}
use Rattle.trail.proofs.marks_good.Goals as goal
use Rattle.trail.proofs.marks_good.Goals.{In-Some, then-not-rises-via-then-not-rises, then-not-rises-via-else-not-rises+then-not-rises-2}

-- the words of a used mark are those of the definition
words : (c : In-Some) (m : ℕ) → m < length c.in-Some.used.now → let w = get_or c.in-Some.used.now m [] in (get_or w 0 0 ≡ mark_top c.args.marks.now m) × (get_or w 1 0 ≡ mark_trail c.args.marks.now m)
words c m l =
    let e = c.in-Some.ensures.lookup.0 in
    let k = length c.args.marks.now / mark_width in
    let s : get_or c.in-Some.used.now m [] ≡ get_or c.as_chunks.result.0.now m [] = grind (arith, common_steps) in
    let h : m < k = let f = c.as_chunks.ensures.front_len in omega arith in
    rw (s, c.as_chunks.ensures.front) (mark_words k c.args.marks.now m h)

pub returns-then-not-rises : goal.returns-then-not-rises
returns-then-not-rises c =
    let l = c.loop-nt in
    let e = c.in-Some.ensures.lookup.0 in
    let w = words (goal.at.returns-then-not-rises c).In-Some l.nt-index c.loop-nt-test.true in
    and_fails _ _ (all_fails _ _ (omega arith) (elim c.then-not-rises.branch [
      | then-not-rises-via-then-not-rises b ↦ mark_low _ _ _ _ _ _ _ _ _ l.invariant.1 l.invariant.2 w.0 w.1 c.rises.ensures b.if-not-rises.true
      | then-not-rises-via-else-not-rises+then-not-rises-2 b ↦ mark_is _ _ _ _ _ _ _ _ _ l.invariant.1 l.invariant.2 w.0 w.1 c.rises.ensures _ b.rises-else-not-rises.ensures b.if-not-rises.false ∙ b.if-not-rises-2.true
    ])) ∙ sym l.invariant.0

pub loop-nt-preserved : goal.loop-nt-preserved
loop-nt-preserved c =
    let l = c.loop-nt in
    let e = c.in-Some.ensures.lookup.0 in
    let w = words (goal.at.loop-nt-preserved c).In-Some l.nt-index c.loop-nt-test.true in
    (l.invariant.0 ∙ and_same _ _ _ (all_goes _ _ (omega arith) (mark_is _ _ _ _ _ _ _ _ _ l.invariant.1 l.invariant.2 w.0 w.1 c.rises.ensures _ c.rises-else-not-rises.ensures c.if-not-rises.false ∙ c.if-not-rises-2.false)), top_next _ _ _ w.0, trail_next _ _ _ w.1)
