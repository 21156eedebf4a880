use Rattle.std.proofs.Common.{rules, ◌≡◌, true, false, arith}
use Rattle.store.specs.WellFormed.{parts}
use Rattle.cycle.specs.Tables.{Done}
use Rattle.cycle.specs.Counted.{no_marks, counted_more, counted_skip, counted_all}
use Rattle.cycle.proofs.count_runs.Goals as goal
use Rattle.cycle.proofs.count_runs.Goals.{After-eq, then-eq, else-eq}

-- what the test says
done : (c : After-eq) → c.eq.result ≡ true → Done c.args.colours.now c.loop-i.i
done c e = search rules

not_done : (c : After-eq) → c.eq.result ≡ false → Done c.args.colours.now c.loop-i.i → ⊥
not_done c e = search rules

pub loop-i-init : goal.loop-i-init
loop-i-init c = let e = c.new-runs.ensures in (omega arith, no_marks _ _ _ _ _ e.0 e.1)

pub loop-i-preserved : goal.loop-i-preserved
loop-i-preserved c =
    let v = c.loop-i.invariant in
    let t = (goal.at.loop-i-preserved c).After-eq in
    elim c.if-eq.branch [
      | then-eq b ↦ (let q = b.count-sum.ensures in let m = q.small in rw (b.sum-is, b.runs-is) (omega arith, counted_more (parts _ _ c.args.store.whole) (omega arith) c.loop-i-test.true v.1 (done t b.if-eq.true) q))
      | else-eq b ↦ rw (b.sum-is, b.runs-is) (omega arith, counted_skip (parts _ _ c.args.store.whole) (omega arith) c.loop-i-test.true v.1 (not_done t b.if-eq.false))
    ]

pub returns : goal.returns
returns c = counted_all (omega arith) c.loop-i.invariant.1
