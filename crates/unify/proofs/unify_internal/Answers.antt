use native.Mathlib.Omega.{arith}
use borrow.Author.Rules.{rules}
use Rattle.unify.specs.Whole.{run_starts, run_room, run_ready, run_on, run_stuck, left_yes, left_no, left_same}
use Rattle.unify.proofs.unify_internal.Goals as goal

pub loop-x-init : goal.loop-x-init
loop-x-init c =
    let s = c.start.ensures in
    let l = s.lent in
    record { lent = search rules; top = l.0.7; runs = rw (l.1, l.2, l.3, s.pairs) (run_starts c.requires l.0.6 s.started) }

pub pop-requires : goal.pop-requires
pop-requires c = let v = c.loop-x.invariant in rw v.top (run_room v.runs)

pub unify_pair-requires : goal.unify_pair-requires
unify_pair-requires c =
    let v = c.loop-x.invariant in
    let p = c.in-Some.ensures in
    let l = p.lent in
    (rw (l.1, l.2, l.3, p.words, l.0.7, v.top) (run_ready v.runs (omega arith) (omega arith)), rw (p.words, l.0.7) p.popped.1)

pub returns-then-not-unify_pair : goal.returns-then-not-unify_pair
returns-then-not-unify_pair c =
    let v = c.loop-x.invariant in
    let p = c.in-Some.ensures in
    let l = p.lent in
    let s = c.start.ensures in
    let w = rw (l.1, l.2, l.3, p.words, l.0.7, v.top) at c.unify_pair.ensures.went in
    left_same (search rules) (search rules) (search rules) (search rules)
    (left_no c.requires.store.low s.lent.0.6 s.started (run_stuck v.runs (omega arith) (omega arith) w c.if-not-unify_pair.true))

pub loop-x-smaller : goal.loop-x-smaller
loop-x-smaller c =
    let v = c.loop-x.invariant in
    let p = c.in-Some.ensures in
    let l = p.lent in
    let w = rw (l.1, l.2, l.3, p.words, l.0.7, v.top) at c.unify_pair.ensures.went in
    (run_on v.runs (omega arith) (omega arith) w c.if-not-unify_pair.false).1

pub loop-x-preserved : goal.loop-x-preserved
loop-x-preserved c =
    let v = c.loop-x.invariant in
    let p = c.in-Some.ensures in
    let l = p.lent in
    let w = rw (l.1, l.2, l.3, p.words, l.0.7, v.top) at c.unify_pair.ensures.went in
    record { lent = search rules; top = omega arith; runs = (run_on v.runs (omega arith) (omega arith) w c.if-not-unify_pair.false).0 }

pub returns : goal.returns
returns c =
    let s = c.start.ensures in
    left_same (search rules) (search rules) (search rules) (search rules)
    (left_yes c.requires.store.low s.lent.0.6 s.started c.loop-x.invariant.runs c.in_default.ensures.popped)
