use Rattle.std.proofs.Common.{◌≡◌, ◌∙◌, ap, ◌/◌, ◌+◌, length, subst, add-zero, arith}
use Rattle.cell_set.specs.Table.{length_noting}
use Rattle.store.specs.Store.{limit}
use Rattle.trail.specs.Seen.{Seen, seen_none, seen_more}
use Rattle.marks.proofs.Walked.{part_length, part_entry}
use Rattle.marks.proofs.note_named.Goals as goal

pub loop-e-init : goal.loop-e-init
loop-e-init c = rw add-zero (seen_none _ _ (limit / 64) _ c.new-freed.ensures, ap length c.new-freed.ensures)

pub loop-e-preserved : goal.loop-e-preserved
loop-e-preserved c =
    let l = c.loop-e in
    let i = c.args.from + l.e-index in
    let p = part_entry c.requires l.e-index c.loop-e-test.true in
    let z : c.args.from + (l.e-index + 1) ≡ i + 1 = omega arith in
    rw z (seen_more _ _ _ _ l.invariant.0 _ p.0 (omega arith) (omega arith) _ c.insert.ensures, ap length c.insert.ensures ∙ length_noting _ _ ∙ l.invariant.1)

pub returns : goal.returns
returns c =
    let p = part_length c.requires in
    let l = c.loop-e in
    let e : c.args.from + l.e-index ≡ c.args.to = omega arith in
    subst (Seen _ _ _) e l.invariant.0
