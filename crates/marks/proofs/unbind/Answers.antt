use Rattle.std.proofs.Common.{◌≡◌, ◌∙◌, ◌+◌, sym, arith}
use Rattle.marks.specs.Unbind.{unbind_more, unbind_done}
use Rattle.marks.proofs.Walked.{part_length, part_entry}
use Rattle.marks.proofs.unbind.Goals as goal

pub loop-e-preserved : goal.loop-e-preserved
loop-e-preserved c =
    let l = c.loop-e in
    let i = c.args.from + l.e-index in
    let p = part_entry c.requires.0 l.e-index c.loop-e-test.true in
    let z : c.args.from + (l.e-index + 1) ≡ i + 1 = omega arith in
    rw z (l.invariant ∙ unbind_more _ i _ _ _ p.0 c.var_word.ensures p.1)

pub returns : goal.returns
returns c = let p = part_length c.requires.0 in sym (c.loop-e.invariant ∙ unbind_done _ _ _ (omega arith))
