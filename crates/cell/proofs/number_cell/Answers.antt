-- `cell::number_cell` meets its contract: outside the range a refusal, inside it 56 bits of two's complement.
use mathlib.Core.Path.{◌≡◌, ◌∙◌}
use lib.IntN.{pos}
use mir.Syntax.{w64}
use mir.Val.{to_z}
use Rattle.cell.specs.Fixnum.{of_number}
use Rattle.cell.proofs.Signed.{is_low, is_high, is_inside, raised_back, kept_back, made, refused}
use Rattle.cell.proofs.number_cell.Goals as goal
use Rattle.cell.proofs.number_cell.Goals.{then-n-lt0, else-n-lt0}

pub returns-then-n-lt-FIXNUM_MIN : goal.returns-then-n-lt-FIXNUM_MIN
returns-then-n-lt-FIXNUM_MIN c = refused _ (is_low _ c.ranges.n c.if-n-lt-FIXNUM_MIN.true)

pub returns-then-n-gt-FIXNUM_MAX : goal.returns-then-n-gt-FIXNUM_MAX
returns-then-n-gt-FIXNUM_MAX c = refused _ (is_high _ c.ranges.n c.if-n-gt-FIXNUM_MAX.true)

pub returns : goal.returns
returns c =
    let f = c.ranges.n in
    let r = is_inside _ f c.if-n-lt-FIXNUM_MIN.false c.if-n-gt-FIXNUM_MAX.false in
    let v : to_z w64 c.if-n-lt0.v-bits ≡ pos (of_number c.args.n) =
    elim c.if-n-lt0.branch [
      | then-n-lt0 w ↦ w.v-is ∙ raised_back _ f r w.if-n-lt0.true
      | else-n-lt0 w ↦ w.v-is ∙ kept_back _ f r w.if-n-lt0.false
    ] in
    made _ f r _ _ v c.build_with.ensures
