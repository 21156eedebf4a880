-- `cell::Kind::from` meets its contract: each way through the tests is a row of the table.
use mir.Syntax.{w64}
use mathlib.Core.Path.{◌∙◌, ap}
use mir.Facts.{to_z-of_z}
use native.Mathlib.Omega.{arith}
use Rattle.cell.specs.Fixnum.{to_number}
use Rattle.cell.specs.Rows.{row_of, is_var, is_str, is_lis, is_atom_lem, is_spare, is_fixnum, is_none}
use Rattle.cell.proofs.KindFromU64.from.Goals as goal

pub returns-in-4 : goal.returns-in-4
returns-in-4 c = is_var _ (row_of 1 _ (omega arith)) _ (omega arith)

pub returns-in-8 : goal.returns-in-8
returns-in-8 c = is_str _ (row_of 2 _ (omega arith)) _ (omega arith)

pub returns-in-12 : goal.returns-in-12
returns-in-12 c = is_lis _ (row_of 3 _ (omega arith)) _ (omega arith)

pub returns-then-get_spare-eq0 : goal.returns-then-get_spare-eq0
returns-then-get_spare-eq0 c = is_atom_lem _ (row_of 4 _ (omega arith)) _ _ (omega arith) (omega arith) (omega arith)

pub returns-else-get_spare-eq0 : goal.returns-else-get_spare-eq0
returns-else-get_spare-eq0 c = is_spare _ (row_of 4 _ (omega arith)) c.get_spare.result (omega arith) c.if-get_spare-eq0.false

pub returns-in-20 : goal.returns-in-20
returns-in-20 c = is_fixnum _ (row_of 5 _ (omega arith)) _ (to_z-of_z {w = w64} (record { sfits = c.get_num.type_inv }) ∙ c.get_num.ensures ∙ ap to_number c.get_value-v.ensures)

pub returns-in_default : goal.returns-in_default
returns-in_default c = is_none _ c.get_tag_bits.result c.get_tag_bits.ensures (omega arith) (omega arith) (omega arith) (omega arith) (omega arith)
