-- `cell::atom_value` meets its contract: the arity stands above the name's 32 bits.
use native.Mathlib.Omega.{arith}
use Rattle.cell.proofs.Fields.{or_field}
use Rattle.cell.proofs.atom_value.Goals as goal

pub returns : goal.returns
returns c = or_field 32 c.args.arity c.args.name (omega arith) (omega arith)
