-- `cell::get_value` meets its contract: a mask of ones is a remainder.
use lib.Bits.{and_mask}
use Rattle.cell.proofs.get_value.Goals as goal

pub returns : goal.returns
returns c = and_mask c.args.w 56
