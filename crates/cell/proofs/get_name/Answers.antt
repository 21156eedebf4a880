-- `cell::get_name` meets its contract: a mask of ones is a remainder.
use lib.Bits.{and_mask}
use Rattle.cell.proofs.get_name.Goals as goal

pub returns : goal.returns
returns c = and_mask c.args.w 32
