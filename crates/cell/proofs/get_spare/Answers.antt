-- `cell::get_spare` meets its contract: a mask of ones is a remainder.
use Prim.Native.Nat.{◌/◌, ◌^◌}
use lib.Bits.{and_mask}
use Rattle.cell.proofs.get_spare.Goals as goal

pub returns : goal.returns
returns c = and_mask (c.args.w / 2 ^ 40) 16
