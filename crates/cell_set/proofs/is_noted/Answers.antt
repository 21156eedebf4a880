-- `cell_set::is_noted` meets its contract: a mask of one bit is a remainder.
use mathlib.Core.Path.{ap}
use Prim.Native.Nat.{ℕ, ◌/◌, ◌%◌, ◌^◌}
use lib.ListN.{get_or}
use lib.Bits.{and_mask}
use lib.Dec.{eqb}
use Rattle.cell_set.specs.Table.{bit_at}
use Rattle.cell_set.proofs.is_noted.Goals as goal

pub returns : goal.returns
unfolding bit_at
returns c = let a = c.args in ap (λ (x : ℕ). eqb x 1) (and_mask (get_or a.table.now (a.i / 64) 0 / 2 ^ (a.i % 64)) 1)
