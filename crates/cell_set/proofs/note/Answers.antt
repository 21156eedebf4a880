-- `cell_set::note` meets its contract: the bit of the cell's place in its word, which the shift does not lose.
use mathlib.Core.Path.{◌≡◌, ap, ◌∙◌}
use Prim.Native.Nat.{ℕ, ◌*◌, ◌/◌, ◌%◌, ◌^◌}
use native.Mathlib.Nat.{one-mul}
use native.Mathlib.Omega.{arith}
use lib.ListN.{get_or, set}
use lib.Bits.{bit_or}
use lib.Dec.{lit<}
use lib.Pow.{shl_exact}
use Rattle.cell_set.specs.Table.{noting}
use Rattle.cell_set.proofs.note.Goals as goal

pub returns : goal.returns
unfolding noting
returns c =
    let a = c.args in
    let e : 1 * 2 ^ (a.i % 64) % 2 ^ 64 ≡ 2 ^ (a.i % 64) = shl_exact 1 (a.i % 64) 64 (lit< tt) (omega arith) ∙ one-mul (2 ^ (a.i % 64)) in
    ap (λ (b : ℕ). set a.table.now (a.i / 64) (bit_or (get_or a.table.now (a.i / 64) 0) b)) e
