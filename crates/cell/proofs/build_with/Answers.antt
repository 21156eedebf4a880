-- `cell::build_with` meets its contract: each field stands above those below it, so `|` adds.
use Prim.Native.Nat.{ℕ, ◌+◌, ◌*◌, ◌^◌}
use native.Mathlib.Omega.{arith}
use Rattle.cell.proofs.Fields.{or_field}
use Rattle.cell.proofs.build_with.Goals as goal

pub returns : goal.returns
returns c =
    let a = c.args in
    let m : ℕ = a.mark * 2 ^ 56 + a.value in
    rw (or_field 56 a.mark a.value (omega arith) (omega arith), or_field 57 a.forward m (omega arith) (omega arith), or_field 58 a.tag (a.forward * 2 ^ 57 + m) (omega arith) (omega arith))
    (omega arith)
