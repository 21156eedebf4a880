use mathlib.Core.Path.{◌≡◌, refl, sym, ap, ◌∙◌}
use Prim.Native.Nat.{ℕ, ◌+◌, ◌-◌}
use mathlib.Core.List.{List}
use lib.ListN.{length, length-set}
use Rattle.copy.specs.Rules.{copy_run}
use Rattle.copy.specs.Arms.{run_none, run_more}
use native.Mathlib.Omega.{arith}
use Rattle.copy.proofs.copy_run.Goals as goal

pub loop-k-init : goal.loop-k-init
loop-k-init c =
    let a = c.args in
    let x : a.n - 0 ≡ a.n = omega arith in
    let y : a.b + 0 ≡ a.b = omega arith in
    let z : a.to + 0 ≡ a.to = omega arith in
    (refl, rw (x, y, z))

pub loop-k-preserved : goal.loop-k-preserved
loop-k-preserved c =
    let l = c.loop-k in
    let a = c.args in
    let e = c.put_at.ensures in (
      ap length e ∙ length-set l.cells (a.to + l.k) _ ∙ l.invariant.0,
      l.invariant.1 ∙ run_more a.n l.k l.cells a.b a.to (omega arith) ∙ ap (λ (x : List ℕ). copy_run (a.n - (l.k + 1)) x (a.b + (l.k + 1)) (a.to + (l.k + 1))) (sym e),
    )

pub shape_of-cells : goal.shape_of-cells
shape_of-cells c = c.loop-k.invariant.0

pub returns : goal.returns
returns c =
    let l = c.loop-k in
    let a = c.args in
    let z : a.n - l.k ≡ 0 = omega arith in
    sym (l.invariant.1 ∙ rw z (run_none l.cells (a.b + l.k) (a.to + l.k)))
