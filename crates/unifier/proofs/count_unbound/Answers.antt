-- The count goes up at a cell that holds its own Var's word, and only there.
use Rattle.std.specs.Prelude.{◌≡◌, true, false}
use Rattle.std.proofs.Common.{arith, sym, ◌∙◌}
use borrow.Author.Tests.{eq-eqb, ne_eqb}
use Rattle.unifier.specs.Count.{unbound_counted, unbound_more, unbound_none}
use Rattle.unifier.proofs.count_unbound.Goals as goal
use Rattle.unifier.proofs.count_unbound.Goals.{then-cells-i, else-cells-i}

pub loop-i-init : goal.loop-i-init
loop-i-init c = (omega arith, sym (unbound_none c.args.cells.words.now))

pub loop-i-preserved : goal.loop-i-preserved
loop-i-preserved c =
    let s = c.args.cells.words.now in
    let i = c.loop-i.i in
    let n = c.loop-i.invariant.1 in
    elim c.if-cells-i.branch [
      | then-cells-i w ↦ rw w.n-is (omega arith, omega (arith, n, unbound_more s i true (eq-eqb _ _ (w.if-cells-i.true ∙ c.var_word.ensures))))
      | else-cells-i w ↦ rw w.n-is (omega arith, omega (arith, n, unbound_more s i false (ne_eqb _ _ (λ e. w.if-cells-i.false (e ∙ sym c.var_word.ensures)))))
    ]

pub returns : goal.returns
returns c =
    let e = c.loop-i.invariant.1 in
    let q : c.loop-i.i ≡ c.args.cells.top = omega arith in
    e ∙ rw q (sym (unbound_counted c.args.cells.words.now c.args.cells.top))
