-- `copy::copy_root` meets its contract: the scan of a buffer whose first words are cleared is the whole copy.
use mathlib.Core.Path.{refl, ap, ◌∙◌}
use Prim.Native.Nat.{◌<◌}
use lib.ListN.{length}
use borrow.Author.Rules.{rules}
use Rattle.store.specs.Steps.{term_used}
use Rattle.chains.specs.Work.{cleared}
use Rattle.copy.specs.Whole.{one_cell}
use Rattle.copy.specs.Turn.{ready_first, whole_copy}
use native.Mathlib.Omega.{arith}
use Rattle.copy.proofs.copy_root.Goals as goal
use Rattle.copy.proofs.copy_root.Goals.{Start}

root_in : (c : Start) → c.args.root < length c.args.cells.now
root_in c =
    let g = c.requires.0 in
    let r = g.wf.room in
    let u = term_used c.args.cells.now c.args.top c.args.root g.term in
    omega arith

pub offset_bounds-cells-root : goal.offset_bounds-cells-root
offset_bounds-cells-root c = let i = root_in (goal.at.offset_bounds-cells-root c).Start in omega arith

pub bounds-cells-root : goal.bounds-cells-root
bounds-cells-root c = root_in (goal.at.bounds-cells-root c).Start

pub put_at-requires : goal.put_at-requires
put_at-requires c = let g = c.requires.0 in let f = g.fits in let o = one_cell g in omega arith

pub invariant_of-copier : goal.invariant_of-copier
invariant_of-copier c =
    let g = c.requires.0 in
    let f = g.fits in
    let m = g.lim in
    let o = one_cell g in
    let l = c.requires.1 in
    let k = c.clear.auto in
    let q = c.put_at.auto in record { low = omega arith; room = omega arith; high = omega arith; wide = omega arith }

pub copy_term_impl-requires : goal.copy_term_impl-requires
copy_term_impl-requires c = let o = c.requires in (refl, ready_first _ _ _ _ o.0 o.1 _ _ c.put_at.ensures c.clear.ensures)

pub returns : goal.returns
returns c =
    let o = c.requires in
    let e = c.copy_term_impl.ensures in
    let w = whole_copy _ _ _ _ o.0 o.1 _ _ c.put_at.ensures c.clear.ensures _ e.state _ _ e.kept _ c.work_need.ensures (c.clear-2.ensures ∙ ap (cleared _) (search rules)) in
    (search rules ∙ w.0, w.1, w.2)
