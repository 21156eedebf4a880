-- `copy::Copier::copy_term_impl` meets its contract: a turn of the scan, and its end.
use mathlib.Core.Path.{◌≡◌, sym, ap, subst, ◌∙◌}
use Prim.Native.Nat.{ℕ, suc, ◌+◌, ◌-◌}
use native.Mathlib.Omega.{arith}
use Rattle.store.specs.Store.{limit}
use Rattle.copy.specs.Rules.{scan, scanned}
use Rattle.copy.specs.Whole.{scan_off}
use Rattle.copy.specs.Buffer.{Kept, kept_more}
use Rattle.copy.specs.Copier.{tabled}
use Rattle.copy.specs.Arms.{scan_turn}
use Rattle.copy.proofs.Copier.copy_term_impl.Goals as goal

pub loop-p-preserved : goal.loop-p-preserved
loop-p-preserved c =
    let l = c.loop-p in
    let a = c.args.self.now in
    let b = l.self in
    let h = b.high in
    let v = l.invariant in
    let n = v.0.inv.above in
    let g = v.2 in
    let e = c.scan_cell.ensures in
    let d = e.goes in
    let t = g.2 in
    let x = g.3 in
    let z = d.3 in
    let y : limit - (l.p - a.top) ≡ suc (limit - (l.p + 1 - a.top)) = omega arith in (
      e.next,
      v.1 ∙ ap (λ (k : ℕ). scan a.top k l.p (tabled b)) y ∙ scan_turn a.top _ l.p (tabled b) _ c.loop-p-test.true (subst (λ (n : ℕ). tabled c.scan_cell.new.self ≡ scanned n (tabled b) l.p) t e.state),
      (d.0 ∙ g.0, d.1 ∙ g.1, d.2 ∙ g.2, omega arith),
      kept_more v.3 (subst (λ (n : ℕ). Kept n b.work.now c.scan_cell.new.self.work.now) t e.kept),
    )

pub returns-clause-state : goal.returns-clause-state
returns-clause-state c =
    let l = c.loop-p in
    let a = c.args.self.now in
    let b = l.self in
    let h = b.high in
    let v = l.invariant in
    let n = v.0.inv.above in
    let u = v.0.inv.bound in
    let w = v.0.given.wf.low in
    let t = v.2.2 in
    let y : limit - (l.p - a.top) ≡ suc (limit - 1 - (l.p - a.top)) = omega arith in
    sym (v.1 ∙ ap (λ (k : ℕ). scan a.top k l.p (tabled b)) y ∙ scan_off a.top _ l.p (tabled b) c.loop-p-test.false)
