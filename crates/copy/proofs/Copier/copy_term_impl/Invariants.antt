-- `copy::Copier::copy_term_impl` meets its contract. The loop's invariant: the scan from here comes to the whole scan, and the copy so far keeps its invariant. The measure is what is left of the limit.
use mathlib.Core.Path.{◌≡◌}
use Prim.Native.Nat.{◌-◌}
use Rattle.store.specs.Store.{limit}
use Rattle.copy.specs.Rules.{scan}
use Rattle.copy.specs.Buffer.{Kept}
use Rattle.copy.specs.Copier.{Goes, tabled, Next}
use Rattle.copy.proofs.Copier.copy_term_impl.Given as goal

abbrev pub invariant-loop-p : goal.invariant-loop-p
invariant-loop-p l = let a = l.initial.self in let b = l.self in (_ : Next b l.p) × (scan a.top limit a.top (tabled a) ≡ scan a.top (limit - (l.p - a.top)) l.p (tabled b)) × Goes a b × Kept a.top a.work.now b.work.now

abbrev pub decreases-loop-p : goal.decreases-loop-p
decreases-loop-p l = limit - l.p
