use mathlib.Core.Path.{refl}
use native.Mathlib.Omega.{arith}
use borrow.Author.Rules.{rules}
use Rattle.unify.specs.Layout.{grown_start, grown_next}
use Rattle.unify.proofs.Machine.push_args.Goals as goal

pub loop-i-init : goal.loop-i-init
loop-i-init c = record { lent = search rules; pairs = refl; long = refl; grown = grown_start _ _ _ _ _ _ _ (omega arith) }

pub loop-i-preserved : goal.loop-i-preserved
loop-i-preserved c =
    let v = c.loop-i.invariant in
    let p = rw v.lent.0.7 at c.put.ensures.grown in
    record { lent = search rules; pairs = omega arith; long = omega arith; grown = grown_next _ _ _ _ _ (omega arith) (omega arith) (omega arith) v.grown p }
