use native.Mathlib.Omega.{arith}
use Rattle.classes.specs.Classes.{own_all}
use Rattle.classes.proofs.apart.Goals as goal

pub returns : goal.returns
returns c = let l = c.loop-i in let p = c.requires in own_all _ _ _ (omega arith) (λ k h. l.invariant.2 k (omega arith)) l.invariant.1
