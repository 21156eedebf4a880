use mathlib.Core.Path.{refl}
use Rattle.classes.specs.Classes.{climb_more, climb_end}
use Rattle.classes.proofs.find.Goals as goal

pub loop-parent-preserved : goal.loop-parent-preserved
loop-parent-preserved c = climb_more _ _ _ _ _ _ c.loop-parent.invariant _ refl

pub returns : goal.returns
returns c = climb_end _ _ _ _ _ _ c.loop-parent.invariant c.loop-parent-test.false
