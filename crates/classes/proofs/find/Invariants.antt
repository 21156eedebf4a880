-- `classes::find` meets its contract. The loop's invariant: climbing from `cur` ends where climbing from `i` does, and from each cell where it did. The measure is `cur`.
use Rattle.classes.specs.Classes.{Climbs}
use Rattle.classes.proofs.find.Given as goal

abbrev pub invariant-loop-parent : goal.invariant-loop-parent
invariant-loop-parent l = Climbs l.initial.words l.top l.i l.words l.cur l.parent

abbrev pub decreases-loop-parent : goal.decreases-loop-parent
decreases-loop-parent l = l.cur
