-- `cycle::Walk::walk` meets its contract: the loop's invariant is `Going`, each way that a turn can go is one of its lemmas, and the measure is what is left to do.
use Rattle.cycle.proofs.Going.{Going, undone}
use Rattle.cycle.proofs.Walk.walk.Given as goal

abbrev pub invariant-loop-sp : goal.invariant-loop-sp
invariant-loop-sp g l = let s = l.store.cells in Going s.words.now s.top g.row.N l.root l.initial.self.colours l.initial.links l.self.colours l.self.path l.sp l.left.start l.left.end l.cycle l.links

abbrev pub decreases-loop-sp : goal.decreases-loop-sp
decreases-loop-sp g l = undone l.self.colours l.self.path l.sp l.left.start l.left.end
