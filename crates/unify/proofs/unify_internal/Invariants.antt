-- `unify::unify_internal` meets its contract. The loop's invariant: what the code holds is a machine whose run from here is the whole run. The measure is what is left to take: the pairs that stand and those that joins may still push.
use mathlib.Core.Path.{◌≡◌}
use Rattle.unify.specs.Going.{ahead}
use Rattle.unify.specs.Whole.{called, Runs}
use Rattle.unify.specs.Words.{Lent, held}
use Rattle.unify.proofs.unify_internal.Given as goal

abbrev pub invariant-loop-x : goal.invariant-loop-x
invariant-loop-x l =
    let m = l.initial.machine in
    record {
      lent : Lent m l.machine;
      top : l.machine.top ≡ l.top;
      runs : Runs (called l.fn.cells l.fn.trail m.work.now l.fn.trailed l.a l.b) l.top (held l.machine);
    }

abbrev pub decreases-loop-x : goal.decreases-loop-x
decreases-loop-x l = ahead l.top (held l.machine)
