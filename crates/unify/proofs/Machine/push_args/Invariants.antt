-- `unify::Machine::push_args` meets its contract. The loop's invariant: the pairs of arguments from `i` on stand.
use mathlib.Core.Path.{◌≡◌}
use Prim.Native.Nat.{◌-◌}
use lib.ListN.{length}
use Rattle.unify.specs.Layout.{Grown, row}
use Rattle.unify.specs.Words.{Works}
use Rattle.unify.proofs.Machine.push_args.Given as goal

abbrev pub invariant-loop-i : goal.invariant-loop-i
invariant-loop-i l =
    let m = l.initial.self in
    record {
      lent : Works m l.self;
      pairs : l.self.pairs ≡ m.pairs;
      long : length l.self.work.now ≡ length m.work.now;
      grown : Grown m.work.now m.top m.pairs (l.two.arity - l.i) (row l.two.left l.two.right (l.two.arity - l.i) l.i) l.self.work.now;
    }
