-- `marks::unbind` meets its contract. The loop's invariant: what is left of the entries is still to be unbound.
use Rattle.std.proofs.Common.{◌≡◌, ◌+◌, ◌-◌}
use Rattle.marks.specs.Unbind.{unbind}
use Rattle.marks.proofs.unbind.Given as goal

abbrev pub invariant-loop-e : goal.invariant-loop-e
invariant-loop-e l = unbind l.trail l.from (l.to - l.from) l.initial.cells ≡ unbind l.trail (l.from + l.e-index) (l.to - (l.from + l.e-index)) l.cells
