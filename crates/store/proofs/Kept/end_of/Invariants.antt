-- `store::Kept::end_of` meets its contract. The loop's invariant: the steps that are left lead where all of them do.
use mathlib.Core.Path.{◌≡◌}
use Prim.Native.Nat.{◌-◌, ◌<◌, ◌≤◌}
use Rattle.store.specs.Store.{steps}
use Rattle.store.proofs.Kept.end_of.Given as goal

abbrev pub invariant-loop : goal.invariant-loop
invariant-loop l = (1 ≤ l.cur) × (l.cur < l.self.cells.top) × (steps l.self.cells.words.now l.self.cells.top l.at ≡ steps l.self.cells.words.now (l.self.cells.top - l.counter) l.cur)
