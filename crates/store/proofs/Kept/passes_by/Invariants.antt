-- `store::Kept::passes_by` meets its contract. The loop's invariant: `m` steps have come to `cur`, and no fewer to the goal.
use mathlib.Core.Path.{◌≡◌}
use Prim.Native.Nat.{ℕ, ◌<◌, ◌≤◌}
use Rattle.store.specs.Store.{steps}
use Rattle.store.proofs.Kept.passes_by.Given as goal

abbrev pub invariant-loop : goal.invariant-loop
invariant-loop l = (1 ≤ l.cur) × (l.cur < l.self.cells.top) × (l.cur ≡ steps l.self.cells.words.now l.counter l.at) × ((k : ℕ) → k < l.counter → steps l.self.cells.words.now k l.at ≡ l.goal → ⊥)
