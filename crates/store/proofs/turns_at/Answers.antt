-- `store::turns_at` meets its contract: the definition's two comparisons.
use borrow.Author.Tests.{lt-ltb, le-ltb}
use Rattle.store.specs.Turns.{turns_at}
use Rattle.store.proofs.turns_at.Goals as goal

pub returns-then-i-v : goal.returns-then-i-v
unfolding turns_at
returns-then-i-v c = rw (lt-ltb _ _ c.if-i-v.true, ← c.step_of.ensures)

pub returns-else-i-v : goal.returns-else-i-v
unfolding turns_at
returns-else-i-v c = rw (le-ltb _ _ c.if-i-v.false)
