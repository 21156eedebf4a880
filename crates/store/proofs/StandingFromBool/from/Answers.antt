-- `store::Standing::from` meets its contract, by the test.
use mathlib.Core.Path.{sym, ap}
use Rattle.store.specs.Survey.{kept_of}
use Rattle.store.proofs.StandingFromBool.from.Goals as goal

pub returns-then-keeps : goal.returns-then-keeps
unfolding kept_of
returns-then-keeps c = sym (ap kept_of c.if-keeps.true)

pub returns-else-keeps : goal.returns-else-keeps
unfolding kept_of
returns-else-keeps c = sym (ap kept_of c.if-keeps.false)
