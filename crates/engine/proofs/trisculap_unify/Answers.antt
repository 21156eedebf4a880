-- `engine::trisculap_unify` meets its contract: it returns and tells what `unifier::unify` answers.
use Rattle.engine.specs.Coded.{decided_by}
use Rattle.engine.proofs.trisculap_unify.Goals as goal

pub returns : goal.returns
returns c = decided_by c.unify.ensures _ c.decide.ensures
