-- `engine::trisculap_unify_checked` meets its contract: it returns and tells what `unifier::unify` answers.
use Rattle.engine.specs.Coded.{decided_by}
use Rattle.engine.proofs.trisculap_unify_checked.Goals as goal

pub returns : goal.returns
returns c = decided_by c.unify.ensures _ c.decide.ensures
