-- `engine::trisculap_follow` meets its contract: it returns and tells what `store::follow` answers.
use mathlib.Core.Path.{ap, ◌∙◌}
use Rattle.trail.specs.State.{said_number}
use Rattle.engine.specs.Coded.{tells, tells_by}
use Rattle.engine.proofs.trisculap_follow.Goals as goal

pub returns : goal.returns
returns c = tells_by _ _ c.tell.ensures ∙ ap (λ r. tells (said_number r) c.args.word.now) c.follow.ensures
