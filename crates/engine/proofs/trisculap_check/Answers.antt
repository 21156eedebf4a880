-- `engine::trisculap_check` meets its contract: it returns and tells what `State::check` answers.
use mathlib.Core.Path.{ap, ◌∙◌}
use Rattle.trail.specs.State.{said}
use Rattle.engine.specs.Coded.{code_of}
use Rattle.engine.proofs.trisculap_check.Goals as goal

pub returns : goal.returns
returns c = c.code.ensures ∙ ap (λ a. code_of (said a)) c.check.ensures.answer
