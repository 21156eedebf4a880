-- `engine::trisculap_cyclic` meets its contract: it returns and tells what `cycle::cycle_verdict` answers.
use mathlib.Core.Path.{ap, ◌∙◌}
use Rattle.trail.specs.State.{said_yes}
use Rattle.engine.specs.Coded.{decides}
use Rattle.engine.proofs.trisculap_cyclic.Goals as goal

pub returns : goal.returns
returns c = c.decide.ensures ∙ ap (λ r. decides (said_yes r) c.args.yes.now) c.cycle_verdict.ensures
