-- `engine::trisculap_rollback` meets its contract: it returns and tells what `marks::rollback` answers.
use mathlib.Core.Path.{ap, ◌∙◌}
use Rattle.engine.specs.Coded.{code_of, said_answer, coded_by}
use Rattle.engine.proofs.trisculap_rollback.Goals as goal

pub returns : goal.returns
returns c = coded_by c.rollback.ensures (c.code.ensures ∙ ap code_of (said_answer _))
