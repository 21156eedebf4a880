-- `engine::trisculap_number` meets its contract: it returns and tells what `cell::number_cell` answers.
use mathlib.Core.Path.{ap, ◌∙◌}
use mir.Facts.{to_z-of_z}
use Rattle.cell.specs.Answers.{number_cell}
use Rattle.trail.specs.State.{said_number}
use Rattle.engine.specs.Coded.{tells, tells_by}
use Rattle.engine.proofs.trisculap_number.Goals as goal

pub returns : goal.returns
returns c =
    let made = c.number_cell.ensures ∙ ap number_cell (to_z-of_z c.ranges.n) in
    tells_by _ _ c.tell.ensures ∙ ap (λ r. tells (said_number r) c.args.word.now) made
