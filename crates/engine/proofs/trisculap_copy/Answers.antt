-- `engine::trisculap_copy` meets its contract: it returns and tells what `copy::copy_term` answers.
use Rattle.engine.specs.Coded.{tells_by, told_by}
use Rattle.engine.proofs.trisculap_copy.Goals as goal

pub returns : goal.returns
returns c = told_by c.copy_term.ensures _ (tells_by _ _ c.tell.ensures)
