-- `engine::trisculap_append` meets its contract: it returns and tells what `append::append` answers.
use Rattle.engine.specs.Coded.{tells_by, told_by}
use Rattle.engine.proofs.trisculap_append.Goals as goal

pub returns : goal.returns
returns c = told_by c.append.ensures _ (tells_by _ _ c.tell.ensures)
