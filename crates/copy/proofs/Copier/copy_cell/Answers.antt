-- `copy::Copier::copy_cell` meets its contract where the word itself is the copy.
use Rattle.copy.specs.Arms.{act_plain}
use Rattle.copy.proofs.Copier.copy_cell.Goals as goal

pub returns-in_default-clause-state : goal.returns-in_default-clause-state
returns-in_default-clause-state c = act_plain _ _ _ _ _ _ _ _ c.in_default.not-Var c.in_default.not-Str c.in_default.not-Lis c.put_at.ensures
