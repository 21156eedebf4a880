-- `store::step_of` meets its contract, by the kind.
use Rattle.store.proofs.ByKind.{step_stays, step_goes}
use Rattle.store.proofs.step_of.Goals as goal

pub returns-in-Var : goal.returns-in-Var
returns-in-Var c = step_goes _ _ _ c.kind_at.ensures _ c.in-Var.is

pub returns-in_default : goal.returns-in_default
returns-in_default c = step_stays _ _ _ c.kind_at.ensures c.in_default.not-Var
