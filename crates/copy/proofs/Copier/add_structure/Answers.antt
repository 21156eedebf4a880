-- `copy::Copier::add_structure` meets its contract where a copy is noted.
use Rattle.copy.specs.Arms.{run_old}
use Rattle.copy.proofs.Copier.add_structure.Goals as goal

pub returns-else-self-f-eq0-clause-state : goal.returns-else-self-f-eq0-clause-state
returns-else-self-f-eq0-clause-state c = run_old _ _ _ c.args.f c.args.f _ c.if-self-f-eq0.false
