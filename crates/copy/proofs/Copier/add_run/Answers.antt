-- `copy::Copier::add_run` meets its contract, by whether a copy is noted.
use Rattle.copy.specs.Arms.{run_new, run_old}
use Rattle.copy.proofs.Copier.add_run.Goals as goal

pub returns-then-self-i-eq0-clause-state : goal.returns-then-self-i-eq0-clause-state
returns-then-self-i-eq0-clause-state c = run_new _ _ _ c.args.i c.args.b c.args.n _ c.copy_run.ensures c.if-self-i-eq0.true

pub returns-else-self-i-eq0-clause-state : goal.returns-else-self-i-eq0-clause-state
returns-else-self-i-eq0-clause-state c = run_old _ _ _ c.args.i c.args.b c.args.n c.if-self-i-eq0.false
