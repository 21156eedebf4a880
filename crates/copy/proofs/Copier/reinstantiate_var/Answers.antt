-- `copy::Copier::reinstantiate_var` meets its contract, by whether a home is noted.
use mathlib.Core.Path.{ap, ◌∙◌}
use Rattle.copy.specs.Arms.{home_new, home_old}
use Rattle.copy.specs.Copier.{state}
use Rattle.copy.proofs.Copier.reinstantiate_var.Goals as goal
use Rattle.copy.proofs.Copier.reinstantiate_var.Goals.{then-self-at-eq0, else-self-at-eq0}

pub returns-clause-state : goal.returns-clause-state
returns-clause-state c =
    elim c.if-self-at-eq0.branch [
      | then-self-at-eq0 w ↦ ap state w.self-is ∙ home_new _ _ _ c.args.at c.args.p w.if-self-at-eq0.true
      | else-self-at-eq0 w ↦ ap state w.self-is ∙ home_old _ _ _ c.args.at c.args.p w.if-self-at-eq0.false
    ]
