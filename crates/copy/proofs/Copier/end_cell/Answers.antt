-- `copy::Copier::end_cell` meets its contract, by the kind of the scanned cell.
use mathlib.Core.Path.{sym, ◌∙◌}
use Rattle.copy.specs.Followed.{followed_none}
use Rattle.copy.specs.Arms.{end_var, end_other}
use Rattle.copy.proofs.Copier.end_cell.Goals as goal

pub returns-in-Var-clause-word : goal.returns-in-Var-clause-word
returns-in-Var-clause-word c = end_var _ _ _ _ _ (sym c.from-kind.ensures ∙ c.in-Var.is) c.end_from-at.ensures.end.0

pub returns-in_default-clause-word : goal.returns-in_default-clause-word
returns-in_default-clause-word c = end_other _ _ _ _ c.from-kind.ensures c.in_default.not-Var

pub returns-in_default-clause-followed : goal.returns-in_default-clause-followed
returns-in_default-clause-followed c = followed_none _ _ _ c.requires.1.hops
