-- `unify::unify_var` meets its contract, by the kind of the other cell.
use native.Mathlib.Omega.{arith}
use Rattle.unify.specs.Arms.{vars_higher, var_other}
use Rattle.unify.proofs.unify_var.Goals as goal

pub returns-else-v-w : goal.returns-else-v-w
returns-else-v-w c = λ cells t. vars_higher t c.in-Var.is c.if-v-w.false (omega arith) (omega arith)

pub returns-in_default : goal.returns-in_default
returns-in_default c = λ cells t. var_other t c.in_default.not-Var
