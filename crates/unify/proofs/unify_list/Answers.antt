-- `unify::unify_list` meets its contract, by the kind of the other cell.
use mathlib.Core.Path.{sym, ◌∙◌}
use native.Mathlib.Omega.{arith}
use Rattle.unify.specs.Arms.{right_atom, lis_pair, lis_str, lis_not_str, lis_other}
use Rattle.unify.proofs.unify_list.Goals as goal

pub is_dot-requires : goal.is_dot-requires
is_dot-requires c = right_atom c.requires.two c.in-Str.is

pub overflow_add-result : goal.overflow_add-result
overflow_add-result c = let h = (right_atom c.requires.two c.in-Str.is).high in omega arith

pub returns-else-l-m : goal.returns-else-l-m
returns-else-l-m c = λ a b. lis_pair c.requires.two c.in-Lis.is

pub returns-then-is_dot : goal.returns-then-is_dot
returns-then-is_dot c = λ a b. lis_str c.requires.two c.in-Str.is (sym c.is_dot.ensures ∙ c.if-is_dot.true)

pub returns-else-is_dot : goal.returns-else-is_dot
returns-else-is_dot c = λ a b. lis_not_str c.requires.two c.in-Str.is (sym c.is_dot.ensures ∙ c.if-is_dot.false)

pub returns-in_default : goal.returns-in_default
returns-in_default c = λ a b. let p = c.requires in lis_other p.two p.no_var c.in_default.not-Str c.in_default.not-Lis
