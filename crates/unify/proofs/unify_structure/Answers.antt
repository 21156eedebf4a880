-- `unify::unify_structure` meets its contract, by the kind of the other cell.
use mathlib.Core.Path.{sym, subst, ◌∙◌}
use native.Mathlib.Omega.{arith}
use Rattle.cell.specs.declared.Kind.TheVariants.{Str}
use Rattle.cell.specs.declared.Kind.{Kind}
use Rattle.unify.specs.Decided.{Decided}
use Rattle.unify.specs.Arms.{right_atom, agree_lem, str_cell, str_pair, str_not_pair, str_is_atom, str_not_atom, str_other}
use Rattle.unify.proofs.unify_structure.Goals as goal

pub unify_functors-requires : goal.unify_functors-requires
unify_functors-requires c = let t = c.requires.two in (str_cell t, right_atom t c.in-Str.is)

pub is_dot-requires : goal.is_dot-requires
is_dot-requires c = str_cell c.requires.two

pub overflow_add-result : goal.overflow_add-result
overflow_add-result c = let h = (str_cell c.requires.two).high in omega arith

pub is_atom-requires : goal.is_atom-requires
is_atom-requires c = str_cell c.requires.two

pub returns-in-Str : goal.returns-in-Str
returns-in-Str c =
    let r = c.args in
    λ a b. subst (λ (x : Kind). Decided r.cells.now a (Str r.s) b x c.unify_functors.result) (sym c.in-Str.is) (c.unify_functors.ensures a b)

pub returns-then-is_dot : goal.returns-then-is_dot
returns-then-is_dot c = λ a b. str_pair c.requires.two c.in-Lis.is (sym c.is_dot.ensures ∙ c.if-is_dot.true)

pub returns-else-is_dot : goal.returns-else-is_dot
returns-else-is_dot c = λ a b. str_not_pair c.requires.two c.in-Lis.is (sym c.is_dot.ensures ∙ c.if-is_dot.false)

pub returns-in-Atom : goal.returns-in-Atom
returns-in-Atom c =
    let t = c.requires.two in
    λ a b. agree_lem _ _ _ _ _ _ _ c.agree.ensures (λ e. str_is_atom t c.in-Atom.is (sym c.is_atom.ensures ∙ e)) (λ e. str_not_atom t c.in-Atom.is (sym c.is_atom.ensures ∙ e))

pub returns-in_default : goal.returns-in_default
returns-in_default c = λ a b. let p = c.requires in str_other p.two p.no_var c.in_default.not-Str c.in_default.not-Lis c.in_default.not-Atom
