-- `unify::unify_fixnum` meets its contract, by the kind of the other cell.
use mathlib.Core.Path.{sym, ap, ◌∙◌}
use mathlib.Core.Bool.{false≢true}
use mir.Val.{of_z, to_z}
use mir.Syntax.{w64}
use mir.Facts.{to_z-of_z}
use borrow.Author.Rules.{rules}
use borrow.Author.Tests.{eqb-true, eq-eqb}
use Rattle.unify.specs.Arms.{agree_lem, numbers_same, numbers_apart, number_else}
use Rattle.unify.proofs.unify_fixnum.Goals as goal

pub returns-in-Fixnum : goal.returns-in-Fixnum
returns-in-Fixnum c = λ cells p a b.
    agree_lem _ _ _ _ _ _ _ c.agree.ensures
    (λ e. numbers_same p.two c.in-Fixnum.is (sym (to_z-of_z c.ranges.n) ∙ ap (to_z w64) (eqb-true _ _ e) ∙ to_z-of_z {w = w64} (search rules)))
    (λ e. numbers_apart p.two c.in-Fixnum.is (λ q. false≢true (sym e ∙ eq-eqb _ _ (ap (of_z w64) q))))

pub returns-in_default : goal.returns-in_default
returns-in_default c = λ cells p a b. number_else p.two p.no_var c.in_default.not-Fixnum
