-- `unify::unify_cells` meets its contract, by the kinds of the two cells.
use mathlib.Core.Path.{◌≡◌, sym, ap, ◌∙◌}
use Rattle.std.proofs.Common.{⊎_elim}
use mir.Syntax.{w64}
use mir.Val.{of_z, to_z}
use mir.Facts.{to_z-of_z}
use borrow.Author.Rules.{rules}
use Rattle.cell.specs.declared.Kind.TheVariants.{Fixnum}
use Rattle.unify.specs.Arms.{of_kind, kind_is, of_var, var_is, bind_right, first_bad}
use Rattle.unify.proofs.unify_cells.Goals as goal

pub returns-in-Var : goal.returns-in-Var
returns-in-Var c = var_is c.requires c.in-Var.is c.unify_var.result (c.unify_var.ensures _ (of_var c.requires c.in-Var.is))

pub returns-in-Var-kind : goal.returns-in-Var-kind
returns-in-Var-kind c = bind_right c.requires c.in_default.not-Var c.in-Var-kind.is

pub unreachable-requires : goal.unreachable-requires
unreachable-requires c = ⊎_elim (λ e. c.in_default.not-Var e.0 e.1) (λ e. first_bad c.requires e) c.in-Var-kind-2.is

pub returns-in-Str : goal.returns-in-Str
returns-in-Str c = kind_is c.requires c.unify_structure.result c.in-Str.is (c.unify_structure.ensures _ _)

pub returns-in-Lis : goal.returns-in-Lis
returns-in-Lis c = kind_is c.requires c.unify_list.result c.in-Lis.is (c.unify_list.ensures _ _)

pub returns-in-Atom : goal.returns-in-Atom
returns-in-Atom c = kind_is c.requires c.unify_atom.result c.in-Atom.is (c.unify_atom.ensures _ _ _)

-- the number that is passed on is the number that was read
pub returns-in-Fixnum : goal.returns-in-Fixnum
returns-in-Fixnum c =
    let same : c.in-Fixnum.n ≡ to_z w64 (of_z w64 c.in-Fixnum.n) = sym (to_z-of_z {w = w64} (search rules)) in
    let e = c.in-Fixnum.is ∙ ap Fixnum same in
    kind_is c.requires c.unify_fixnum.result e (c.unify_fixnum.ensures _ (record { a = _; b = _; two = of_kind c.requires e; no_var = c.in_default-kind.not-Var }) _ _)
