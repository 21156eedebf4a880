-- `unify::unify_atom` meets its contract, by the kind of the other cell.
use mathlib.Core.Path.{sym, ◌∙◌}
use borrow.Author.Tests.{eqb-true, eq-eqb}
use mathlib.Core.Bool.{false≢true}
use Rattle.cell.specs.declared.Kind.TheVariants.{Atom}
use Rattle.terms.specs.View.{view_kind}
use Rattle.unify.specs.Arms.{right_atom, agree_lem, atoms_same, atoms_apart, atom_str, atom_not_str, atom_else}
use Rattle.unify.proofs.unify_atom.Goals as goal

pub is_atom-requires : goal.is_atom-requires
is_atom-requires c = right_atom c.requires.1.two c.in-Str.is

pub returns-in-Atom : goal.returns-in-Atom
unfolding view_kind
returns-in-Atom c =
    let t = c.requires.1.two in
    λ x a b. agree_lem _ a (Atom c.args.name x) b _ _ _ c.agree.ensures (λ e. atoms_same t c.in-Atom.is (eqb-true _ _ e)) (λ e. atoms_apart t c.in-Atom.is (λ q. false≢true (sym e ∙ eq-eqb _ _ q)))

pub returns-in-Str : goal.returns-in-Str
unfolding view_kind
returns-in-Str c =
    let t = c.requires.1.two in
    λ x a b. agree_lem _ a (Atom c.args.name x) b _ _ _ c.agree-in-Str.ensures (λ e. atom_str t c.in-Str.is (sym c.is_atom.ensures ∙ e)) (λ e. atom_not_str t c.in-Str.is (sym c.is_atom.ensures ∙ e))

pub returns-in_default : goal.returns-in_default
unfolding view_kind
returns-in_default c = λ x a b. let p = c.requires.1 in atom_else p.two p.no_var c.in_default.not-Str c.in_default.not-Atom
