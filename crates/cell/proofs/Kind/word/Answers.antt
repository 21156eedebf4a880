-- `cell::Kind::word` meets its contract: each kind's word is built from numbers that fit.
use Rattle.std.specs.Result.{result_unwrap_or}
use mathlib.Core.Path.{◌∙◌, sym, ap, subst}
use native.Mathlib.Omega.{arith}
use lib.Dec.{lit<}
use Rattle.cell.specs.Word.{word_of}
use Rattle.cell.specs.Kinds.{Proper, word_of_kind}
use Rattle.cell.proofs.Signed.{called}
use Rattle.cell.proofs.Kind.word.Goals as goal

pub build_with-requires : goal.build_with-requires
unfolding Proper
build_with-requires c = (lit< tt, lit< tt, lit< tt, subst Proper c.in-Var.is c.requires)

pub build_with-requires-in-Str : goal.build_with-requires-in-Str
unfolding Proper
build_with-requires-in-Str c = (lit< tt, lit< tt, lit< tt, subst Proper c.in-Str.is c.requires)

pub build_with-requires-in-Lis : goal.build_with-requires-in-Lis
unfolding Proper
build_with-requires-in-Lis c = (lit< tt, lit< tt, lit< tt, subst Proper c.in-Lis.is c.requires)

pub atom_value-requires : goal.atom_value-requires
unfolding Proper
atom_value-requires c = (subst Proper c.in-Atom.is c.requires).1

pub build_with-requires-in-Atom : goal.build_with-requires-in-Atom
unfolding Proper
build_with-requires-in-Atom c =
    let p = subst Proper c.in-Atom.is c.requires in
    let a = p.0 in
    let b = p.1 in
    let v = c.atom_value.ensures in
    (lit< tt, lit< tt, lit< tt, omega arith)

pub returns-in-Var : goal.returns-in-Var
unfolding word_of_kind
returns-in-Var c = c.build_with.ensures ∙ sym (ap word_of_kind c.in-Var.is)

pub returns-in-Str : goal.returns-in-Str
unfolding word_of_kind
returns-in-Str c = c.build_with-in-Str.ensures ∙ sym (ap word_of_kind c.in-Str.is)

pub returns-in-Lis : goal.returns-in-Lis
unfolding word_of_kind
returns-in-Lis c = c.build_with-in-Lis.ensures ∙ sym (ap word_of_kind c.in-Lis.is)

pub returns-in-Atom : goal.returns-in-Atom
unfolding word_of_kind
returns-in-Atom c = c.build_with-in-Atom.ensures ∙ ap (word_of 4 0 0) c.atom_value.ensures ∙ sym (ap word_of_kind c.in-Atom.is)

pub returns-in-Fixnum : goal.returns-in-Fixnum
unfolding word_of_kind Proper
returns-in-Fixnum c =
    let e = c.in-Fixnum.is in
    let q = c.number_cell.ensures ∙ called _ (subst Proper e c.requires) in
    c.unwrap_or.ensures ∙ ap (λ m. result_unwrap_or m 0) q ∙ sym (ap word_of_kind e)

pub returns-in-Bad : goal.returns-in-Bad
unfolding Proper
returns-in-Bad c = absurd (subst Proper c.in-Bad.is c.requires)
