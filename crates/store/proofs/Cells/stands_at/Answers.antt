-- `store::Cells::stands_at` meets its contract: each kind's row of the table.
use mathlib.Core.Path.{◌∙◌, sym}
use native.Mathlib.Omega.{arith}
use mathlib.Core.Path.{◌≡◌}
use Prim.Native.Nat.{◌+◌}
use mathlib.Core.Bool.{◌&&◌}
use Rattle.store.specs.Store.{term_at}
use Rattle.store.proofs.ByKind.{kept_str, kept_lis, atom_keeps, atom_heads, fixnum_keeps, bad_breaks, and_both, and_none, term_lt}
use Rattle.store.proofs.Cells.stands_at.Goals as goal
use Rattle.store.proofs.Cells.stands_at.Goals.{then-term_at, else-term_at}

pub var_stands-requires : goal.var_stands-requires
var_stands-requires c = (omega arith, omega arith, sym c.kind_at.ensures ∙ c.in-Var.is)

pub overflow_add-l : goal.overflow_add-l
overflow_add-l c = omega (arith, term_lt _ _ _ (sym c.term_at.ensures ∙ c.if-term_at.true))

pub returns-in-Var : goal.returns-in-Var
returns-in-Var c = c.var_stands.ensures

pub returns-in-Str : goal.returns-in-Str
returns-in-Str c =
    kept_str _ _ _ c.kind_at.ensures _ _ c.in-Str.is _ c.atom_at.ensures _ c.from.ensures

pub returns-after-term_at : goal.returns-after-term_at
returns-after-term_at c =
    let s = c.args.self in
    let l = c.in-Lis.l in
    let both : c.if-term_at.from ≡ (term_at s.words.now s.top l && term_at s.words.now s.top (l + 1)) =
    elim c.if-term_at.branch [
      | then-term_at w ↦ w.from-is ∙ and_both _ _ _ _ c.term_at.ensures w.if-term_at.true w.term_at-then-term_at.ensures
      | else-term_at w ↦ w.from-is ∙ w.if-term_at.false ∙ and_none (term_at s.words.now s.top l) _ _ c.term_at.ensures w.if-term_at.false
    ] in
    kept_lis _ _ _ c.kind_at.ensures _ _ c.in-Lis.is _ both _ c.from-in-Lis.ensures

pub returns-then-arity-eq0 : goal.returns-then-arity-eq0
returns-then-arity-eq0 c =
    atom_keeps _ _ _ c.kind_at.ensures _ _ _ c.in-Atom.is (omega arith) c.if-arity-eq0.true

pub returns-else-arity-eq0 : goal.returns-else-arity-eq0
returns-else-arity-eq0 c =
    atom_heads _ _ _ c.kind_at.ensures _ _ _ c.in-Atom.is c.if-arity-eq0.false

pub returns-in-Fixnum : goal.returns-in-Fixnum
returns-in-Fixnum c = fixnum_keeps _ _ _ c.kind_at.ensures _ _ c.in-Fixnum.is

pub returns-in-Bad : goal.returns-in-Bad
returns-in-Bad c = bad_breaks _ _ _ c.kind_at.ensures _ c.in-Bad.is
