-- `cycle::links_of` meets its contract, arm by arm.
use native.Mathlib.Omega.{arith}
use Prim.Native.Nat.{ℕ, ◌+◌, ◌≤◌}
use Rattle.store.specs.Store.{limit}
use Rattle.store.specs.WellFormed.{parts}
use Rattle.cycle.specs.Links.{Span, links_end}
use Rattle.cycle.proofs.ByKind.{links_free, links_bound, links_str, links_lis, links_atom, links_none}
use Rattle.cycle.proofs.links_of.Goals as goal
use Rattle.cycle.proofs.links_of.Goals.{Else-v-i, In-Atom, In-Lis, In-Str, Start}

-- no link goes past the used cells
short : (c : Start) → let a = c.args in (next end : ℕ) → Span a.store.cells.words.now a.i 0 next end → end ≤ limit
short c next end p = let w = parts _ _ c.args.store.whole in let h = w.high in omega (arith, links_end _ _ w _ c.requires.0 c.requires.1)

-- the arms that count on
bound : (c : Else-v-i) → let a = c.args in let v = c.in-Var.v in Span a.store.cells.words.now a.i 0 v (v + 1)
bound c = links_bound _ _ _ c.kind_at.ensures _ c.in-Var.is c.if-v-i.false

functor : (c : In-Str) → let a = c.args in let f = c.in-Str.f in Span a.store.cells.words.now a.i 0 f (f + 1)
functor c = links_str _ _ _ c.kind_at.ensures _ c.in-Str.is

both : (c : In-Lis) → let a = c.args in let l = c.in-Lis.l in Span a.store.cells.words.now a.i 0 l (l + 2)
both c = links_lis _ _ _ c.kind_at.ensures _ c.in-Lis.is

behind : (c : In-Atom) → let a = c.args in Span a.store.cells.words.now a.i 0 (a.i + 1) (a.i + 1 + c.in-Atom.arity)
behind c = links_atom _ _ _ c.kind_at.ensures _ _ c.in-Atom.is

pub overflow_add-result : goal.overflow_add-result
overflow_add-result c = let e = short (goal.at.overflow_add-result c).Start _ _ (bound c) in omega arith

pub overflow_add-result-in-Str : goal.overflow_add-result-in-Str
overflow_add-result-in-Str c = let e = short (goal.at.overflow_add-result-in-Str c).Start _ _ (functor c) in omega arith

pub overflow_add-result-in-Lis : goal.overflow_add-result-in-Lis
overflow_add-result-in-Lis c = let e = short (goal.at.overflow_add-result-in-Lis c).Start _ _ (both c) in omega arith

pub overflow_add-result-in-Atom-3 : goal.overflow_add-result-in-Atom-3
overflow_add-result-in-Atom-3 c = let e = short (goal.at.overflow_add-result-in-Atom-3 c).Start _ _ (behind c) in omega arith

pub returns-then-v-i : goal.returns-then-v-i
returns-then-v-i c = links_free _ _ _ c.kind_at.ensures _ c.in-Var.is c.if-v-i.true

pub returns-else-v-i : goal.returns-else-v-i
returns-else-v-i c = bound c

pub returns-in-Str : goal.returns-in-Str
returns-in-Str c = functor c

pub returns-in-Lis : goal.returns-in-Lis
returns-in-Lis c = both c

pub returns-in-Atom : goal.returns-in-Atom
returns-in-Atom c = behind c

pub returns-in_default : goal.returns-in_default
returns-in_default c = links_none _ _ _ c.kind_at.ensures c.in_default.not-Var c.in_default.not-Str c.in_default.not-Lis c.in_default.not-Atom
