-- `cycle::own_room` meets its contract, arm by arm.
use native.Mathlib.Omega.{arith}
use mathlib.Core.Path.{sym, ◌∙◌}
use Prim.Native.Nat.{◌+◌, ◌≤◌}
use Rattle.store.specs.Store.{limit}
use Rattle.store.specs.WellFormed.{parts}
use Rattle.cycle.specs.Kids.{run_used, str_used}
use Rattle.cycle.proofs.ByKind.{arity_atom, own_bare, own_held, own_pair, own_plain, own_run, own_none}
use Rattle.cycle.proofs.own_room.Goals as goal
use Rattle.cycle.proofs.own_room.Goals.{Else-arity-eq0}

-- the arguments lie among the used cells
short : (c : Else-arity-eq0) → c.in-Atom.arity + 1 ≤ limit
short c =
    let a = c.args in
    let p = c.requires in
    let e = arity_atom a.store.cells.words.now a.i _ c.kind_at.ensures _ _ c.in-Atom.is in
    let h = c.args.store.cells.fits in
    omega (arith, run_used _ _ (parts _ _ c.args.store.whole) _ p.0 p.1)

pub header_at-requires : goal.header_at-requires
header_at-requires c =
    let p = c.requires in
    let w = c.args.store.cells.fits in
    omega (arith, str_used _ _ (parts _ _ c.args.store.whole) _ p.0 p.1 _ (sym c.kind_at.ensures ∙ c.in-Str.is))

pub overflow_add-result : goal.overflow_add-result
overflow_add-result c = let r = short c in omega arith

pub returns-then-header_at : goal.returns-then-header_at
returns-then-header_at c = own_held _ _ _ c.kind_at.ensures _ c.in-Str.is c.header_at.ensures c.if-header_at.true

pub returns-else-header_at : goal.returns-else-header_at
returns-else-header_at c = own_bare _ _ _ c.kind_at.ensures _ c.in-Str.is c.header_at.ensures c.if-header_at.false

pub returns-in-Lis : goal.returns-in-Lis
returns-in-Lis c = own_pair _ _ _ c.kind_at.ensures _ c.in-Lis.is

pub returns-then-arity-eq0 : goal.returns-then-arity-eq0
returns-then-arity-eq0 c = own_plain _ _ _ c.kind_at.ensures _ _ c.in-Atom.is c.if-arity-eq0.true

pub returns-else-arity-eq0 : goal.returns-else-arity-eq0
returns-else-arity-eq0 c = own_run _ _ _ c.kind_at.ensures _ _ c.in-Atom.is c.if-arity-eq0.false

pub returns-in_default : goal.returns-in_default
returns-in_default c = own_none _ _ _ c.kind_at.ensures c.in_default.not-Str c.in_default.not-Lis c.in_default.not-Atom
