-- `cycle::Runs::count` meets its contract, arm by arm.
use Rattle.std.proofs.Common.{sym, subst, ◌∙◌, ◌+◌, ◌<◌, ◌≤◌, arith}
use Rattle.store.specs.Store.{limit}
use Rattle.store.specs.WellFormed.{parts}
use Rattle.store.specs.Steps.{term_used}
use Rattle.cycle.specs.Kids.{arity_at, run_used, str_used, lis_terms}
use Rattle.cycle.specs.Counted.{Counted, counts_str, counts_lis, names_no_run}
use Rattle.cycle.proofs.ByKind.{named_str, named_lis, named_none}
use Rattle.cycle.proofs.Runs.count.Goals as goal
use Rattle.cycle.proofs.Runs.count.Goals.{In-Lis, In-Str}

-- the run that is named begins among the used cells, and its arguments lie there
in_str : (c : In-Str) → let s = c.args.store.cells in let f = c.in-Str.f in (1 ≤ f) × (f < s.top) × (arity_at s.words.now f + 1 ≤ limit)
in_str c =
    let p = c.requires in
    let w = parts _ _ c.args.store.whole in
    let u = str_used _ _ w _ p.0 p.1 _ (sym c.kind_at.ensures ∙ c.in-Str.is) in
    let h = w.high in
    (u.0, u.1, omega (arith, run_used _ _ w _ u.0 u.1))

in_lis : (c : In-Lis) → let l = c.in-Lis.l in (1 ≤ l) × (l < c.args.store.cells.top)
in_lis c =
    let p = c.requires in
    term_used _ _ _ (lis_terms _ _ (parts _ _ c.args.store.whole) _ p.0 p.1 _ (sym c.kind_at.ensures ∙ c.in-Lis.is)).0

pub bounds-self-f : goal.bounds-self-f
bounds-self-f c = let u = in_str (goal.at.bounds-self-f c).In-Str in let h = c.args.store.cells.fits in omega arith

pub arity_at-room-requires : goal.arity_at-room-requires
arity_at-room-requires c = let u = in_str (goal.at.arity_at-room-requires c).In-Str in let h = c.args.store.cells.fits in omega arith

pub overflow_add-room : goal.overflow_add-room
overflow_add-room c = let u = in_str (goal.at.overflow_add-room c).In-Str in let e = c.arity_at-room.ensures in omega arith

pub bounds-self-l : goal.bounds-self-l
bounds-self-l c = let u = in_lis (goal.at.bounds-self-l c).In-Lis in let h = c.args.store.cells.fits in omega arith

pub returns-in-Str : goal.returns-in-Str
returns-in-Str c =
    let h = c.args.store.cells.fits in
    let u = in_str (goal.at.returns-in-Str c).In-Str in
    let n = named_str _ _ _ c.kind_at.ensures _ c.in-Str.is in
    let e = c.room_once.ensures in
    let r = rw c.arity_at-room.ensures at e.1 in
    rw e.0 (subst (Counted _ _ _ _ _ _ _) (omega (arith, r)) (counts_str _ _ _ _ _ _ n.0 n.1 u.0 u.1 (omega arith) u.2))

pub returns-in-Lis : goal.returns-in-Lis
returns-in-Lis c =
    let h = c.args.store.cells.fits in
    let u = in_lis (goal.at.returns-in-Lis c).In-Lis in
    let n = named_lis _ _ _ c.kind_at.ensures _ c.in-Lis.is in
    let e = c.room_once-in-Lis.ensures in
    rw (e.0, e.1) (counts_lis _ _ _ _ _ _ n.0 n.1 u.0 u.1 (omega arith))

pub returns-in_default : goal.returns-in_default
returns-in_default c = let n = named_none _ _ _ c.kind_at.ensures c.in_default.not-Str c.in_default.not-Lis in names_no_run _ _ _ _ _ n.0 n.1
