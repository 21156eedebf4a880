-- `copy::copy_term` meets its contract: the refusals in the definition's order, and then the copy.
use Rattle.std.proofs.Common.{rules, ◌≡◌, ◌≤◌, ◌∙◌, sym, true, length, arith}
use Rattle.store.specs.Store.{term_at, well_formed}
use Rattle.append.specs.Calls.{room_for}
use Rattle.cycle.specs.Room.{room_of}
use Rattle.chains.specs.Work.{work_need}
use Rattle.copy.specs.Copying.{no_cells, no_root, no_work, no_room, given, made}
use Rattle.copy.proofs.copy_term.Goals as goal
use Rattle.copy.proofs.copy_term.Goals.{In_ok-store, Else-not-term_at, Else-work-work_need, Else-not-copy_fits}

-- what is known past each refusal that is not given: the store is of the lent words, and well formed
formed : (c : In_ok-store) → let a = c.args in well_formed a.cells.now a.top.now ≡ true
formed c = let e = c.in_ok-store.ensures.ok in rw (← e.0, ← e.1) c.in_ok-store.store.whole

-- the root stands for a term
root_term : (c : Else-not-term_at) → let a = c.args in term_at a.cells.now a.top.now a.root ≡ true
root_term c = let e = c.in_ok-store.ensures.ok in rw (← e.0, ← e.1) (sym c.term_at.ensures ∙ c.if-not-term_at.false)

-- the work buffer is long enough
long : (c : Else-work-work_need) → let a = c.args in work_need a.top.now ≤ length a.work.now
long c = let e = c.work_need.ensures in let i = c.in_ok-store.ensures.ok in omega arith

-- and there is room
room : (c : Else-not-copy_fits) → let a = c.args in room_for a.cells.now a.top.now (room_of a.cells.now a.top.now a.root) ≡ true
room c = let e = c.in_ok-store.ensures.ok in rw (← e.0, ← e.1) (sym c.copy_fits.ensures ∙ c.if-not-copy_fits.false)

pub returns-in_err-store : goal.returns-in_err-store
returns-in_err-store c = search (rules, no_cells)

pub returns-then-not-term_at : goal.returns-then-not-term_at
returns-then-not-term_at c =
    let e = c.in_ok-store.ensures.ok in
    no_root _ _ (formed (goal.at.returns-then-not-term_at c).In_ok-store) (rw (← e.0, ← e.1) (sym c.term_at.ensures ∙ c.if-not-term_at.true))

pub returns-then-work-work_need : goal.returns-then-work-work_need
returns-then-work-work_need c =
    let here = goal.at.returns-then-work-work_need c in
    let e = c.work_need.ensures in
    no_work _ _ (formed here.In_ok-store) (root_term here.Else-not-term_at) (omega arith)

pub returns-then-not-copy_fits : goal.returns-then-not-copy_fits
returns-then-not-copy_fits c =
    let here = goal.at.returns-then-not-copy_fits c in
    let e = c.in_ok-store.ensures.ok in
    no_room _ _ (formed here.In_ok-store) (root_term here.Else-not-term_at) (long here.Else-work-work_need) (rw (← e.0, ← e.1) (sym c.copy_fits.ensures ∙ c.if-not-copy_fits.true))

pub copy_root-requires : goal.copy_root-requires
copy_root-requires c =
    let here = goal.at.copy_root-requires c in
    let l = long here.Else-work-work_need in
    (given _ _ (formed here.In_ok-store) (root_term here.Else-not-term_at) l (room here.Else-not-copy_fits), l)

pub returns : goal.returns
returns c =
    let here = goal.at.returns c in
    let e = c.copy_root.ensures in
    made _ _ (formed here.In_ok-store) (root_term here.Else-not-term_at) (long here.Else-work-work_need) (room here.Else-not-copy_fits) _ _ _ e.0 e.1 e.2
