-- `cycle::cycle_verdict` meets its contract: the definition's tests in its order.
use Rattle.std.proofs.Common.{rules, ◌≡◌, sym, ◌∙◌, true}
use Rattle.store.specs.Store.{well_formed}
use Rattle.cycle.specs.Verdict.{refused_cells, refused_root, answered}
use Rattle.cycle.proofs.cycle_verdict.Goals as goal
use Rattle.cycle.proofs.cycle_verdict.Goals.{In_ok-store}

-- past the first test the store is of the words given, and well formed
good : (c : In_ok-store) → well_formed c.args.cells.now c.args.top ≡ true
good c = let e = c.in_ok-store.ensures.ok in rw (← e.0, ← e.1) c.in_ok-store.store.whole

pub returns-in_err-store : goal.returns-in_err-store
returns-in_err-store c = search (rules, refused_cells)

pub returns-then-not-term_at : goal.returns-then-not-term_at
returns-then-not-term_at c =
    let e = c.in_ok-store.ensures.ok in
    refused_root _ _ _ (good (goal.at.returns-then-not-term_at c).In_ok-store) (rw (← e.0, ← e.1) (sym c.term_at.ensures ∙ c.if-not-term_at.true))

pub returns : goal.returns
returns c =
    let e = c.in_ok-store.ensures.ok in
    answered _ _ _ (good (goal.at.returns c).In_ok-store) (rw (← e.0, ← e.1) (sym c.term_at.ensures ∙ c.if-not-term_at.false)) _ (rw (← e.0, ← e.1) c.cyclic.ensures)
