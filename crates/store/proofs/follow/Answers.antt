-- `store::follow` meets its contract: the definition's tests in its order.
use mathlib.Core.Path.{◌≡◌, ◌∙◌, refl, sym, ap}
use mathlib.Core.Bool.{Bool, true}
use Rattle.std.specs.Prelude.{Err}
use Rattle.std.proofs.lemmas.Result.{err_from_is_err_and}
use Rattle.store.specs.Store.{well_formed, term_at}
use Rattle.store.specs.Steps.{term_used}
use Rattle.store.specs.Follow.{refused_cells, refused_root, found}
use Rattle.store.specs.WellFormed.{parts, keeps_cells}
use Rattle.store.proofs.follow.Goals as goal
use Rattle.store.proofs.follow.Goals.{After-term_at}

pub returns-in_err-store : goal.returns-in_err-store
returns-in_err-store c =
    let p = err_from_is_err_and c.from_residual.result c.from_residual.ensures.1 in
    let e = c.in_err-store.ensures.err in
    p.1 ∙ ap (λ r. Err r) (p.2 ∙ e.0) ∙ refused_cells _ _ _ e.1

-- past the first test the words are the checked store's
good : (c : After-term_at) → well_formed c.args.cells.now c.args.top ≡ true
good c = let q = c.in_ok-store.ensures.ok in rw (← q.0, ← q.1) c.in_ok-store.store.whole

term : (c : After-term_at) (b : Bool) → c.term_at.result ≡ b → term_at c.args.cells.now c.args.top c.args.at ≡ b
term c b e = let q = c.in_ok-store.ensures.ok in rw (← q.0, ← q.1) (sym c.term_at.ensures ∙ e)

pub returns-then-not-term_at : goal.returns-then-not-term_at
returns-then-not-term_at c =
    let here = (goal.at.returns-then-not-term_at c).After-term_at in
    refused_root _ _ _ (good here) (term here _ c.if-not-term_at.true)

pub invariant_of-end_of : goal.invariant_of-end_of
invariant_of-end_of c = record { keep = keeps_cells _ _ (parts _ _ c.in_ok-store.store.whole) }

pub end_of-e-requires : goal.end_of-e-requires
end_of-e-requires c = term_used _ _ _ (sym c.term_at.ensures ∙ c.if-not-term_at.false)

pub returns : goal.returns
returns c =
    let here = (goal.at.returns c).After-term_at in
    let q = c.in_ok-store.ensures.ok in
    found _ _ _ _ (good here) (term here _ c.if-not-term_at.false) (c.end_of-e.ensures.2 ∙ rw (q.0, q.1) refl)
