-- `store::Kept::turn_ends` meets its contract: the way does not turn, or it turns at a cell that is noted, or that it is walked from.
use mathlib.Core.Path.{◌∙◌, sym, ap, subst}
use mathlib.Core.Bool.{false≢true}
use Prim.Native.Nat.{◌<◌, ◌≤◌}
use native.Mathlib.Omega.{arith}
use borrow.Author.Tests.{eqb-true}
use Rattle.store.specs.Store.{Ends}
use Rattle.store.specs.Steps.{next_used}
use Rattle.store.specs.Ends.{ends_back}
use Rattle.store.specs.Turns.{turns_at, turns_higher}
use Rattle.store.specs.Walk.{settled, settled_found}
use Rattle.store.proofs.ByKind.{set_fits}
use Rattle.store.proofs.Kept.turn_ends.Given.{Over}
use Rattle.store.proofs.Kept.turn_ends.Goals as goal
use Rattle.store.proofs.Kept.turn_ends.Goals.{After-step_of-v}

-- the cell that `i` names is a used one
used : (g : Over) → (c : After-step_of-v g) → (1 ≤ c.step_of-v.result) × (c.step_of-v.result < c.args.self.cells.top)
used g c = let p = c.requires in next_used _ _ c.args.self.keep (omega arith) p.2 c.step_of-v.ensures

pub turns_at-requires : goal.turns_at-requires
turns_at-requires g c = let u = (used g (goal.at.turns_at-requires g c).After-step_of-v).1 in omega arith

pub returns-then-not-turns_at : goal.returns-then-not-turns_at
returns-then-not-turns_at g c =
    settled _ _ _ _ (λ t. absurd (false≢true (sym c.if-not-turns_at.true ∙ c.turns_at.ensures ∙ ap (turns_at _ _) c.step_of-v.ensures ∙ t))) c.requires.4

pub contains-requires : goal.contains-requires
contains-requires g c = let u = (used g (goal.at.contains-requires g c).After-step_of-v).1 in let l = c.requires.4.long in omega arith

pub returns-then-contains : goal.returns-then-contains
returns-then-contains g c =
    let k = c.requires.4 in
    settled _ _ _ _ (λ _. ends_back _ _ (subst (Ends _) c.step_of-v.ensures (k.noted _ (eqb-true _ _ (sym c.contains.ensures ∙ c.if-contains.true))))) k

pub chain_ends-requires : goal.chain_ends-requires
chain_ends-requires g c =
    let p = c.requires in
    let u = used g (goal.at.chain_ends-requires g c).After-step_of-v in
    (set_fits _ p.6, (u.0, u.1, p.3, p.4, p.5, p.6))

pub returns : goal.returns
returns g c =
    let h = turns_higher _ _ _ (sym c.turns_at.ensures ∙ c.if-not-turns_at.false) in
    settled_found _ _ _ _ c.step_of-v.ensures (omega arith) (used g (goal.at.returns g c).After-step_of-v).1 _ c.chain_ends.ensures
