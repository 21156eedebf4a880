-- `cycle::either_within` meets its contract: two walks, the second on the tables of the first, whose finished cells reach no cycle; it is left out if the second root is one of these.
use Rattle.std.proofs.Common.{rules, ◌≡◌, Bool, true, false, ◌||◌, arith, ℕ}
use Rattle.store.specs.WellFormed.{parts}
use Rattle.store.specs.Steps.{term_used}
use Rattle.cycle.specs.Verdict.{cyclic_at}
use Rattle.cycle.specs.Graph.{Accessible}
use Rattle.cycle.specs.Links.{Link}
use Rattle.cycle.specs.Tables.{Done, NoneMet, none_met, none_done, fresh}
use Rattle.cycle.specs.Answers.{walked_verdict}
use Rattle.cycle.proofs.Walking.{walked_before}
use Rattle.cycle.proofs.either_within.Goals as goal
use Rattle.cycle.proofs.either_within.Goals.{After-new-tables, After-walk}

or_first : (a b x : Bool) → x ≡ a → x ≡ true → true ≡ (a || b)
or_first a b x p t = rw (← p, t)

or_second : (a b x y : Bool) → x ≡ a → x ≡ false → y ≡ b → y ≡ (a || b)
or_second a b x y p f q = rw (← p, f) q

-- before the first walk
unmet : {g : _} (c : After-new-tables g) → NoneMet c.new-tables.result.colours
unmet {g} c x = rw c.new-tables.ensures (none_met g.row.N x)

-- what the first walk answers
first : {g : _} (c : After-walk g) → let s = c.args.store.cells in c.walk.result.cycle ≡ cyclic_at s.words.now s.top c.args.a
first {g} c =
    walked_verdict (parts _ _ c.args.store.whole) c.requires.2 c.walk.ensures.0 (λ x d. absurd (none_done _ (unmet (goal.at.After-walk g c).After-new-tables) x d))

-- where it meets no cycle
straight : {g : _} (c : After-walk g) → c.walk.result.cycle ≡ false → (x : ℕ) → Done c.walk.new.self.colours x → Accessible (Link c.args.store.cells.words.now) x
straight {g} c f = c.walk.ensures.0.no_straight f (λ x d. absurd (none_done _ (unmet (goal.at.After-walk g c).After-new-tables) x d))

pub walk-requires : goal.walk-requires
walk-requires g c =
    let p = c.requires in
    let u = term_used _ _ _ p.2 in
    (omega arith, (u.0, u.1, p.0, p.1, rw c.new-tables.ensures (fresh _ g.row.N), unmet (goal.at.walk-requires g c).After-new-tables _))

pub returns-then-walk : goal.returns-then-walk
returns-then-walk g c = or_first _ _ _ (first (goal.at.returns-then-walk g c).After-walk) c.if-walk.true

pub bounds-tables-b : goal.bounds-tables-b
bounds-tables-b g c = let p = c.requires in omega (arith, term_used _ _ _ p.3)

pub returns-then-ne : goal.returns-then-ne
returns-then-ne g c =
    let p = c.requires in
    or_second _ _ _ _ (first (goal.at.returns-then-ne g c).After-walk) c.if-walk.false
    (walked_verdict (parts _ _ c.args.store.whole) p.3 (walked_before _ c.walk.ensures.0.tables (search rules)) (straight (goal.at.returns-then-ne g c).After-walk c.if-walk.false))

pub walk-requires-2 : goal.walk-requires-2
walk-requires-2 g c =
    let p = c.requires in
    let u = term_used _ _ _ p.3 in
    (omega arith, (u.0, u.1, p.0, p.1, c.walk.ensures.0.tables, search rules))

pub returns : goal.returns
returns g c =
    let p = c.requires in
    or_second _ _ _ _ (first (goal.at.returns g c).After-walk) c.if-walk.false
    (walked_verdict (parts _ _ c.args.store.whole) p.3 c.walk-2.ensures.0 (straight (goal.at.returns g c).After-walk c.if-walk.false))
