-- A run of calls as the firmware makes it: from a fresh store, with every lent word and count handed on from call to call, the work buffer too.
use Rattle.std.specs.Prelude.{true, false, List, ℕ}
use Rattle.trail.specs.State.{State, state_of, Outcome, fresh}
use Rattle.append.specs.Calls.{appending}
use Rattle.marks.specs.Calls.{marking, cutting, rolling}
use Rattle.unification.specs.Calls.{Result, plainly, checkedly}
use Rattle.copy.specs.Calls as Copy
use Rattle.replay.specs.History.{Call, append, mark, unify, copy, cut, rollback, Event, Trace, start, ◌▸◌}

-- all that is lent: cells, trail and marks with their counts, and the work buffer
pub record Lent : Type 0 where
  pub state : State
  pub work : List ℕ

-- these, put together
abbrev pub lent : State → List ℕ → Lent
lent s work = record { state = s; work = work }

-- a call that is lent no work buffer
abbrev pub without : List ℕ → Outcome × State → Outcome × Lent
without work r = (r.0, lent r.1 work)

-- unify is lent all
abbrev pub with : Result → Outcome × Lent
with r = (r.0, lent r.1 r.2)

-- copy is lent no trail and no marks
abbrev pub besides : State → Outcome × Copy.Lent → Outcome × Lent
besides s r = (r.0, lent (state_of r.1.cells r.1.top s.trail s.trailed s.marks s.marked) r.1.work)

-- a call: what it answers, and all that is lent after it
unfoldable pub calling : Lent → Call → Outcome × Lent
calling l (append ws) = without l.work (appending l.state ws)
calling l mark = without l.work (marking l.state)
calling l (unify false x y) = with (plainly l.state l.work x y)
calling l (unify true x y) = with (checkedly l.state l.work x y)
calling l (copy x) = besides l.state (Copy.copying (Copy.lent l.state.cells l.state.top l.work) x)
calling l (cut k) = without l.work (cutting l.state k)
calling l (rollback k) = without l.work (rolling l.state k)

-- how many words of cells, trail and marks are lent
pub record Lengths : Type 0 where
  pub cells : ℕ
  pub trail : ℕ
  pub marks : ℕ

-- a run from the fresh store of these lengths, with these words in the work buffer
module _ (n : Lengths) (work : List ℕ) where
  -- all that is lent, after these calls
  unfoldable pub after : Trace Call → Lent
  after start = lent (fresh n.cells n.trail n.marks) work
  after (h ▸ c) = (calling (after h) c).1

  -- the calls with their answers
  unfoldable pub answered : Trace Call → Trace Event
  answered start = start
  answered (h ▸ c) = answered h ▸ record { call = c; outcome = (calling (after h) c).0 }
