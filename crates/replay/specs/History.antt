-- Runs of calls, their histories, and what is struck from a history.
use Rattle.std.specs.Prelude.{Bool, true, false, cond, List, ℕ, eqb}
use Rattle.trail.specs.State.{State, Outcome, done, failed, refused, fresh}
use Rattle.append.specs.Calls.{appending}
use Rattle.marks.specs.Calls.{marking, cutting, rolling}

-- the calls
pub data Call : Type 0 where
  append : List ℕ → Call
  mark : Call
  unify : Bool → ℕ → ℕ → Call
  copy : ℕ → Call
  cut : ℕ → Call
  rollback : ℕ → Call

-- a call with what it answered
pub record Event : Type 0 where
  pub call : Call
  pub outcome : Outcome

-- one thing after the other, the oldest first: start ▸ a ▸ b ▸ c
infixl 20 ◌▸◌
pub data Trace (A : Type 0) : Type 0 where
  start : Trace A
  ◌▸◌ : Trace A → A → Trace A

-- ---- the striking rule, on histories alone
-- whether the call set mark number k
unfoldable pub sets : ℕ → Call → Outcome → Bool
sets k (append ws) o = false
sets k mark (done n) = eqb n k
sets k mark failed = false
sets k mark (refused n) = false
sets k (unify b x y) o = false
sets k (copy x) o = false
sets k (cut j) o = false
sets k (rollback j) o = false

-- a line of the logbook: a call with its answer, struck out or not
pub record Line : Type 0 where
  pub event : Event
  pub struck : Bool

-- these, put together
abbrev pub line : Call → Outcome → Bool → Line
line c o b = record { event = record { call = c; outcome = o }; struck = b }

-- strike each line after the latest that set mark k: that is the mark k that stands, for its number is given again only once it is dropped
unfoldable pub strike_back : ℕ → Trace Line → Trace Line
strike_back k start = start
strike_back k (h ▸ l) = cond (sets k l.event.call l.event.outcome) (h ▸ l) (strike_back k h ▸ record { event = l.event; struck = true })

-- one line more: struck where the call was refused or failed; a rollback done is struck, with what came between its mark and it
unfoldable pub write : Trace Line → Call → Outcome → Trace Line
write h c failed = h ▸ line c failed true
write h c (refused n) = h ▸ line c (refused n) true
write h (rollback k) (done n) = strike_back k h ▸ line (rollback k) (done n) true
write h (append ws) (done n) = h ▸ line (append ws) (done n) false
write h mark (done n) = h ▸ line mark (done n) false
write h (unify b x y) (done n) = h ▸ line (unify b x y) (done n) false
write h (copy x) (done n) = h ▸ line (copy x) (done n) false
write h (cut k) (done n) = h ▸ line (cut k) (done n) false

-- a history with its lines struck
unfoldable pub logbook : Trace Event → Trace Line
logbook start = start
logbook (h ▸ e) = write (logbook h) e.call e.outcome

-- the rest
unfoldable pub unstruck : Trace Line → Trace Event
unstruck start = start
unstruck (h ▸ l) = cond l.struck (unstruck h) (unstruck h ▸ l.event)

-- ---- how many marks stand after a history: those numbered 1 to this
unfoldable pub standing_after : ℕ → Call → Outcome → ℕ
standing_after m c failed = m
standing_after m c (refused n) = m
standing_after m mark (done n) = n
standing_after m (cut k) (done n) = k
standing_after m (rollback k) (done n) = k
standing_after m (append ws) (done n) = m
standing_after m (unify b x y) (done n) = m
standing_after m (copy x) (done n) = m

-- after a whole history
unfoldable pub standing : Trace Event → ℕ
standing start = 0
standing (h ▸ e) = standing_after (standing h) e.call e.outcome

-- the calls of a history, without their answers
unfoldable pub calls : Trace Event → Trace Call
calls start = start
calls (h ▸ e) = calls h ▸ e.call

-- ---- running calls
-- unify and copy, each as what it answers and leaves, and the fixed lengths of the lent cells, trail and marks
pub record Engine : Type 0 where
  pub unifying : State → Bool → ℕ → ℕ → Outcome × State
  pub copying : State → ℕ → Outcome × State
  pub cell_room : ℕ
  pub trail_room : ℕ
  pub mark_room : ℕ

module _ (E : Engine) where
  -- one call: what it answers, and the state after it
  unfoldable pub step : State → Call → Outcome × State
  step s (append ws) = appending s ws
  step s mark = marking s
  step s (unify b x y) = E.unifying s b x y
  step s (copy x) = E.copying s x
  step s (cut k) = cutting s k
  step s (rollback k) = rolling s k

  -- the state after these calls from the fresh store
  unfoldable pub run : Trace Call → State
  run start = fresh E.cell_room E.trail_room E.mark_room
  run (h ▸ c) = (step (run h) c).1

  -- the calls with their answers
  unfoldable pub history : Trace Call → Trace Event
  history start = start
  history (h ▸ c) = history h ▸ record { call = c; outcome = (step (run h) c).0 }
