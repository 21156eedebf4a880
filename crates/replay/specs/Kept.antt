-- The striking rule with the struck lines left out at once: what the proof goes by.
use Rattle.std.specs.Prelude.{cond, ℕ}
use Rattle.trail.specs.State.{Outcome, done, failed, refused}
use Rattle.replay.specs.History.{Call, append, mark, unify, copy, cut, rollback, Event, Trace, start, ◌▸◌, sets}

-- a history up to the latest call that set mark k
unfoldable pub back_to : ℕ → Trace Event → Trace Event
back_to k start = start
back_to k (h ▸ e) = cond (sets k e.call e.outcome) (h ▸ e) (back_to k h)

-- one call more
unfoldable pub keep : Trace Event → Call → Outcome → Trace Event
keep h c failed = h
keep h c (refused n) = h
keep h (rollback k) (done n) = back_to k h
keep h (append ws) (done n) = h ▸ record { call = append ws; outcome = done n }
keep h mark (done n) = h ▸ record { call = mark; outcome = done n }
keep h (unify b x y) (done n) = h ▸ record { call = unify b x y; outcome = done n }
keep h (copy x) (done n) = h ▸ record { call = copy x; outcome = done n }
keep h (cut k) (done n) = h ▸ record { call = cut k; outcome = done n }

-- of a whole history
unfoldable pub kept : Trace Event → Trace Event
kept start = start
kept (h ▸ e) = keep (kept h) e.call e.outcome
