-- The promise of a replay, for any unify and copy that obey the law: from a fresh store, what is not struck from a history gives the same cells, trail, marks and counts again, word for word.
-- The theorem stands in proofs/Promise.antt.
use Rattle.std.specs.Prelude.{◌≡◌, true, ℕ, ◌≤◌}
use Rattle.trail.specs.State.{done, holds}
use Rattle.replay.specs.History.{Call, rollback, Trace, Engine, step, run, history, calls, logbook, unstruck, standing}

-- of any run of calls from the fresh store:
pub record ReplayPromise (E : Engine) (h : Trace Call) : Type 0 where
  -- replaying what is not struck gives the same cells, trail, marks and counts
  pub same : run E (calls (unstruck (logbook (history E h)))) ≡ run E h
  -- with the same answers, so none of it is refused
  pub answers : history E (calls (unstruck (logbook (history E h)))) ≡ unstruck (logbook (history E h))
  -- a rollback to a standing mark is done
  pub back : (k : ℕ) → 1 ≤ k → k ≤ standing (history E h) → (step E (run E h) (rollback k)).0 ≡ done 0
  -- and the store keeps its rules
  pub rules : holds (run E h) ≡ true
