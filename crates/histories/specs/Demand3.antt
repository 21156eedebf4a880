-- What was undone leaves no trace. Take any run of appends, marks, unifications, copies, cuts and rollbacks from a fresh store, buffers and counts handed on untouched, each buffer of fixed length. Strike each refused or failed call, each rollback done, and what came between the mark it went back to and that rollback. Replaying the rest gives the same cells, trail, marks and counts, word for word, and no rollback to a standing mark is refused.
-- The calls and the run are those of specs/Calls.antt; what is struck is `logbook`, and which marks stand is `standing`, of specs/History.antt in the crate replay. A check, a follow, a cycle verdict or a number cell changes no lent word and is left out of a run.
-- The theorem stands in proofs/Demand3.antt.
use Rattle.std.specs.Prelude.{◌≡◌, true, List, ℕ, ◌≤◌, length}
use Rattle.trail.specs.State.{done, holds}
use Rattle.replay.specs.History.{Call, rollback, Event, Trace, calls, logbook, unstruck, standing}
use Rattle.histories.specs.Calls.{calling, Lengths, after, answered}
use Rattle.histories.specs.Fixed.{Fixed}

-- the rest: what is not struck from the history of a run
abbrev pub rest : Lengths → List ℕ → Trace Call → Trace Event
rest n work h = unstruck (logbook (answered n work h))

-- of the run h from the fresh store of these lengths, with these words in the work buffer:
pub record Replays (n : Lengths) (work : List ℕ) (h : Trace Call) : Type 0 where
  -- replaying the rest gives the same cells, trail, marks and counts, whatever the words of a work buffer of the same length
  pub same : (again : List ℕ) → length again ≡ length work → (after n again (calls (rest n work h))).state ≡ (after n work h).state
  -- and the same answers, so none of it is refused
  pub answers : (again : List ℕ) → length again ≡ length work → answered n again (calls (rest n work h)) ≡ rest n work h
  -- a rollback to a standing mark is done
  pub back : (k : ℕ) → 1 ≤ k → k ≤ standing (answered n work h) → (calling (after n work h) (rollback k)).0 ≡ done 0
  -- the store keeps its rules, and each buffer its length
  pub rules : holds (after n work h).state ≡ true
  pub fixed : Fixed n (after n work h).state
  pub work_fixed : length (after n work h).work ≡ length work
