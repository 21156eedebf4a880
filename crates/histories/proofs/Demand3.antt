-- What was undone leaves no trace. Take any run of appends, marks, unifications, copies, cuts and rollbacks from a fresh store, buffers and counts handed on untouched, each buffer of fixed length. Strike each refused or failed call, each rollback done, and what came between the mark it went back to and that rollback. Replaying the rest gives the same cells, trail, marks and counts, word for word, and no rollback to a standing mark is refused.
-- The calls and the run are those of specs/Calls.antt; what is struck is `logbook`, and which marks stand is `standing`, of specs/History.antt in the crate replay. A check, a follow, a cycle verdict or a number cell changes no lent word and is left out of a run.
use Rattle.std.specs.Prelude.{◌≡◌, refl, true, List, ℕ, ◌≤◌, length}
use Rattle.std.proofs.Common.{sym, subst, ◌∙◌}
use Rattle.trail.specs.State.{State, holds}
use Rattle.replay.specs.History.{Call, rollback, Event, Trace, run, history, calls, logbook, unstruck, standing}
use Rattle.replay.proofs.Promise.{replay_promise}
use Rattle.histories.specs.Calls.{Lengths}
use Rattle.histories.specs.Work.{engine, long_after, state_is, call_is, history_is}
use Rattle.histories.proofs.Obeyed.{lawful}
use Rattle.histories.specs.Fixed.{Fixed, run_fixed}
use Rattle.histories.specs.Demand3.{rest, Replays}

-- a fresh store has one cell at least; nothing else is asked
pub demand_3 : (n : Lengths) → 1 ≤ n.cells → (work : List ℕ) (h : Trace Call) → Replays n work h
demand_3 n room work h =
    let z = length work in
    let p = replay_promise (engine n z) (lawful n z room) h in
    let is = state_is n z work refl h in
    let here = history_is n z work refl h in
    record {
      same = λ again e. state_is n z again e (calls (rest n work h)) ∙ subst (λ (l : Trace Event). run (engine n z) (calls (unstruck (logbook l))) ≡ run (engine n z) h) (sym here) p.same ∙ sym is;
      answers = λ again e. history_is n z again e (calls (rest n work h)) ∙ subst (λ (l : Trace Event). history (engine n z) (calls (unstruck (logbook l))) ≡ unstruck (logbook l)) (sym here) p.answers;
      back = λ k a b. call_is n z work refl h (rollback k) ∙ p.back k a (subst (λ (l : Trace Event). k ≤ standing l) here b);
      rules = subst (λ (s : State). holds s ≡ true) (sym is) p.rules;
      fixed = subst (Fixed n) (sym is) (run_fixed (engine n z) (lawful n z room) h);
      work_fixed = long_after n z work refl h;
    }
