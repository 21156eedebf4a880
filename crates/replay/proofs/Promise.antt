-- The promise of a replay, for any unify and copy that obey the law: from a fresh store, what is not struck from a history gives the same cells, trail, marks and counts again, word for word.
use Rattle.std.specs.Prelude.{ℕ, ◌≤◌}
use Rattle.std.proofs.Common.{subst, sym}
use Rattle.replay.specs.History.{Call, Trace, Engine}
use Rattle.replay.specs.Law.{Lawful}
use Rattle.replay.proofs.Theorem.{replay_same, replay_answers, rollback_done, run_holds, run_marked}
use Rattle.replay.specs.Promise.{ReplayPromise}

pub replay_promise : (E : Engine) → Lawful E → (h : Trace Call) → ReplayPromise E h
replay_promise E law h = record { same = replay_same E law h; answers = replay_answers E law h; back = λ k a b. rollback_done E law h k a (subst (λ (m : ℕ). k ≤ m) (sym (run_marked E law h)) b); rules = run_holds E law h }
