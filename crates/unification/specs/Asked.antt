-- From a call's result to what it rests on: what a call that is not refused may rely on, and the ending of its run.
-- The theorems stand in proofs/Asked.antt.
use Rattle.std.proofs.Math.Path.{◌≡◌}
use Rattle.std.specs.Prelude.{List, ℕ, ◌+◌, ◌≤◌, length}
use Rattle.std.proofs.Math.Bool.{true}
use Rattle.store.specs.Store.{term_at}
use Rattle.trail.specs.State.{State}
use Rattle.trail.specs.Facts.{Holds}
use Rattle.chains.specs.Work.{work_need}
use Rattle.unification.specs.Calls.{unbound}

-- no refusal from 1 to 5 holds
pub record Asked (s : State) (work : List ℕ) (a b : ℕ) : Type 0 where
  pub held : Holds s
  pub left : term_at s.cells s.top a ≡ true
  pub right : term_at s.cells s.top b ≡ true
  pub wide : work_need s.top ≤ length work
  pub room : s.trailed + unbound s.cells s.top ≤ length s.trail
