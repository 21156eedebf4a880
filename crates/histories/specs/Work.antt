-- Of the work buffer only the length counts: with other words of that length a call answers the same and leaves the same state, and it leaves a buffer of that length. So a run with a work buffer is a run of the engine that is handed zeros at each call.
use Rattle.std.specs.Prelude.{◌≡◌, Bool, true, false, List, ℕ, ◌-◌, ◌≤◌, leb, length, replicate, Ok, Err}
use Rattle.std.proofs.Math.Path.{refl, sym, ap}
use Rattle.std.proofs.Common.{◌∙◌, leb-true}
use Rattle.std.proofs.lemmas.List.{length-replicate}
use Rattle.cell.specs.declared.Refusal.TheVariants.{Cells, Root, Work, TrailRoom, Room}
use Rattle.store.specs.Store.{term_at, well_formed}
use Rattle.trail.specs.State.{State, Outcome, done, check_of, need, ◌then◌, unless, Answer}
use Rattle.append.specs.Calls.{room_for}
use Rattle.cycle.specs.Room.{room_of}
use Rattle.chains.specs.Work.{work_need}
use Rattle.unification.specs.Machine.{Ending, yes, clashes, occurs, late, unified}
use Rattle.unification.specs.Calls.{unbound, plain_check, checked_check, answered, unless_refused, plainly, checkedly}
use Rattle.unification.proofs.Asked.{asked, checked_asked}
use Rattle.chains.specs.Cleared.{cleared_long}
use Rattle.copy.specs.Calls as Copy
use Rattle.replay.specs.History.{Call, append, mark, unify, copy, cut, rollback, Trace, start, ◌▸◌, Engine, step, run, history}
use Rattle.histories.specs.Calls.{Lent, lent, with, besides, calling, Lengths, after}
use Rattle.histories.specs.Calls as Real

-- an outcome and the state, without the work words
abbrev pub bare : Outcome × Lent → Outcome × State
bare r = (r.0, r.1.state)

-- ---- unify
-- the refusals ask for the length alone
module _ (s : State) (v w : List ℕ) (e : length v ≡ length w) (x y : ℕ) where
  plain_check_lem : plain_check s v x y ≡ plain_check s w x y
  unfolding plain_check
  plain_check_lem = ap (λ (n : ℕ). check_of s then need (term_at s.cells s.top x) Root then need (term_at s.cells s.top y) Root then need (leb (work_need s.top) n) Work then need (leb (unbound s.cells s.top) (length s.trail - s.trailed)) TrailRoom) e

  checked_check_lem : checked_check s v x y ≡ checked_check s w x y
  unfolding checked_check
  checked_check_lem = rw plain_check_lem

module _ (s : State) (v w : List ℕ) where
  same_answered : (c : Answer) (o : Ending) → bare (with (unless_refused c s v (answered s v o))) ≡ bare (with (unless_refused c s w (answered s w o)))
  unfolding answered
  same_answered (Ok tt) (yes m) = refl
  same_answered (Ok tt) clashes = refl
  same_answered (Ok tt) occurs = refl
  same_answered (Ok tt) late = refl
  same_answered (Err e) o = refl

module _ (s : State) (w : List ℕ) where
  long_answered : (c : Answer) (o : Ending) → (c ≡ Ok tt → work_need s.top ≤ length w) → length (unless_refused c s w (answered s w o)).2 ≡ length w
  unfolding answered
  long_answered (Ok tt) (yes m) f = cleared_long (work_need s.top) w (f refl)
  long_answered (Ok tt) clashes f = cleared_long (work_need s.top) w (f refl)
  long_answered (Ok tt) occurs f = cleared_long (work_need s.top) w (f refl)
  long_answered (Ok tt) late f = cleared_long (work_need s.top) w (f refl)
  long_answered (Err e) o f = refl

-- ---- copy
module _ (s : State) (x : ℕ) where
  abbrev copy_of : List ℕ → Answer → Outcome × Lent
  copy_of w a = let l = Copy.lent s.cells s.top w in besides s (unless a l (done s.top, Copy.grown l x))

  same_copy : (v w : List ℕ) (a : Answer) → bare (copy_of v a) ≡ bare (copy_of w a)
  same_copy v w (Ok tt) = refl
  same_copy v w (Err e) = refl

  abbrev flaw_by : ℕ → Answer
  flaw_by n =
      need (well_formed s.cells s.top) Cells
      then need (term_at s.cells s.top x) Root
      then need (leb (work_need s.top) n) Work
      then need (room_for s.cells s.top (room_of s.cells s.top x)) Room

  long_copy : (w : List ℕ) → length (copy_of w (flaw_by (length w))).1.work ≡ length w
  long_copy w = go (well_formed s.cells s.top) (term_at s.cells s.top x) (leb (work_need s.top) (length w)) refl (room_for s.cells s.top (room_of s.cells s.top x))
    where
      go : (a b c : Bool) → leb (work_need s.top) (length w) ≡ c → (d : Bool) → length (copy_of w (need a Cells then need b Root then need c Work then need d Room)).1.work ≡ length w
      go true true true e true = cleared_long (work_need s.top) w (leb-true (work_need s.top) (length w) e)
      go true true true e false = refl
      go true true false e d = refl
      go true false c e d = refl
      go false b c e d = refl

-- ---- any call
-- with other words of that length it answers the same and leaves the same state
pub same_work : (s : State) (v w : List ℕ) → length v ≡ length w → (c : Call) → bare (calling (lent s v) c) ≡ bare (calling (lent s w) c)
unfolding calling plainly checkedly Copy.copying
same_work s v w e (append ws) = refl
same_work s v w e mark = refl
same_work s v w e (unify false x y) = same_answered s v w (plain_check s v x y) (unified false s x y) ∙ ap (λ (c : Answer). bare (with (unless_refused c s w (answered s w (unified false s x y))))) (plain_check_lem s v w e x y)
same_work s v w e (unify true x y) = same_answered s v w (checked_check s v x y) (unified true s x y) ∙ ap (λ (c : Answer). bare (with (unless_refused c s w (answered s w (unified true s x y))))) (checked_check_lem s v w e x y)
same_work s v w e (copy x) = same_copy s x v w (flaw_by s x (length v)) ∙ ap (λ (n : ℕ). bare (copy_of s x w (flaw_by s x n))) e
same_work s v w e (cut k) = refl
same_work s v w e (rollback k) = refl

-- and it leaves a buffer of that length
pub long_work : (s : State) (w : List ℕ) (c : Call) → length (calling (lent s w) c).1.work ≡ length w
unfolding calling plainly checkedly Copy.copying
long_work s w (append ws) = refl
long_work s w mark = refl
long_work s w (unify false x y) = long_answered s w (plain_check s w x y) (unified false s x y) (λ c. (asked s w x y c).wide)
long_work s w (unify true x y) = long_answered s w (checked_check s w x y) (unified true s x y) (λ c. (checked_asked s w x y c).0.wide)
long_work s w (copy x) = long_copy s x w
long_work s w (cut k) = refl
long_work s w (rollback k) = refl

-- ---- the engine of these calls, with a work buffer of z words that are all 0
abbrev pub engine : Lengths → ℕ → Engine
engine n z = record { unifying = λ s b x y. bare (calling (lent s (replicate z 0)) (unify b x y)); copying = λ s x. bare (calling (lent s (replicate z 0)) (copy x)); cell_room = n.cells; trail_room = n.trail; mark_room = n.marks }

module _ (n : Lengths) (z : ℕ) where
  -- a call is a step of it
  step_is : (l : Lent) → length l.work ≡ z → (c : Call) → bare (calling l c) ≡ step (engine n z) l.state c
  unfolding calling step
  step_is l e (append ws) = refl
  step_is l e mark = refl
  step_is l e (unify b x y) = same_work l.state l.work (replicate z 0) (e ∙ sym (length-replicate {A = ℕ} z 0)) (unify b x y)
  step_is l e (copy x) = same_work l.state l.work (replicate z 0) (e ∙ sym (length-replicate {A = ℕ} z 0)) (copy x)
  step_is l e (cut k) = refl
  step_is l e (rollback k) = refl

  module _ (work : List ℕ) (e : length work ≡ z) where
    -- the buffer keeps its length
    pub long_after : (h : Trace Call) → length (after n work h).work ≡ z
    unfolding after
    long_after start = e
    long_after (h ▸ c) = long_work (after n work h).state (after n work h).work c ∙ long_after h

    -- and a run goes the engine's way, whatever words it holds
    pub state_is : (h : Trace Call) → (after n work h).state ≡ run (engine n z) h
    unfolding after run
    state_is start = refl
    state_is (h ▸ c) = ap (λ (r : Outcome × State). r.1) (step_is (after n work h) (long_after h) c) ∙ ap (λ (s : State). (step (engine n z) s c).1) (state_is h)

    pub call_is : (h : Trace Call) (c : Call) → (calling (after n work h) c).0 ≡ (step (engine n z) (run (engine n z) h) c).0
    call_is h c = ap (λ (r : Outcome × State). r.0) (step_is (after n work h) (long_after h) c) ∙ ap (λ (s : State). (step (engine n z) s c).0) (state_is h)

    pub history_is : (h : Trace Call) → Real.answered n work h ≡ history (engine n z) h
    unfolding Real.answered history
    history_is start = refl
    history_is (h ▸ c) = λ i. history_is h i ▸ record { call = c; outcome = call_is h c i }
