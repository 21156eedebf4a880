-- Each buffer keeps its length.
use Rattle.std.specs.Prelude.{◌≡◌, ◌&&◌, ℕ, ◌-◌, ◌*◌, ◌≤◌}
use Rattle.std.proofs.Common.{sym, ◌∙◌, arith, leb-true}
use Rattle.std.proofs.Math.Path.{ap, subst}
use Rattle.std.proofs.Math.Bool.{true, and-eq-true_iff}
use Rattle.std.proofs.Math.Dec.{leb}
use Rattle.std.proofs.Math.ListN.{length, length-replicate}
use Rattle.cell.specs.declared.Refusal.TheVariants.{Room, Mark, Left}
use Rattle.store.specs.Zeros.{length_zeroed}
use Rattle.store.specs.WellFormed.{parts}
use Rattle.trail.specs.Rules.{mark_width, mark_top, mark_trail}
use Rattle.trail.specs.State.{State, Outcome, done, failed, refused, holds}
use Rattle.trail.specs.Facts.{Holds, holds_parts, holds_whole, unless_one, unless_two}
use Rattle.append.specs.Calls.{appending}
use Rattle.marks.specs.Calls.{marking, cutting, roll_check, rolling, rolled, room_to_mark}
use Rattle.marks.specs.Unbind.{length_unbind}
use Rattle.replay.specs.History.{Call, append, mark, unify, copy, cut, rollback, Trace, start, ◌▸◌, Engine, step, run}
use Rattle.replay.specs.Law.{Obeys, Lawful}
use Rattle.replay.specs.Grown.{by_bool, append_obeys}
use Rattle.replay.specs.Ext.{noted_length}
use Rattle.replay.proofs.Theorem.{run_holds}
use Rattle.histories.specs.Calls.{Lengths}

-- the cells, the trail and the marks have these lengths
pub record Fixed (n : Lengths) (s : State) : Type 0 where
  pub cells : length s.cells ≡ n.cells
  pub trail : length s.trail ≡ n.trail
  pub marks : length s.marks ≡ n.marks

module _ (n : Lengths) (s : State) (f : Fixed n s) where
  abbrev After : Outcome × State → Type 0
  After r = Fixed n r.1

  obeys_fixed : (o : Outcome) (t : State) → Obeys s (o, t) → Fixed n t
  unfolding Obeys
  obeys_fixed (done k) t a = record { cells = a.cells_length ∙ f.cells; trail = a.trail_length ∙ f.trail; marks = ap length a.marks_same ∙ f.marks }
  obeys_fixed failed t e = subst (Fixed n) (sym e) f
  obeys_fixed (refused r) t e = subst (Fixed n) (sym e) f

  module _ (h : Holds s) where
    mark_fixed : After (marking s)
    unfolding marking
    mark_fixed =
        subst After (sym (unless_one s h _ (room_to_mark s) Room))
        (by_bool After (room_to_mark s) _ _ (λ b. record { cells = f.cells; trail = f.trail; marks = noted_length s (leb-true _ _ b) ∙ f.marks }) (λ _. f))

    -- marks up to k have room
    marks_room : (k : ℕ) → k ≤ s.marked → mark_width * k ≤ length s.marks
    marks_room k l = let r = h.marks_good_lem.fits in omega arith

    cut_fixed : (k : ℕ) → After (cutting s k)
    unfolding cutting
    cut_fixed k =
        subst After (sym (unless_one s h _ (leb k s.marked) Mark))
        (by_bool After (leb k s.marked) _ _ (λ b. record { cells = f.cells; trail = f.trail; marks = length_zeroed (mark_width * k) s.marks (marks_room k (leb-true _ _ b)) ∙ f.marks }) (λ _. f))

    rolled_fixed : (k : ℕ) → 1 ≤ k → k ≤ s.marked → Fixed n (rolled s k)
    rolled_fixed k a b =
        let t = mark_top s.marks (k - 1) in
        let c = mark_trail s.marks (k - 1) in
        let g = h.marks_good_lem.each (k - 1) (omega arith) in
        let u = g.top_within in
        let v = g.trail_within in
        let r = (parts s.cells s.top h.cells_good).room in
        let q = h.trail_good_lem.fits in
        let z = length_unbind s.trail (s.trailed - c) c s.cells in
        record {
          cells = length_zeroed t _ (omega arith) ∙ z ∙ f.cells;
          trail = length_zeroed c s.trail (omega arith) ∙ f.trail;
          marks = length_zeroed (mark_width * k) s.marks (marks_room k b) ∙ f.marks;
        }

    roll_fixed : (k : ℕ) → After (rolling s k)
    unfolding rolling roll_check
    roll_fixed k =
        subst After (sym (unless_two s h _ (leb 1 k && leb k s.marked) Mark (holds (rolled s k)) Left))
        (by_bool After (leb 1 k && leb k s.marked) _ _ (λ b. by_bool After (holds (rolled s k)) _ _ (λ _. within b) (λ _. f)) (λ _. f))
      where
        within : (leb 1 k && leb k s.marked) ≡ true → Fixed n (rolled s k)
        within b = let p = (and-eq-true_iff (leb 1 k) (leb k s.marked)).0 b in rolled_fixed k (leb-true _ _ p.0) (leb-true _ _ p.1)

-- the lengths that an engine starts with
abbrev pub lengths_of : Engine → Lengths
lengths_of E = record { cells = E.cell_room; trail = E.trail_room; marks = E.mark_room }

module _ (E : Engine) (law : Lawful E) where
  step_fixed : (n : Lengths) (s : State) → Fixed n s → Holds s → (c : Call) → Fixed n (step E s c).1
  unfolding step
  step_fixed n s f h (append ws) = obeys_fixed n s f (appending s ws).0 (appending s ws).1 (append_obeys s (holds_whole s h) ws)
  step_fixed n s f h mark = mark_fixed n s f h
  step_fixed n s f h (unify b x y) = obeys_fixed n s f (E.unifying s b x y).0 (E.unifying s b x y).1 (law.unifies s (holds_whole s h) b x y)
  step_fixed n s f h (copy x) = obeys_fixed n s f (E.copying s x).0 (E.copying s x).1 (law.copies s (holds_whole s h) x)
  step_fixed n s f h (cut k) = cut_fixed n s f h k
  step_fixed n s f h (rollback k) = roll_fixed n s f h k

  pub run_fixed : (h : Trace Call) → Fixed (lengths_of E) (run E h)
  unfolding run
  run_fixed start = record { cells = length-replicate {A = ℕ} E.cell_room 0; trail = length-replicate {A = ℕ} E.trail_room 0; marks = length-replicate {A = ℕ} E.mark_room 0 }
  run_fixed (h ▸ c) = step_fixed (lengths_of E) (run E h) (run_fixed h) (holds_parts _ (run_holds E law h)) c
