-- Unify and copy obey the law of a replay, with any work buffer: a yes and a copy only add, a no and a refusal change nothing.
use Rattle.std.specs.Prelude.{◌≡◌, Bool, ◌&&◌, List, leb, length, replicate, Ok, Err}
use Rattle.std.proofs.Math.Path.{refl}
use Rattle.std.proofs.Common.{◌∙◌, arith, leb-true}
use Rattle.std.proofs.Math.Bool.{true, false}
use Prim.Native.Nat.{ℕ, ◌+◌, ◌≤◌}
use Rattle.cell.specs.declared.Refusal.TheVariants.{Cells, Root, Work, Room}
use Rattle.store.specs.Store.{limit, term_at, well_formed}
use Rattle.store.specs.WellFormed.{parts, whole}
use Rattle.trail.specs.State.{State, done, need, ◌then◌, unless, Answer}
use Rattle.trail.specs.Facts.{Holds, holds_parts, holds_whole}
use Rattle.cycle.specs.Room.{room_of}
use Rattle.chains.specs.Work.{work_need, cleared}
use Rattle.unification.specs.Machine.{Machine, Ending, yes, clashes, occurs, late, unified}
use Rattle.unification.specs.Calls.{plain_check, checked_check, left_by, answered, unless_refused, plainly, checkedly}
use Rattle.unification.proofs.Asked.{plain_says, checked_says, answered_yes}
use Rattle.unification.specs.Theorems.{Leaves}
use Rattle.unification.proofs.Theorems.{plain_leaves, checked_leaves}
use Rattle.copy.specs.Rules.{copied}
use Rattle.copy.specs.Inv.{Given}
use Rattle.copy.specs.Whole.{all_copied}
use Rattle.copy.specs.Promise.{copy_promise}
use Rattle.copy.specs.Calls as Copy
use Rattle.replay.specs.History.{unify, copy}
use Rattle.replay.specs.Law.{Adds, Obeys, Lawful}
use Rattle.replay.specs.Grown.{grown, grown_adds}
use Rattle.histories.specs.Calls.{lent, with, besides, calling, Lengths}
use Rattle.histories.specs.Work.{bare, engine}

-- ---- unify
leaves_adds : (s t : State) → Leaves s t → Adds s t
leaves_adds s t l =
    let w = l.wrote in
    let e = l.top_same in
    record {
      cells_length = w.cells_size;
      trail_length = w.trail_size;
      top_kept = omega arith;
      trailed_kept = w.more;
      trail_same = w.before;
      cell_same = λ j _. w.same j;
      unbound = λ i a b _. w.free i a b;
      marks_same = l.marks_same;
      marked_same = l.marked_same;
      keeps = holds_whole t l.rules;
    }

module _ (s : State) (w : List ℕ) where
  by_ending : (c : Answer) (o : Ending) → ((m : Machine) → c ≡ Ok tt → o ≡ yes m → Leaves s (left_by s m)) → Obeys s (bare (with (unless_refused c s w (answered s w o))))
  unfolding answered Obeys
  by_ending (Ok tt) (yes m) f = leaves_adds s (left_by s m) (f m refl refl)
  by_ending (Ok tt) clashes f = refl
  by_ending (Ok tt) occurs f = refl
  by_ending (Ok tt) late f = refl
  by_ending (Err e) o f = refl

  module _ (x y : ℕ) where
    plain_obeys : Obeys s (bare (calling (lent s w) (unify false x y)))
    unfolding calling plainly
    plain_obeys = by_ending (plain_check s w x y) (unified false s x y) (λ m c e. (plain_leaves s w x y (left_by s m) (cleared (work_need s.top) w) (plain_says s w x y c ∙ answered_yes s w x y (unified false s x y) m e)).0)

    checked_obeys : Obeys s (bare (calling (lent s w) (unify true x y)))
    unfolding calling checkedly
    checked_obeys = by_ending (checked_check s w x y) (unified true s x y) (λ m c e. (checked_leaves s w x y (left_by s m) (cleared (work_need s.top) w) (checked_says s w x y c ∙ answered_yes s w x y (unified true s x y) m e)).0)

  pub unify_obeys : (b : Bool) (x y : ℕ) → Obeys s (bare (calling (lent s w) (unify b x y)))
  unify_obeys false x y = plain_obeys x y
  unify_obeys true x y = checked_obeys x y

-- ---- copy
module _ (s : State) (h : Holds s) (x : ℕ) where
  -- a copy keeps the lengths and the old cells, and the store stays well formed
  copy_adds : Given s.cells s.top x → Adds s (grown s (copied s.cells s.top x).cells (copied s.cells s.top x).end)
  copy_adds g =
      let c = copied s.cells s.top x in
      let p = copy_promise g in
      let r = p.room in
      grown_adds s h c.cells c.end (whole c.cells c.end p.well_formed_lem) (all_copied g).long (omega arith) p.old

  pub copy_obeys : (w : List ℕ) → Obeys s (bare (calling (lent s w) (copy x)))
  unfolding calling Copy.copying Obeys
  copy_obeys w = go (term_at s.cells s.top x) refl (leb (work_need s.top) (length w)) (leb up limit) refl (leb up (length s.cells)) refl
    where
      up : ℕ
      up = s.top + room_of s.cells s.top x

      l : Copy.Lent
      l = Copy.lent s.cells s.top w

      go : (a : Bool) → term_at s.cells s.top x ≡ a → (b : Bool) (c : Bool) → leb up limit ≡ c → (d : Bool) → leb up (length s.cells) ≡ d → Obeys s (bare (besides s (unless (need (well_formed s.cells s.top) Cells then need a Root then need b Work then need (c && d) Room) l (done s.top, Copy.grown l x))))
      go true t true true u true v = rw h.cells_good (copy_adds (record { wf = parts s.cells s.top h.cells_good; term = t; fits = leb-true up (length s.cells) v; lim = leb-true up limit u }))
      go true t true true u false v = rw h.cells_good refl
      go true t true false u d v = rw h.cells_good refl
      go true t false c u d v = rw h.cells_good refl
      go false t b c u d v = rw h.cells_good refl

-- ---- the engine
pub lawful : (n : Lengths) (z : ℕ) → 1 ≤ n.cells → Lawful (engine n z)
lawful n z r =
    record {
      some_room = r;
      copies = λ s h x. copy_obeys s (holds_parts s h) x (replicate z 0);
      unifies = λ s h b x y. unify_obeys s (replicate z 0) b x y;
    }
