-- What copying comes to, case by case, from what the code has found and left.
use Rattle.std.specs.Prelude.{◌≡◌, Bool, true, false, List, ℕ, ◌+◌, ◌<◌, ◌≤◌, length, leb, ◌-◌, refl}
use Rattle.std.proofs.Common.{sym, ap, arith}
use Rattle.std.proofs.Math.Bool.{and-eq-true_iff, and-false}
use borrow.Author.Tests.{lt-leb, le-leb, leb-true, leb-false}
use Rattle.cell.specs.declared.Refusal.TheVariants.{Cells, Root, Work, Room}
use Rattle.store.specs.Store.{limit, term_at, well_formed}
use Rattle.store.specs.WellFormed.{parts}
use Rattle.trail.specs.State.{done, refused}
use Rattle.append.specs.Calls.{room_for}
use Rattle.cycle.specs.Room.{room_of}
use Rattle.chains.specs.Work.{work_need, cleared}
use Rattle.copy.specs.Rules.{copied}
use Rattle.copy.specs.Calls.{Lent, lent, copying}
use Rattle.copy.specs.Inv.{Given}

module _ (h : Lent) (root : ℕ) where
  pub no_cells : well_formed h.cells h.top ≡ false → (refused Cells, h) ≡ copying h root
  unfolding copying
  no_cells e = rw e

  module _ (a : well_formed h.cells h.top ≡ true) where
    pub no_root : term_at h.cells h.top root ≡ false → (refused Root, h) ≡ copying h root
    unfolding copying
    no_root e = rw (a, e)

    module _ (b : term_at h.cells h.top root ≡ true) where
      pub no_work : length h.work < work_need h.top → (refused Work, h) ≡ copying h root
      unfolding copying
      no_work e = rw (a, b, lt-leb (work_need h.top) (length h.work) e)

      module _ (c : work_need h.top ≤ length h.work) where
        abbrev fits : Bool
        fits = room_for h.cells h.top (room_of h.cells h.top root)

        pub no_room : fits ≡ false → (refused Room, h) ≡ copying h root
        unfolding copying
        no_room e = rw (a, b, le-leb (work_need h.top) (length h.work) c, e)

        module _ (d : fits ≡ true) where
          pub given : Given h.cells h.top root
          given =
              let up = h.top + room_of h.cells h.top root in
              let r = (and-eq-true_iff (leb up limit) (leb up (length h.cells))).0 d in
              record { wf = parts h.cells h.top a; term = b; fits = leb-true up (length h.cells) r.1; lim = leb-true up limit r.0 }

          pub made : (cells : List ℕ) (top : ℕ) (work : List ℕ) → cells ≡ (copied h.cells h.top root).cells → top ≡ (copied h.cells h.top root).end → work ≡ cleared (work_need h.top) h.work → (done h.top, lent cells top work) ≡ copying h root
          unfolding copying
          made cells top work p q r =
              rw (a, b, le-leb (work_need h.top) (length h.work) c, d)
              (ap (λ (x : Lent). (done h.top, x)) (λ i. lent (p i) (q i) (r i)))

-- ---- the test of the room, by the count of free cells
module _ (s : List ℕ) (top n : ℕ) where
  pub within_length : top ≤ length s → length s < limit → leb n (length s - top) ≡ room_for s top n
  within_length l h = go (leb n (length s - top)) refl
    where
      go : (b : Bool) → leb n (length s - top) ≡ b → b ≡ room_for s top n
      go true e = let q = leb-true n (length s - top) e in rw (le-leb (top + n) limit (omega arith), le-leb (top + n) (length s) (omega arith))
      go false e = let q = leb-false n (length s - top) e in rw (lt-leb (top + n) (length s) (omega arith)) (sym (and-false (leb (top + n) limit)))

  pub within_limit : top ≤ limit → limit ≤ length s → leb n (limit - top) ≡ room_for s top n
  within_limit l h = go (leb n (limit - top)) refl
    where
      go : (b : Bool) → leb n (limit - top) ≡ b → b ≡ room_for s top n
      go true e = let q = leb-true n (limit - top) e in rw (le-leb (top + n) limit (omega arith), le-leb (top + n) (length s) (omega arith))
      go false e = let q = leb-false n (limit - top) e in rw (lt-leb (top + n) limit (omega arith))

-- where r cells fit, which are m, fewer fit too
pub fewer_fit : (free r m n : ℕ) → r ≡ m → leb r free ≡ true → n ≤ m → true ≡ leb n free
fewer_fit free r m n e f h = let q = leb-true r free f in sym (le-leb n free (omega arith))
