-- Which states keep the rules: the fresh one, and what a mark and a cut leave.
use Rattle.std.specs.Prelude.{◌≡◌, ℕ, ◌+◌, ◌*◌, ◌<◌, ◌≤◌, length, get_or, replicate}
use Rattle.std.proofs.Common.{sym, subst, ◌∙◌, inl, inr, arith}
use Rattle.std.proofs.Math.Decide.{ℕ_discrete}
use Rattle.std.proofs.lemmas.List.{length-replicate}
use Rattle.store.specs.All.{all_from}
use Rattle.store.specs.WellFormed.{parts, whole}
use Rattle.trail.specs.Rules.{mark_width}
use Rattle.store.specs.Zeros.{zeroed, length_zeroed, zeroed_below, zeroed_from, zero_at}
use Rattle.trail.specs.Facts.{MarkGood}
use Rattle.trail.specs.Facts.{Holds, top_agrees, trail_agrees, mark_agrees, top_below, trail_below}
use Rattle.trail.specs.State.{State, fresh}
use Rattle.marks.specs.Calls.{noted, cut_off}
use Rattle.replay.specs.Ext.{Zeros, noted_top, noted_trail, noted_other, noted_length}

module _ (s : State) where
  pub zeros_of : Holds s → Zeros s
  zeros_of h =
      let w = parts s.cells s.top h.cells_good in
      record { top_fits = w.room; trailed_fits = h.trail_good_lem.fits; marked_fits = h.marks_good_lem.fits; cells_rest = w.rest; trail_rest = h.trail_good_lem.rest; marks_rest = h.marks_good_lem.rest }

-- ---- one mark more
module _ (s : State) (h : Holds s) (room : mark_width * (s.marked + 1) ≤ length s.marks) where
  agree : (i : ℕ) → i < mark_width * s.marked → get_or (noted s).marks i 0 ≡ get_or s.marks i 0
  agree i l = noted_other s room i (inl l)

  last : MarkGood s.top s.trailed (noted s).marks s.marked
  last =
      let t = noted_top s room in
      let c = noted_trail s room in
      let a = top_agrees s.marks (noted s).marks s.marked agree s.marked (omega arith) in
      let b = trail_agrees s.marks (noted s).marks s.marked agree s.marked (omega arith) in
      let u = top_below _ _ _ _ h.marks_good_lem s.marked (omega arith) in
      let v = trail_below _ _ _ _ h.marks_good_lem s.marked (omega arith) in
      record { top_rises = omega arith; trail_rises = omega arith; top_within = omega arith; trail_within = omega arith }

  pub holds_noted : Holds (noted s)
  holds_noted =
      let l = noted_length s room in
      let g = h.marks_good_lem in
      record {
        cells_good = h.cells_good;
        trail_good_lem = h.trail_good_lem;
        marks_good_lem = record {
          fits = omega arith;
          each = λ m b. elim (ℕ_discrete m s.marked) [ yes e ↦ subst (MarkGood s.top s.trailed (noted s).marks) (sym e) last | no e ↦ mark_agrees s.marks (noted s).marks s.marked agree s.top s.trailed m (omega arith) (g.each m (omega arith)) ];
          rest = λ i b. noted_other s room i (inr b) ∙ g.rest i (omega arith);
        };
      }

-- ---- fewer marks
pub holds_cut : (s : State) → Holds s → (k : ℕ) → k ≤ s.marked → Holds (cut_off s k)
holds_cut s h k l =
    let g = h.marks_good_lem in
    let f = g.fits in
    let r : mark_width * k ≤ length s.marks = omega arith in
    let e = length_zeroed (mark_width * k) s.marks r in
    record {
      cells_good = h.cells_good;
      trail_good_lem = h.trail_good_lem;
      marks_good_lem = record {
        fits = omega arith;
        each = λ m b. mark_agrees s.marks (zeroed (mark_width * k) s.marks) k (zeroed_below (mark_width * k) s.marks r) s.top s.trailed m b (g.each m (omega arith));
        rest = zeroed_from (mark_width * k) s.marks r;
      };
    }

-- ---- the fresh store
pub holds_fresh : (c t m : ℕ) → 1 ≤ c → Holds (fresh c t m)
unfolding all_from
holds_fresh c t m h =
    let e = length-replicate {A = ℕ} c 0 in
    record {
      cells_good = whole (replicate c 0) 1 (record { low = omega arith; high = omega arith; room = omega arith; zeroth = zero_at c 0; rest = λ i _. zero_at c i; keep = λ i a b. absurd (omega arith); ends = λ i a b. absurd (omega arith) });
      trail_good_lem = record { fits = omega arith; bound = λ i l. absurd (omega arith); apart = λ i j a l. absurd (omega arith); rest = λ i _. zero_at t i };
      marks_good_lem = record { fits = omega arith; each = λ i b. absurd (omega arith); rest = λ i _. zero_at m i };
    }
