-- A state against the state in which one of its marks was set; rolling back gives that state again.
use Rattle.std.specs.Prelude.{◌≡◌, List, ◌⊎◌, ℕ, ◌+◌, ◌*◌, ◌<◌, ◌≤◌, length, get_or}
use Rattle.std.proofs.Common.{sym, ap, subst, ◌∙◌, inl, inr, ⊎_elim, arith}
use Rattle.std.proofs.Math.Decide.{dec_lt}
use Rattle.cell.specs.Word.{var_word}
use Rattle.trail.specs.Rules.{mark_width}
use Rattle.trail.specs.Seen.{Named}
use Rattle.store.specs.Zeros.{zeroed, length_zeroed, zeroed_below}
use Rattle.trail.specs.State.{State}
use Rattle.marks.specs.Calls.{noted, cut_off}
use Rattle.replay.specs.Law.{Adds}
use Rattle.replay.specs.Ext.{Ext, noted_other, noted_length}

-- ---- what each call done keeps
module _ (old s : State) (x : Ext old s) where
  pub ext_adds : (t : State) → Adds s t → Ext old t
  ext_adds t a =
      let tk = a.top_kept in
      let ck = a.trailed_kept in
      let ok = x.trailed_kept in
      let ot = x.top_kept in
      record {
        low = x.low;
        stands = subst (λ (n : ℕ). old.marked ≤ n) (sym a.marked_same) x.stands;
        cells_length = a.cells_length ∙ x.cells_length;
        trail_length = a.trail_length ∙ x.trail_length;
        marks_length = ap length a.marks_same ∙ x.marks_length;
        top_kept = omega arith;
        trailed_kept = omega arith;
        trail_same = λ i h. a.trail_same i (omega arith) ∙ x.trail_same i h;
        marks_same = λ i h. ap (λ (l : List ℕ). get_or l i 0) a.marks_same ∙ x.marks_same i h;
        mark_top_lem = x.mark_top_lem;
        mark_trail_lem = x.mark_trail_lem;
        cell_same = cell;
        unbound = free;
      }
    where
      earlier : (j : ℕ) → Named s.trail old.trailed s.trailed j → Named t.trail old.trailed t.trailed j
      earlier j p = let u = p.1 in let v = p.2 in let ck = a.trailed_kept in (p.0, u, omega arith, a.trail_same p.0 (omega arith) ∙ p.3)

      later : (j : ℕ) → Named t.trail s.trailed t.trailed j → Named t.trail old.trailed t.trailed j
      later j p = let u = p.1 in let v = p.2 in let ck = a.trailed_kept in let ok = x.trailed_kept in (p.0, omega arith, omega arith, p.3)

      cell : (j : ℕ) → j < old.top → (get_or t.cells j 0 ≡ get_or old.cells j 0) ⊎ Named t.trail old.trailed t.trailed j
      cell j h = let ot = x.top_kept in ⊎_elim (λ e. ⊎_elim (λ f. inl (e ∙ f)) (λ p. inr (earlier j p)) (x.cell_same j h)) (λ p. inr (later j p)) (a.cell_same j (omega arith))

      -- a cell that is unbound in s was unbound then
      was : (j : ℕ) → j < old.top → get_or s.cells j 0 ≡ var_word j → get_or old.cells j 0 ≡ var_word j
      was j h e = ⊎_elim (λ f. sym f ∙ e) (λ p. let u = p.1 in let v = p.2 in let w = p.3 in let ok = x.trailed_kept in subst (λ (m : ℕ). get_or old.cells m 0 ≡ var_word m) w (x.unbound p.0 u (omega arith) (omega arith))) (x.cell_same j h)

      free : (i : ℕ) → old.trailed ≤ i → i < t.trailed → get_or t.trail i 0 < old.top → get_or old.cells (get_or t.trail i 0) 0 ≡ var_word (get_or t.trail i 0)
      free i l h g =
          let ot = x.top_kept in
          elim (dec_lt i s.trailed) [
            | yes b ↦ let e = a.trail_same i b in subst (λ (m : ℕ). get_or old.cells m 0 ≡ var_word m) (sym e) (x.unbound i l b (omega arith))
            | no b ↦ was (get_or t.trail i 0) g (a.unbound i (omega arith) h (omega arith))
          ]

  -- the same cells and trail, and marks that agree below `old`'s
  module _ (ms : List ℕ) (n : ℕ) (len : length ms ≡ length s.marks) (above : old.marked ≤ n) (agree : (i : ℕ) → i < mark_width * old.marked → get_or ms i 0 ≡ get_or s.marks i 0) where
    pub ext_marks : Ext old (record { cells = s.cells; top = s.top; trail = s.trail; trailed = s.trailed; marks = ms; marked = n })
    ext_marks =
        record {
          low = x.low;
          stands = above;
          cells_length = x.cells_length;
          trail_length = x.trail_length;
          marks_length = len ∙ x.marks_length;
          top_kept = x.top_kept;
          trailed_kept = x.trailed_kept;
          trail_same = x.trail_same;
          marks_same = λ i h. agree i h ∙ x.marks_same i h;
          mark_top_lem = x.mark_top_lem;
          mark_trail_lem = x.mark_trail_lem;
          cell_same = x.cell_same;
          unbound = x.unbound;
        }

  pub ext_noted : mark_width * (s.marked + 1) ≤ length s.marks → Ext old (noted s)
  ext_noted room = let d = x.stands in ext_marks (noted s).marks (s.marked + 1) (noted_length s room) (omega arith) (λ i h. noted_other s room i (inl (omega arith)))

  pub ext_cut : (k : ℕ) → old.marked ≤ k → mark_width * k ≤ length s.marks → Ext old (cut_off s k)
  ext_cut k h f = ext_marks (zeroed (mark_width * k) s.marks) k (length_zeroed (mark_width * k) s.marks f) h (λ i g. zeroed_below (mark_width * k) s.marks f i (omega arith))
