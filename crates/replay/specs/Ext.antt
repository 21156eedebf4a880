-- A state against the state in which one of its marks was set; rolling back gives that state again.
-- One law, `ext_adds`, stands in proofs/Ext.antt.
use Rattle.std.specs.Prelude.{◌≡◌, refl, List, ◌⊎◌, ℕ, ◌+◌, ◌-◌, ◌*◌, ◌<◌, ◌≤◌, length, get_or, set}
use Rattle.std.proofs.Common.{sym, subst, ◌∙◌, inl, ⊎_elim, arith, length-set, get_or-set_same, get_or-set_other}
use Rattle.cell.specs.Word.{var_word}
use Rattle.trail.specs.Rules.{mark_width, mark_top, mark_trail}
use Rattle.trail.specs.Seen.{Named}
use Rattle.store.specs.Zeros.{zeroed_is}
use Rattle.marks.specs.Unbind.{unbind, length_unbind, unbound, unbind_or}
use Rattle.trail.specs.State.{State, same_state_lem}
use Rattle.marks.specs.Calls.{noted, rolled}

-- `old` is the state just after mark number `old.marked` was set, and s a later state in which it stands
pub record Ext (old s : State) : Type 0 where
  pub low : 1 ≤ old.marked
  pub stands : old.marked ≤ s.marked
  pub cells_length : length s.cells ≡ length old.cells
  pub trail_length : length s.trail ≡ length old.trail
  pub marks_length : length s.marks ≡ length old.marks
  pub top_kept : old.top ≤ s.top
  pub trailed_kept : old.trailed ≤ s.trailed
  pub trail_same : (i : ℕ) → i < old.trailed → get_or s.trail i 0 ≡ get_or old.trail i 0
  pub marks_same : (i : ℕ) → i < mark_width * old.marked → get_or s.marks i 0 ≡ get_or old.marks i 0
  pub mark_top_lem : mark_top old.marks (old.marked - 1) ≡ old.top
  pub mark_trail_lem : mark_trail old.marks (old.marked - 1) ≡ old.trailed
  pub cell_same : (j : ℕ) → j < old.top → (get_or s.cells j 0 ≡ get_or old.cells j 0) ⊎ Named s.trail old.trailed s.trailed j
  pub unbound : (i : ℕ) → old.trailed ≤ i → i < s.trailed → get_or s.trail i 0 < old.top → get_or old.cells (get_or s.trail i 0) 0 ≡ var_word (get_or s.trail i 0)

-- the free words are 0, and the counts fit
pub record Zeros (s : State) : Type 0 where
  pub top_fits : s.top ≤ length s.cells
  pub trailed_fits : s.trailed ≤ length s.trail
  pub marked_fits : mark_width * s.marked ≤ length s.marks
  pub cells_rest : (i : ℕ) → s.top ≤ i → get_or s.cells i 0 ≡ 0
  pub trail_rest : (i : ℕ) → s.trailed ≤ i → get_or s.trail i 0 ≡ 0
  pub marks_rest : (i : ℕ) → mark_width * s.marked ≤ i → get_or s.marks i 0 ≡ 0

-- ---- rolling back gives `old` word for word
module _ (old s : State) (x : Ext old s) (z : Zeros old) where
  top_is : mark_top s.marks (old.marked - 1) ≡ old.top
  top_is = let l = x.low in x.marks_same (mark_width * (old.marked - 1)) (omega arith) ∙ x.mark_top_lem

  trailed_is : mark_trail s.marks (old.marked - 1) ≡ old.trailed
  trailed_is = let l = x.low in x.marks_same (mark_width * (old.marked - 1) + 1) (omega arith) ∙ x.mark_trail_lem

  abbrev freed : List ℕ
  freed = unbind s.trail old.trailed (s.trailed - old.trailed) s.cells

  freed_same : (j : ℕ) → j < old.top → get_or freed j 0 ≡ get_or old.cells j 0
  freed_same j h = ⊎_elim (λ e. ⊎_elim (λ f. e ∙ f) named (x.cell_same j h)) (λ p. named (p.0, p.1, (let b = p.2 in let k = x.trailed_kept in omega arith), p.3)) (unbind_or s.trail (s.trailed - old.trailed) old.trailed s.cells j)
    where
      named : Named s.trail old.trailed s.trailed j → get_or freed j 0 ≡ get_or old.cells j 0
      named p =
          let k = x.cells_length in
          let f = z.top_fits in
          let a = p.1 in
          let b = p.2 in
          let e = p.3 in
          unbound s.trail (s.trailed - old.trailed) old.trailed s.cells j (omega arith) (p.0, a, (let k = x.trailed_kept in omega arith), e) ∙ sym (subst (λ (m : ℕ). get_or old.cells m 0 ≡ var_word m) e (x.unbound p.0 a (omega arith) (omega arith)))

  pub rolled_is : rolled s old.marked ≡ old
  rolled_is =
      let cl = x.cells_length in
      let tl = x.trail_length in
      let ml = x.marks_length in
      let ft = z.top_fits in
      let fc = z.trailed_fits in
      let fm = z.marked_fits in
      let fl = length_unbind s.trail (s.trailed - old.trailed) old.trailed s.cells in
      same_state_lem
      (rw (top_is, trailed_is) (zeroed_is old.top freed (omega arith) old.cells (omega arith) freed_same z.cells_rest))
      top_is
      (rw trailed_is (zeroed_is old.trailed s.trail (omega arith) old.trail (omega arith) x.trail_same z.trail_rest))
      trailed_is
      (zeroed_is (mark_width * old.marked) s.marks (omega arith) old.marks (omega arith) x.marks_same z.marks_rest)
      refl

-- ---- a mark's own state
module _ (s : State) (room : mark_width * (s.marked + 1) ≤ length s.marks) where
  abbrev m₁ : List ℕ
  m₁ = set s.marks (mark_width * s.marked) s.top

  pub noted_top : mark_top (noted s).marks s.marked ≡ s.top
  noted_top = get_or-set_other m₁ (mark_width * s.marked + 1) (mark_width * s.marked) s.trailed 0 (omega arith) ∙ get_or-set_same s.marks (mark_width * s.marked) s.top 0 (omega arith)

  pub noted_trail : mark_trail (noted s).marks s.marked ≡ s.trailed
  noted_trail = let e = length-set s.marks (mark_width * s.marked) s.top in get_or-set_same m₁ (mark_width * s.marked + 1) s.trailed 0 (omega arith)

  pub noted_other : (i : ℕ) → (i < mark_width * s.marked) ⊎ (mark_width * (s.marked + 1) ≤ i) → get_or (noted s).marks i 0 ≡ get_or s.marks i 0
  noted_other i c = get_or-set_other m₁ (mark_width * s.marked + 1) i s.trailed 0 (⊎_elim (λ h. omega arith) (λ h. omega arith) c) ∙ get_or-set_other s.marks (mark_width * s.marked) i s.top 0 (⊎_elim (λ h. omega arith) (λ h. omega arith) c)

  pub noted_length : length (noted s).marks ≡ length s.marks
  noted_length = length-set m₁ (mark_width * s.marked + 1) s.trailed ∙ length-set s.marks (mark_width * s.marked) s.top

  pub ext_start : Ext (noted s) (noted s)
  ext_start =
      let back : s.marked + 1 - 1 ≡ s.marked = omega arith in
      record {
        low = omega arith;
        stands = omega arith;
        cells_length = refl;
        trail_length = refl;
        marks_length = refl;
        top_kept = omega arith;
        trailed_kept = omega arith;
        trail_same = λ i _. refl;
        marks_same = λ i _. refl;
        mark_top_lem = rw back noted_top;
        mark_trail_lem = rw back noted_trail;
        cell_same = λ j _. inl refl;
        unbound = λ i a b _. absurd (omega arith);
      }
