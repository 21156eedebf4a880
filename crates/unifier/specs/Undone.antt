-- Undoing: the cells that the new trail entries name are unbound again and the entries are 0, which gives the cells and the trail at entry back.
use Rattle.std.specs.Prelude.{◌≡◌, List, ℕ, ◌-◌, ◌≤◌, length, get_or}
use Rattle.std.proofs.Common.{sym, ◌∙◌, ⊎_elim, arith}
use Rattle.cell.specs.Word.{var_word}
use Rattle.store.specs.Zeros.{zeroed, zeroed_is}
use Rattle.trail.specs.State.{State}
use Rattle.trail.specs.Seen.{Named}
use Rattle.marks.specs.Unbind.{unbind, Names, length_unbind, unbound, unbind_or}
use Rattle.unification.specs.Wrote.{Wrote, undone}

module _ (s : State) (cells trail : List ℕ) (trailed : ℕ) (w : Wrote s cells trail trailed) where
  -- the new entries are there, and name used cells
  pub new_names : (below : ℕ) → s.top ≤ below → Names trail s.trailed trailed below
  new_names below h =
      let l = w.level in
      let r = w.room in
      let z = w.trail_size in
      record { order = w.more; there = omega arith; small = λ i a b. (let u = w.used i a b in omega arith) }

  -- how many are new
  abbrev n : ℕ
  n = trailed - s.trailed

  pub cells_back : s.top ≤ length cells → (back : List ℕ) → back ≡ unbind trail s.trailed n cells → back ≡ s.cells
  cells_back h back e = e ∙ undone s cells trail trailed w _ (length_unbind trail n s.trailed cells) named other
    where
      named : (j : ℕ) → Named trail s.trailed trailed j → get_or (unbind trail s.trailed n cells) j 0 ≡ var_word j
      named j m =
          let u = w.used m.0 m.1 m.2 in
          let q = m.3 in
          let b = m.2 in
          unbound trail n s.trailed cells j (omega arith) (m.0, m.1, omega arith, q)

      other : (j : ℕ) → (Named trail s.trailed trailed j → ⊥) → get_or (unbind trail s.trailed n cells) j 0 ≡ get_or cells j 0
      other j m =
          ⊎_elim (λ z. z) (λ z. let b = z.2 in let o = w.more in absurd (m (z.0, z.1, omega arith, z.3))) (unbind_or trail n s.trailed cells j)

  pub trail_back : ((i : ℕ) → s.trailed ≤ i → get_or s.trail i 0 ≡ 0) → (entries : List ℕ) → entries ≡ zeroed s.trailed trail → entries ≡ s.trail
  trail_back rest entries e =
      let l = w.level in
      let r = w.room in
      let z = w.trail_size in
      e ∙ zeroed_is s.trailed trail (omega arith) s.trail (sym z) w.before rest

  -- behind the new entries the trail is 0
  pub rest_kept : ((i : ℕ) → s.trailed ≤ i → get_or s.trail i 0 ≡ 0) → (i : ℕ) → trailed ≤ i → get_or trail i 0 ≡ 0
  rest_kept rest i h = let o = w.more in w.after i h ∙ rest i (omega arith)
