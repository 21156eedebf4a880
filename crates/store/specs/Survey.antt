-- How cells stand to their rows of the table, as one pass over them finds it: whether a row is broken, and whether a way turns.
use Rattle.std.specs.Prelude.{◌≡◌, Bool, true, false, not, ◌&&◌, List, ℕ, ◌+◌, ◌-◌, ◌<◌, ◌≤◌}
use Rattle.std.proofs.Common.{sym, subst, ◌∙◌, le-ltb, lt-ltb}
use Rattle.std.proofs.lemmas.Bool.{false≢true}
use Rattle.std.proofs.Math.Bool.{and-false}
use native.Mathlib.Omega.{arith}
use Rattle.std.proofs.Math.Decide.{ℕ_discrete, dec_le}
use Rattle.cell.specs.declared.Kind.{Kind}
use Rattle.store.specs.declared.Standing.{Standing}
use Rattle.store.specs.declared.Standing.TheVariants.{Breaks, Keeps, Turns, Heads}
use Rattle.store.specs.All.{all_from, all_done, all_fails, all_goes, all_split, and_goes}
use Rattle.store.specs.Store.{kind_at, is_header, no_header, run_at, keeps, keeps_at, step, step_kind, cells_keep, cells_end}
use Rattle.store.specs.Turns.{EndsBelow, turns_at, no_turn, turns_enough}

-- a cell that is no Var
unfoldable pub kept_of : Bool → Standing
kept_of true = Keeps
kept_of false = Breaks

-- a cell of kind k breaks its row; keeps to it, and the way does not turn; keeps to it; or is a header, whose row asks for its arguments
unfoldable pub Stands : List ℕ → ℕ → ℕ → Kind → Standing → Type 0
Stands s top i k Breaks = keeps s top i k ≡ false
Stands s top i k Keeps = (keeps s top i k ≡ true) × (not (is_header k) ≡ true) × (turns_at s i (step_kind i k) ≡ false)
Stands s top i k Turns = (keeps s top i k ≡ true) × (not (is_header k) ≡ true)
Stands s top i k (Heads a) = (keeps s top i k ≡ run_at s top i a) × (not (is_header k) ≡ false) × (step_kind i k ≡ i)

-- the cell at i
abbrev pub StandsAt : List ℕ → ℕ → ℕ → Standing → Type 0
StandsAt s top i r = Stands s top i (kind_at s i) r

-- ---- the pass, when `i` has been reached: what is left of the latest header's arguments, up to `last`, and of the cells decides, and no way turns at those before unless one was met
pub record Surveying (s : List ℕ) (from top : ℕ) (turns : Bool) (last i : ℕ) : Type 0 where
  pub keep : cells_keep s from top ≡ (all_from i (last + 1 - i) (no_header s) && all_from i (top - i) (keeps_at s top))
  pub within : last ≤ top - 1
  pub straight : turns ≡ false → (j : ℕ) → from ≤ j → j < i → turns_at s j (step s j) ≡ false

module _ (s : List ℕ) (from top : ℕ) where
  pub survey_start : 1 ≤ from → Surveying s from top false 0 from
  unfolding cells_keep
  survey_start h = record { keep = and_goes _ _ (all_done (no_header s) from (omega arith)); within = omega arith; straight = λ _ j a b. absurd (omega arith) }

  module _ {turns : Bool} {last i : ℕ} (m : Surveying s from top turns last i) where
    module _ (l : i < top) where
      -- a cell that is no header and keeps to its row
      goes : no_header s i ≡ true → keeps_at s top i ≡ true → cells_keep s from top ≡ (all_from (i + 1) (last + 1 - (i + 1)) (no_header s) && all_from (i + 1) (top - (i + 1)) (keeps_at s top))
      goes n k =
          let e : all_from i (last + 1 - i) (no_header s) ≡ all_from (i + 1) (last + 1 - (i + 1)) (no_header s) =
          elim (dec_le i last) [ yes h ↦ all_goes (no_header s) i (omega arith) n | no h ↦ all_done (no_header s) i (omega arith) ∙ sym (all_done (no_header s) (i + 1) (omega arith)) ] in
          m.keep ∙ rw (e, all_goes (keeps_at s top) i l k)

      still_straight : turns_at s i (step s i) ≡ false → turns ≡ false → (j : ℕ) → from ≤ j → j < i + 1 → turns_at s j (step s j) ≡ false
      still_straight h e j a b = elim (ℕ_discrete j i) [ yes q ↦ subst (λ (x : ℕ). turns_at s x (step s x) ≡ false) (sym q) h | no q ↦ m.straight e j a (omega arith) ]

      pub survey_breaks : StandsAt s top i Breaks → cells_keep s from top ≡ false
      unfolding Stands
      survey_breaks h = m.keep ∙ rw (all_fails (keeps_at s top) i l h, and-false)

      pub survey_keeps : StandsAt s top i Keeps → Surveying s from top turns last (i + 1)
      unfolding Stands step
      survey_keeps h = record { keep = goes h.1 h.0; within = m.within; straight = still_straight h.2 }

      pub survey_turns : StandsAt s top i Turns → Surveying s from top true last (i + 1)
      unfolding Stands
      survey_turns h = record { keep = goes h.1 h.0; within = m.within; straight = λ e. absurd (false≢true (sym e)) }

      module _ (a : ℕ) (h : StandsAt s top i (Heads a)) where
        -- an argument of the header before it
        pub survey_inside : i ≤ last → cells_keep s from top ≡ false
        unfolding Stands
        survey_inside b = m.keep ∙ rw (all_fails (no_header s) i {e = last + 1} (omega arith) h.1)

        module _ (b : last < i) where
          heads : cells_keep s from top ≡ (run_at s top i a && all_from (i + 1) (top - (i + 1)) (keeps_at s top))
          unfolding Stands
          heads = m.keep ∙ rw (all_done (no_header s) i {e = last + 1} (omega arith), all_split (keeps_at s top) i l, h.0)

          pub survey_short : top ≤ i + a → cells_keep s from top ≡ false
          unfolding run_at
          survey_short g = heads ∙ rw (le-ltb (i + a) top g)

          pub survey_heads : i + a < top → Surveying s from top turns (i + a) (i + 1)
          unfolding Stands run_at step
          survey_heads g =
              let z : a ≡ i + a + 1 - (i + 1) = omega arith in
              let e : step s i ≡ i = h.2 in
              record { keep = heads ∙ rw (lt-ltb (i + a) top g, ← z); within = omega arith; straight = still_straight (no_turn s i (step s i) (omega arith)) }

    -- at the end all keep to their rows, and following ends where no way turns
    module _ (l : top ≤ i) where
      pub survey_kept : 1 ≤ i → cells_keep s from top ≡ true
      survey_kept g = let w = m.within in m.keep ∙ rw (all_done (no_header s) i {e = last + 1} (omega arith), all_done (keeps_at s top) i l)

      pub survey_ends : cells_keep s 1 top ≡ true → 1 ≤ from → EndsBelow s from → turns ≡ false → cells_end s from top ≡ true
      survey_ends all a old e = turns_enough s top all from a old l (record { turned = λ j c b t. absurd (false≢true (sym (m.straight e j c b) ∙ t)) })
