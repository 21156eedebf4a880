-- Append and copy obey the law: cells added at the top of a store that stays well formed.
use Rattle.std.specs.Prelude.{◌≡◌, refl, Bool, true, false, cond, List, ℕ, ◌+◌, ◌<◌, ◌≤◌, length, get_or, leb}
use Rattle.std.proofs.Common.{sym, subst, inl, arith, leb-true}
use Rattle.std.proofs.Math.Bool.{and-eq-true_iff}
use Rattle.store.specs.Store.{limit, well_formed}
use Rattle.append.specs.Laid.{laid, laid_length, laid_below}
use Rattle.append.specs.Calls.{room_for, fits, appending}
use Rattle.append.specs.Calls as A
use Rattle.cell.specs.declared.Refusal.TheVariants.{Room, Words}
use Rattle.trail.specs.State.{State, state_of, holds}
use Rattle.trail.specs.Facts.{Holds, holds_parts, holds_whole, unless_two, trail_over, marks_over}
use Rattle.replay.specs.Law.{Adds, Obeys}

-- other cells and another top
abbrev pub grown : State → List ℕ → ℕ → State
grown s cs n = state_of cs n s.trail s.trailed s.marks s.marked

module _ (s : State) (h : Holds s) where
  module _ (cs : List ℕ) (n : ℕ) (wf : well_formed cs n ≡ true) (len : length cs ≡ length s.cells) (up : s.top ≤ n) (same : (j : ℕ) → j < s.top → get_or cs j 0 ≡ get_or s.cells j 0) where
    -- the trail and the marks keep their rules by themselves
    pub grown_holds : Holds (grown s cs n)
    grown_holds =
        record {
          cells_good = wf;
          trail_good_lem = trail_over s.cells cs s.top n s.trail s.trailed up same h.trail_good_lem;
          marks_good_lem = marks_over s.top n s.trailed s.marks s.marked up h.marks_good_lem;
        }

    pub grown_adds : Adds s (grown s cs n)
    grown_adds =
        record {
          cells_length = len;
          trail_length = refl;
          top_kept = up;
          trailed_kept = omega arith;
          trail_same = λ i _. refl;
          cell_same = λ j l. inl (same j l);
          unbound = λ i a b _. absurd (omega arith);
          marks_same = refl;
          marked_same = refl;
          keeps = holds_whole _ grown_holds;
        }

-- ---- append
-- what holds of both, each under its test, holds of the one that is picked
pub by_bool : {A : Type 0} (P : A → Type 0) (b : Bool) (x y : A) → (b ≡ true → P x) → (b ≡ false → P y) → P (cond b x y)
by_bool P true x y f g = f refl
by_bool P false x y f g = g refl

pub append_obeys : (s : State) → holds s ≡ true → (ws : List ℕ) → Obeys s (appending s ws)
unfolding appending Obeys
append_obeys s hs ws = subst (Obeys s) (sym (unless_two s h _ (room_for s.cells s.top (length ws)) Room (fits s ws) Words)) (by_bool (Obeys s) (room_for s.cells s.top (length ws)) _ _ (λ r. by_bool (Obeys s) (fits s ws) _ _ (yes_case r) (λ _. refl)) (λ _. refl))
  where
    h : Holds s
    h = holds_parts s hs

    yes_case : room_for s.cells s.top (length ws) ≡ true → fits s ws ≡ true → Adds s (A.grown s ws)
    yes_case r f =
        let q = leb-true _ _ ((and-eq-true_iff (leb (s.top + length ws) limit) (leb (s.top + length ws) (length s.cells))).0 r).1 in
        grown_adds s h (laid s.cells s.top ws) (s.top + length ws) f (laid_length s.cells s.top ws q) (omega arith) (laid_below s.cells s.top ws q)
