-- What a rollback comes to, from what the code has found and left.
use Rattle.store.specs.Zeros.{zeroed}
use Rattle.std.specs.Prelude.{◌≡◌, Bool, ◌&&◌, ℕ, ◌-◌, ◌≤◌, Ok, Err, List, ◌*◌}
use Rattle.std.proofs.Math.Path.{refl}
use Rattle.std.proofs.Common.{sym, ◌∙◌, ap}
use Rattle.std.proofs.Math.Bool.{true, false, and-eq-true_iff}
use Rattle.std.proofs.Math.Dec.{leb}
use borrow.Author.Tests.{leb-true, le-leb}
use Rattle.cell.specs.declared.Refusal.TheVariants.{Mark, Left}
use Rattle.trail.specs.Rules.{mark_top, mark_trail, mark_width}
use Rattle.trail.specs.State.{State, holds, check_of, need, ◌then◌, Answer, done, state_of, same_state_lem}
use Rattle.trail.specs.Facts.{Holds, check_parts, check_holds}
use Rattle.marks.specs.Calls.{rolled, roll_check, lowered, rolling}
use Rattle.marks.specs.Left.{LeftGood, left_is, Lowers, lowers}

-- what a check that passes says
pub record Passed (s : State) (k : ℕ) : Type 0 where
  pub held : Holds s
  pub low : 1 ≤ k
  pub high : k ≤ s.marked

module _ (s : State) (k : ℕ) where
  pub passed : roll_check s k ≡ Ok tt → Passed s k
  unfolding roll_check
  passed = go (check_of s) refl (leb 1 k && leb k s.marked) refl (holds (rolled s k))
    where
      go : (a : Answer) → check_of s ≡ a → (b : Bool) → (leb 1 k && leb k s.marked) ≡ b → (x : Bool) → (a then need b Mark then need x Left) ≡ Ok tt → Passed s k
      go (Ok tt) p true q x h = let l = (and-eq-true_iff (leb 1 k) (leb k s.marked)).0 q in record { held = check_parts s (sym p); low = leb-true _ _ l.0; high = leb-true _ _ l.1 }
      go (Ok tt) p false q x h = cc
      go (Err e) p b q x h = cc

  -- past refusals 1, 2 and 8 what would be left decides
  pub left_decides : Passed s k → roll_check s k ≡ need (holds (rolled s k)) Left
  unfolding roll_check
  left_decides p = rw (check_holds s p.held, le-leb 1 k p.low, le-leb k s.marked p.high)

  -- the writing is allowed, with the counts as the code has read them
  pub lowers_to : Passed s k → {t c : ℕ} → t ≡ mark_top s.marks (k - 1) → c ≡ mark_trail s.marks (k - 1) → Lowers s.cells s.top s.trail s.trailed t c
  lowers_to p {t} {c} et ec = rw (et, ec) (lowers s p.held k p.low p.high)

  -- what the pass over the cells and the trail found is what the definition asks
  pub found_is : Passed s k → (t c : ℕ) → t ≡ mark_top s.marks (k - 1) → c ≡ mark_trail s.marks (k - 1) → (r : Bool) → LeftGood s.cells s.trail s.trailed t c r → holds (rolled s k) ≡ r
  found_is p t c et ec r l =
      let m : LeftGood s.cells s.trail s.trailed (mark_top s.marks (k - 1)) (mark_trail s.marks (k - 1)) r = rw (← et, ← ec) l in
      left_is s p.held k p.low p.high m.freed m.seen ∙ sym m.found

  -- the words and counts of the definition, as the code has left them
  pub rolled_is : roll_check s k ≡ Ok tt → (t c : ℕ) → t ≡ mark_top s.marks (k - 1) → c ≡ mark_trail s.marks (k - 1) → (cs ts ms : List ℕ) → cs ≡ lowered s.cells s.trail s.trailed t c → ts ≡ zeroed c s.trail → ms ≡ zeroed (mark_width * k) s.marks → (done 0, state_of cs t ts c ms k) ≡ rolling s k
  unfolding rolling
  rolled_is p t c et ec cs ts ms e f g =
      rw p (ap (λ (x : State). (done 0, x)) (same_state_lem (e ∙ rw (et, ec)) et (f ∙ rw ec) ec g refl))
