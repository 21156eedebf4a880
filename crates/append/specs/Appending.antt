-- What an append comes to, from what the code has found and left.
use Rattle.std.specs.Prelude.{◌≡◌, Bool, true, false, ◌&&◌, ℕ, ◌+◌, ◌-◌, ◌<◌, ◌≤◌, min, length, get_or}
use Rattle.std.proofs.Common.{sym, ◌∙◌, arith, le-leb}
use Rattle.std.proofs.lemmas.Bool.{lt-leb}
use Rattle.std.proofs.Math.Path.{ap}
use mathlib.Core.List.{List}
use Rattle.cell.specs.declared.Refusal.TheVariants.{Words, Room}
use Rattle.store.specs.Store.{limit, cells_keep, cells_end, well_formed, WellFormed}
use Rattle.store.specs.Zeros.{zeroed}
use Rattle.store.specs.WellFormed.{parts}
use Rattle.store.specs.Turns.{EndsBelow}
use Rattle.store.specs.Over.{old_ends, new_keep, new_only}
use Rattle.trail.specs.State.{State, state_of, done, refused}
use Rattle.trail.specs.Facts.{Holds, check_holds}
use Rattle.append.specs.Laid.{laid, laid_length, laid_below, laid_after, laid_undone}
use Rattle.append.specs.Calls.{room_for, fits, appending}

module _ (s : State) (ws : List ℕ) (h : Holds s) where
  pub cells_are : WellFormed s.cells s.top
  cells_are = parts s.cells s.top h.cells_good

  no_place : room_for s.cells s.top (length ws) ≡ false → (refused Room, s) ≡ appending s ws
  unfolding appending
  no_place e = rw (check_holds s h, e)

  -- more words than there is room for
  pub over_limit : limit < s.top + length ws → (refused Room, s) ≡ appending s ws
  over_limit l = no_place (rw (lt-leb (s.top + length ws) limit l))

  pub over_length : s.top + length ws ≤ limit → length s.cells < s.top + length ws → (refused Room, s) ≡ appending s ws
  over_length high l = no_place (rw (le-leb (s.top + length ws) limit high, lt-leb (s.top + length ws) (length s.cells) l))

  -- as many words as there is room for, or fewer
  module _ (few : length ws ≤ min limit (length s.cells) - s.top) where
    pub high : s.top + length ws ≤ limit
    high = let w = cells_are.high in omega arith

    room : s.top + length ws ≤ length s.cells
    room = let w = cells_are.room in omega arith

    place : room_for s.cells s.top (length ws) ≡ true
    place = rw (le-leb (s.top + length ws) limit high, le-leb (s.top + length ws) (length s.cells) room)

    -- ---- with the words laid, in cells cs
    module _ (cs : List ℕ) (ce : cs ≡ laid s.cells s.top ws) where
      as_laid : (i x : ℕ) → get_or (laid s.cells s.top ws) i 0 ≡ x → get_or cs i 0 ≡ x
      as_laid i x e = ap (λ (l : List ℕ). get_or l i 0) ce ∙ e

      below : (i : ℕ) → i < s.top → get_or cs i 0 ≡ get_or s.cells i 0
      below i l = as_laid i _ (laid_below s.cells s.top ws room i l)

      pub room_kept : s.top + length ws ≤ length cs
      room_kept = let l = ap length ce ∙ laid_length s.cells s.top ws room in let r = room in omega arith

      pub rest_kept : (i : ℕ) → s.top + length ws ≤ i → get_or cs i 0 ≡ 0
      rest_kept i l = as_laid i 0 (laid_after s.cells s.top ws room i l ∙ cells_are.rest i (omega arith))

      pub keep_all : cells_keep cs s.top (s.top + length ws) ≡ true → cells_keep cs 1 (s.top + length ws) ≡ true
      keep_all = new_keep s.cells cs s.top (s.top + length ws) cells_are (omega arith) below high room_kept rest_kept

      -- following still ends at the old cells
      pub ends_old : EndsBelow cs s.top
      ends_old = record { below = old_ends s.cells cs s.top (s.top + length ws) cells_are (omega arith) below }

      -- the test of the new cells is the test of the whole store
      module _ (x : Bool) (e : x ≡ (cells_keep cs s.top (s.top + length ws) && cells_end cs s.top (s.top + length ws))) where
        fits_is : fits s ws ≡ x
        fits_is = ap (λ (l : List ℕ). well_formed l (s.top + length ws)) (sym ce) ∙ new_only s.cells cs s.top (s.top + length ws) cells_are (omega arith) below high room_kept rest_kept ∙ sym e

        pub placed : x ≡ true → (done s.top, state_of cs (s.top + length ws) s.trail s.trailed s.marks s.marked) ≡ appending s ws
        unfolding appending
        placed t = rw (check_holds s h, place, fits_is, t, ce)

        pub put_away : x ≡ false → (ds : List ℕ) → ds ≡ zeroed s.top cs → (refused Words, state_of ds s.top s.trail s.trailed s.marks s.marked) ≡ appending s ws
        unfolding appending
        put_away f ds de =
            rw (check_holds s h, place, fits_is, f)
            (ap (λ (l : List ℕ). (refused Words, state_of l s.top s.trail s.trailed s.marks s.marked)) (de ∙ ap (zeroed s.top) ce ∙ laid_undone s.cells s.top ws room cells_are.rest))
