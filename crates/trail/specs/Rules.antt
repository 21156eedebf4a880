-- The rules of the trail and of the marks, as tests. specs/Facts.antt says them as facts and proves that both are the same.
use Rattle.std.specs.Prelude.{Bool, not, ◌&&◌, List, ℕ, zero, suc, ◌+◌, ◌*◌, length, get_or, leb, ltb, eqb}
use Rattle.cell.specs.Word.{var_word}
use Rattle.store.specs.All.{all_from}
use Rattle.store.specs.Store.{zero_from}

-- cell i is an unbound Var
abbrev pub unbound_at : List ℕ → ℕ → Bool
unbound_at cells i = eqb (get_or cells i 0) (var_word i)

-- ---- the trail
-- e is a used cell from 1 that is no unbound Var
unfoldable pub names_bound : List ℕ → ℕ → ℕ → Bool
names_bound cells top e = leb 1 e && ltb e top && not (unbound_at cells e)

-- no entry before i names the same cell
unfoldable pub entry_new : List ℕ → ℕ → Bool
entry_new trail i = all_from 0 i (λ j. not (eqb (get_or trail j 0) (get_or trail i 0)))

-- entry i keeps both rules
abbrev pub entry_keeps : List ℕ → ℕ → List ℕ → ℕ → Bool
entry_keeps cells top trail i = names_bound cells top (get_or trail i 0) && entry_new trail i

-- the used entries
unfoldable pub trail_used : List ℕ → ℕ → List ℕ → ℕ → Bool
trail_used cells top trail trailed = leb trailed (length trail) && all_from 0 trailed (entry_keeps cells top trail)

-- the used entries, and 0 behind them
unfoldable pub trail_good : List ℕ → ℕ → List ℕ → ℕ → Bool
trail_good cells top trail trailed = trail_used cells top trail trailed && zero_from trail trailed

-- ---- the marks
-- how many words a mark has: the first two are its `top` and its trail count
abbrev pub mark_width : ℕ
mark_width = 2

-- the `top` of mark number m + 1
abbrev pub mark_top : List ℕ → ℕ → ℕ
mark_top marks m = get_or marks (mark_width * m) 0

-- its trail count
abbrev pub mark_trail : List ℕ → ℕ → ℕ
mark_trail marks m = get_or marks (mark_width * m + 1) 0

-- the `top` of the mark before it; 0 before the first
unfoldable pub top_before : List ℕ → ℕ → ℕ
top_before marks zero = 0
top_before marks (suc m) = mark_top marks m

-- the same of the trail count
unfoldable pub trail_before : List ℕ → ℕ → ℕ
trail_before marks zero = 0
trail_before marks (suc m) = mark_trail marks m

-- not fallen from the mark before, nor above the present count
unfoldable pub rises : ℕ → ℕ → ℕ → Bool
rises before at present = leb before at && leb at present

-- mark number m + 1 keeps its rules
unfoldable pub mark_good : ℕ → ℕ → List ℕ → ℕ → Bool
mark_good top trailed marks m =
    rises (top_before marks m) (mark_top marks m) top && rises (trail_before marks m) (mark_trail marks m) trailed

-- the marks, and 0 behind them
unfoldable pub marks_good : ℕ → ℕ → List ℕ → ℕ → Bool
marks_good top trailed marks marked =
    leb (mark_width * marked) (length marks) && all_from 0 marked (mark_good top trailed marks) && zero_from marks (mark_width * marked)
