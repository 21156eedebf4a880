-- Two sums that fall as a walk goes on: the cells not yet met, and what is left to do at each cell of the path.
use Rattle.std.proofs.Common.{◌≡◌, Bool, true, false, cond, ℕ, List, ◌+◌, ◌-◌, ◌<◌, ◌≤◌, length, get_or, set, take, arith, length-set, get_or-set_same}
use Rattle.std.specs.List.{sum_by, count_by}
use Rattle.std.proofs.lemmas.List.Sums.{sum_by-set, sum_by_more, count_by-le-length}
use Rattle.std.proofs.lemmas.List.{take-set}
use Rattle.cycle.specs.declared.Colour.{Colour}
use Rattle.cycle.specs.declared.Colour.TheVariants.{White, Grey, Black}
use Rattle.cycle.specs.declared.Rest.{Rest}

-- not met yet
abbrev pub white : Colour → Bool
white White = true
white Grey = false
white Black = false

-- how many are not met yet
unfoldable pub whites : List Colour → ℕ
whites col = count_by white col

pub whites_all : (col : List Colour) → whites col ≤ length col
unfolding whites
whites_all col = count_by-le-length white col

whites_set : (col : List Colour) (c : ℕ) (k : Colour) → c < length col → whites (set col c k) + cond (white (get_or col c White)) 1 0 ≡ whites col + cond (white k) 1 0
unfolding whites
whites_set col c k h = sum_by-set (λ x. cond (white x) 1 0) col c k White h

-- one fewer, where a cell is met
pub whites_lt : (col : List Colour) (c : ℕ) → c < length col → get_or col c White ≡ White → whites (set col c Grey) + 1 ≡ whites col
whites_lt col c h e = let w : whites (set col c Grey) + 1 ≡ whites col + 0 = rw e at (whites_set col c Grey h) in omega arith

-- no more, where one is finished
pub whites_le : (col : List Colour) (c : ℕ) → c < length col → whites (set col c Black) ≤ whites col
whites_le col c h = omega (arith, whites_set col c Black h)

-- no links
abbrev pub none : Rest
none = record { next = 0; end = 0 }

-- one for a cell, and one for each link that is left
abbrev pub frame : Rest → ℕ
frame e = e.end - e.next + 1

-- of the first n
unfoldable pub frames : List Rest → ℕ → ℕ
frames path n = sum_by frame (take n path)

pub frames_one : (path : List Rest) (n : ℕ) → n < length path → frames path (n + 1) ≡ frames path n + frame (get_or path n none)
unfolding frames
frames_one path n h = sum_by_more frame path n none h

pub frames_last : (path : List Rest) (n : ℕ) (e : Rest) → n < length path → frames (set path n e) (n + 1) ≡ frames path n + frame e
unfolding frames
frames_last path n e h = let z = sum_by_more frame (set path n e) n none (simp length-set h) in rw (take-set path n e, get_or-set_same path n e none h) at z
