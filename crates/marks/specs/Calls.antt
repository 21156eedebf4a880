-- What mark, cut and rollback answer and leave, of any state.
use Rattle.std.specs.Prelude.{Bool, ◌&&◌, List, ℕ, ◌+◌, ◌-◌, ◌*◌, length, set, leb}
use Rattle.cell.specs.declared.Refusal.TheVariants.{Room, Mark, Left}
use Rattle.trail.specs.Rules.{mark_width, mark_top, mark_trail}
use Rattle.trail.specs.State.{State, state_of, Outcome, done, holds, check_of, need, ◌then◌, unless, Answer}
use Rattle.store.specs.Zeros.{zeroed}
use Rattle.marks.specs.Unbind.{unbind}

-- ---- mark
-- one mark more, with the present counts
abbrev pub noted : State → State
noted s =
    state_of s.cells s.top s.trail s.trailed
    (set (set s.marks (mark_width * s.marked) s.top) (mark_width * s.marked + 1) s.trailed)
    (s.marked + 1)

-- there are free words for one mark more
abbrev pub room_to_mark : State → Bool
room_to_mark s = leb (mark_width * (s.marked + 1)) (length s.marks)

-- a mark answers its number; refusals 1, 2 and 7
unfoldable pub marking : State → Outcome × State
marking s = unless (check_of s then need (room_to_mark s) Room) s (done (s.marked + 1), noted s)

-- ---- cut
-- the marks above k dropped
abbrev pub cut_off : State → ℕ → State
cut_off s k = state_of s.cells s.top s.trail s.trailed (zeroed (mark_width * k) s.marks) k

-- a cut to mark k; refusals 1, 2 and 8
unfoldable pub cutting : State → ℕ → Outcome × State
cutting s k = unless (check_of s then need (leb k s.marked) Mark) s (done 0, cut_off s k)

-- ---- rollback
-- the cells with each one unbound that the trail names from entry c on, and 0 from t on
abbrev pub lowered : List ℕ → List ℕ → ℕ → ℕ → ℕ → List ℕ
lowered cells trail trailed t c = zeroed t (unbind trail c (trailed - c) cells)

-- back to the `top` and the trail count of mark k, with marks 1 to k
abbrev pub rolled : State → ℕ → State
rolled s k =
    let t = mark_top s.marks (k - 1) in
    let c = mark_trail s.marks (k - 1) in
    state_of (lowered s.cells s.trail s.trailed t c) t (zeroed c s.trail) c (zeroed (mark_width * k) s.marks) k

-- refusals 1 and 2, then 8, then 10, which is judged on what would be left
unfoldable pub roll_check : State → ℕ → Answer
roll_check s k = check_of s then need (leb 1 k && leb k s.marked) Mark then need (holds (rolled s k)) Left

-- a rollback to mark k; refusals 1, 2, 8 and 10
unfoldable pub rolling : State → ℕ → Outcome × State
rolling s k = unless (roll_check s k) s (done 0, rolled s k)
