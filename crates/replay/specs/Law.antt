-- What unify and copy must do for the theorem; append does it too.
use Rattle.std.specs.Prelude.{◌≡◌, Bool, true, ◌⊎◌, ℕ, ◌<◌, ◌≤◌, length, get_or}
use Rattle.cell.specs.Word.{var_word}
use Rattle.trail.specs.Seen.{Named}
use Rattle.trail.specs.State.{State, Outcome, done, failed, refused, holds}
use Rattle.replay.specs.History.{Engine}

-- from s to t cells and trail entries are only added, and an old cell is changed only where it was unbound and is trailed
pub record Adds (s t : State) : Type 0 where
  pub cells_length : length t.cells ≡ length s.cells
  pub trail_length : length t.trail ≡ length s.trail
  pub top_kept : s.top ≤ t.top
  pub trailed_kept : s.trailed ≤ t.trailed
  pub trail_same : (i : ℕ) → i < s.trailed → get_or t.trail i 0 ≡ get_or s.trail i 0
  pub cell_same : (j : ℕ) → j < s.top → (get_or t.cells j 0 ≡ get_or s.cells j 0) ⊎ Named t.trail s.trailed t.trailed j
  pub unbound : (i : ℕ) → s.trailed ≤ i → i < t.trailed → get_or t.trail i 0 < s.top → get_or s.cells (get_or t.trail i 0) 0 ≡ var_word (get_or t.trail i 0)
  pub marks_same : t.marks ≡ s.marks
  pub marked_same : t.marked ≡ s.marked
  pub keeps : holds t ≡ true

-- done: the law; failed or refused: nothing has changed
unfoldable pub Obeys : State → Outcome × State → Type 0
Obeys s (done n, t) = Adds s t
Obeys s (failed, t) = t ≡ s
Obeys s (refused n, t) = t ≡ s

-- what is asked of an engine, at a store that keeps the rules
pub record Lawful (E : Engine) : Type 0 where
  pub some_room : 1 ≤ E.cell_room
  pub copies : (s : State) → holds s ≡ true → (x : ℕ) → Obeys s (E.copying s x)
  pub unifies : (s : State) → holds s ≡ true → (b : Bool) (x y : ℕ) → Obeys s (E.unifying s b x y)
