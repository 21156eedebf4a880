-- What appending words answers and leaves, of any state and any words.
use Rattle.std.specs.Prelude.{Bool, ◌&&◌, List, ℕ, ◌+◌, length, leb}
use Rattle.cell.specs.declared.Refusal.TheVariants.{Room, Words}
use Rattle.store.specs.Store.{limit, well_formed}
use Rattle.trail.specs.State.{State, state_of, Outcome, done, check_of, need, ◌then◌, unless}
use Rattle.append.specs.Laid.{laid}

-- there is room for n cells more: they pass neither the limit nor the lent cells
abbrev pub room_for : List ℕ → ℕ → ℕ → Bool
room_for cells top n = leb (top + n) limit && leb (top + n) (length cells)

-- the store with the words
abbrev pub grown : State → List ℕ → State
grown s ws = state_of (laid s.cells s.top ws) (s.top + length ws) s.trail s.trailed s.marks s.marked

-- its cells are well formed
abbrev pub fits : State → List ℕ → Bool
fits s ws = well_formed (grown s ws).cells (grown s ws).top

-- an append answers the old `top`; refusals 1, 2, 7 and 9
unfoldable pub appending : State → List ℕ → Outcome × State
appending s ws = unless (check_of s then need (room_for s.cells s.top (length ws)) Room then need (fits s ws) Words) s (done s.top, grown s ws)
