-- The refusals' numbers, and what making a number cell answers.
use Rattle.std.specs.Prelude.{cond, ℕ, ℤ, Ok, Err, Result}
use Rattle.cell.specs.declared.Refusal.{Refusal}
use Rattle.cell.specs.declared.Refusal.TheVariants.{Cells, Trail, Root, Work, TrailRoom, Cycle, Room, Mark, Words, Left, Number}
use Rattle.cell.specs.Word.{word_of}
use Rattle.cell.specs.Fixnum.{of_number, in_range}

-- the number of a refusal, by the table of refusals
abbrev pub refusal_number : Refusal → ℕ
refusal_number Cells = 1
refusal_number Trail = 2
refusal_number Root = 3
refusal_number Work = 4
refusal_number TrailRoom = 5
refusal_number Cycle = 6
refusal_number Room = 7
refusal_number Mark = 8
refusal_number Words = 9
refusal_number Left = 10
refusal_number Number = 11

-- the word of a Fixnum, or refusal 11 outside its range
unfoldable pub number_cell : ℤ → Result ℕ Refusal
number_cell z = cond (in_range z) (Ok (word_of 5 0 0 (of_number z))) (Err Number)
