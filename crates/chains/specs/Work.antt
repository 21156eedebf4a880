-- The work buffer of a call: how many words it wants, and how it is left.
use Rattle.std.specs.Prelude.{List, ◌++◌, ℕ, ◌*◌, drop, replicate}

-- words for each used cell
abbrev pub work_factor : ℕ
work_factor = 12

-- a work buffer under this many words is refused
abbrev pub work_need : ℕ → ℕ
work_need top = work_factor * top

-- the first n words 0, and the rest as they were
unfoldable pub cleared : ℕ → List ℕ → List ℕ
cleared n work = replicate n 0 ++ drop n work
