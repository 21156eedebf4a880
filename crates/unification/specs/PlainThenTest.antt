-- Checked unification is plain unification and one test after its yes: that a root reaches no cycle.
-- The theorems stand in proofs/PlainThenTest.antt.
use Rattle.std.specs.Prelude.{◌≡◌, ℕ}
use Rattle.terms.specs.View.{View, free, con, nod}
use Rattle.unification.specs.Seen.{Seen}

-- ---- bindings only add: a cell shows what it showed, or what its variable shows
abbrev pub Grows : (ℕ → View) → View → View → Type 0
Grows look (free v) y = y ≡ look v
Grows look (con c) y = y ≡ con c
Grows look (nod n) y = y ≡ nod n

abbrev pub Later : (ℕ → View) → Seen → Type 0
Later look₀ s = (i : ℕ) → Grows s.look (look₀ i) (s.look i)
