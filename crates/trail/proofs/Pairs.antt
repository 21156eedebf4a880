-- The marks read one by one, as pairs of words, and the words of the definitions.
use Rattle.std.proofs.Common.{◌≡◌, ◌∙◌, ap, List, [], ℕ, zero, suc, ◌+◌, ◌*◌, ◌<◌, get_or, drop, arith, get_or-take, get_or-drop}
use Rattle.std.specs.Simd.{first_chunks}
use Rattle.trail.specs.Rules.{mark_width, mark_top, mark_trail}

-- the words of mark m
pub mark_words : (k : ℕ) (marks : List ℕ) (m : ℕ) → m < k → let w = get_or (first_chunks mark_width k marks) m [] in (get_or w 0 0 ≡ mark_top marks m) × (get_or w 1 0 ≡ mark_trail marks m)
mark_words k marks m h = (word k marks m 0 h (omega arith) ∙ ap (λ (i : ℕ). get_or marks i 0) (omega arith), word k marks m 1 h (omega arith))
  where
    word : (k : ℕ) (marks : List ℕ) (m j : ℕ) → m < k → j < mark_width → get_or (get_or (first_chunks mark_width k marks) m []) j 0 ≡ get_or marks (mark_width * m + j) 0
    word zero marks m j a b = absurd (omega arith)
    word (suc k) marks zero j a b = get_or-take mark_width marks j 0 b ∙ ap (λ (i : ℕ). get_or marks i 0) (omega arith)
    word (suc k) marks (suc m) j a b =
        word k (drop mark_width marks) m j (omega arith) b ∙ get_or-drop mark_width marks (mark_width * m + j) 0 ∙ ap (λ (i : ℕ). get_or marks i 0) (omega arith)
