-- The parts of the work buffer: a class word for each of the `top` used cells, then a shortcut along Vars for each, and then the pairs that stand, two words a pair.
use Rattle.std.specs.Prelude.{◌≡◌, refl, List, [], ◌∷◌, ◌++◌, length, get_or, set, drop}
use Rattle.std.proofs.Math.Path.{ap}
use Rattle.std.proofs.Common.{◌∙◌, length-set, get_or-set_same, get_or-set_other}
use Prim.Native.Nat.{ℕ, zero, suc, ◌+◌, ◌*◌, ◌<◌, ◌≤◌}
use native.Mathlib.Omega.{arith}

-- the shortcuts, behind the classes
abbrev pub hops_of : ℕ → List ℕ → List ℕ
hops_of top work = drop top work

-- the place of pair number n, behind the classes and the shortcuts
abbrev pub pair_place : ℕ → ℕ → ℕ
pair_place top n = top + top + 2 * n

-- its two cells
abbrev pub pair_at : ℕ → List ℕ → ℕ → ℕ × ℕ
pair_at top work n = (get_or work (pair_place top n) 0, get_or work (pair_place top n + 1) 0)

-- the first n pairs, the last in first
abbrev pub standing : ℕ → List ℕ → ℕ → List (ℕ × ℕ)
standing top work zero = []
standing top work (suc n) = pair_at top work n ∷ standing top work n

-- k pairs of cells, from left + i and right + i on
unfoldable pub row : ℕ → ℕ → ℕ → ℕ → List (ℕ × ℕ)
row left right zero i = []
row left right (suc k) i = (left + i, right + i) ∷ row left right k (suc i)

-- as many as are counted
pub length_standing : (top : ℕ) (work : List ℕ) (n : ℕ) → length (standing top work n) ≡ n
length_standing top work zero = refl
length_standing top work (suc n) = ap suc (length_standing top work n)

-- words that agree behind the shortcuts have the same pairs
pub standing_same : (top : ℕ) (w w' : List ℕ) (n : ℕ) → ((j : ℕ) → pair_place top 0 ≤ j → j < pair_place top n → get_or w' j 0 ≡ get_or w j 0) → standing top w' n ≡ standing top w n
standing_same top w w' zero e = refl
standing_same top w w' (suc n) e =
    rw (e (pair_place top n) (omega arith) (omega arith), e (pair_place top n + 1) (omega arith) (omega arith), standing_same top w w' n (λ j a b. e j a (omega arith)))

-- ---- pushing
-- the k pairs of a list pushed on n; no other word changes
pub record Grown (w : List ℕ) (top n k : ℕ) (l : List (ℕ × ℕ)) (w' : List ℕ) : Type 0 where
  pub pairs : standing top w' (n + k) ≡ l ++ standing top w n
  pub near : (j : ℕ) → j < pair_place top n → get_or w' j 0 ≡ get_or w j 0
  pub far : (j : ℕ) → pair_place top (n + k) ≤ j → get_or w' j 0 ≡ get_or w j 0

module _ (w : List ℕ) (top n x y : ℕ) (room : pair_place top (n + 1) ≤ length w) where
  abbrev at : ℕ
  at = pair_place top n

  abbrev pushed : List ℕ
  pushed = set (set w at x) (at + 1) y

  other : (j : ℕ) → (j ≡ at → ⊥) → (j ≡ at + 1 → ⊥) → get_or pushed j 0 ≡ get_or w j 0
  other j a b = get_or-set_other (set w at x) (at + 1) j y 0 b ∙ get_or-set_other w at j x 0 a

  first : get_or pushed at 0 ≡ x
  first = get_or-set_other (set w at x) (at + 1) at y 0 (λ z. omega arith) ∙ get_or-set_same w at x 0 (omega arith)

  second : get_or pushed (at + 1) 0 ≡ y
  second = get_or-set_same (set w at x) (at + 1) y 0 (simp length-set (omega arith))

  pub push_one : Grown w top n 1 ((x, y) ∷ []) pushed
  push_one =
      let z : n + 1 ≡ suc n = omega arith in
      record {
        pairs = rw (z, first, second, standing_same top w pushed n (λ j a b. other j (λ e. omega arith) (λ e. omega arith)));
        near = λ j h. other j (λ e. omega arith) (λ e. omega arith);
        far = λ j h. other j (λ e. omega arith) (λ e. omega arith);
      }

-- the arguments of two nodes, the last pair first: j of k stand
pub grown_none : (w : List ℕ) (top n left right i : ℕ) → Grown w top n 0 (row left right 0 i) w
unfolding row
grown_none w top n left right i = let e : n + 0 ≡ n = omega arith in record { pairs = rw e; near = λ j h. refl; far = λ j h. refl }

-- none yet, from any number on
pub grown_start : (w : List ℕ) (top n left right j i : ℕ) → j ≡ 0 → Grown w top n j (row left right j i) w
grown_start w top n left right j i e = rw e (grown_none w top n left right i)

-- one pair more, of the arguments number i, in place p: those from m on stand
pub grown_next : {w w' w'' : List ℕ} {top n j p : ℕ} (left right i m k : ℕ) → m ≡ suc i → k ≡ j + 1 → p ≡ n + j → Grown w top n j (row left right j m) w' → Grown w' top p 1 ((left + i, right + i) ∷ []) w'' → Grown w top n k (row left right k i) w''
unfolding row
grown_next {n = n} {j = j} {p = p} left right i m k e q o g h =
    let z : n + k ≡ p + 1 = omega arith in
    let y : k ≡ suc j = omega arith in
    record {
      pairs = rw (z, y) (h.pairs ∙ rw o (ap (λ r. (left + i, right + i) ∷ r) (g.pairs ∙ rw e)));
      near = λ t b. h.near t (omega arith) ∙ g.near t b;
      far = λ t b. h.far t (omega arith) ∙ g.far t (omega arith);
    }

-- ---- forgetting: the shortcuts become 0, and no other word changes
pub record Forgot (w : List ℕ) (top : ℕ) (w' : List ℕ) : Type 0 where
  pub none : (i : ℕ) → i < top → get_or (hops_of top w') i 0 ≡ 0
  pub near : (j : ℕ) → j < top → get_or w' j 0 ≡ get_or w j 0
  pub far : (j : ℕ) → pair_place top 0 ≤ j → get_or w' j 0 ≡ get_or w j 0
