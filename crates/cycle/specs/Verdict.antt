-- What the cycle verdict answers, as a computation on the words: a root is cyclic exactly if some path from it has as many edges as there are used cells. specs/Cyclic.antt proves that this is the definition of cyclic.
use Rattle.cell.specs.declared.Refusal.{Refusal}
use Rattle.std.specs.Prelude.{◌≡◌, Bool, true, false, cond, List, ℕ, zero, suc, Result, Ok, Err}
use Rattle.cell.specs.declared.Refusal.TheVariants.{Cells, Root}
use Rattle.store.specs.Store.{well_formed, term_at}
use Rattle.cycle.specs.Some.{some_below}
use Rattle.cycle.specs.Kids.{deg, kid}

-- some path of n edges starts at i
unfoldable pub paths : List ℕ → ℕ → ℕ → Bool
paths s zero i = true
paths s (suc n) i = some_below (deg s i) (λ k. paths s n (kid s i k))

-- the root i reaches a cycle
unfoldable pub cyclic_at : List ℕ → ℕ → ℕ → Bool
cyclic_at s top i = paths s top i

-- refusal 1 where the cells are not well formed, refusal 3 where the root stands for no term; else whether it reaches a cycle
unfoldable pub verdict_of : List ℕ → ℕ → ℕ → Result Bool Refusal
verdict_of s top root =
    cond (well_formed s top) (cond (term_at s top root) (Ok (cyclic_at s top root)) (Err Root)) (Err Cells)

-- ---- the answer, by the tests that a call makes
module _ (s : List ℕ) (top root : ℕ) where
  pub refused_cells : well_formed s top ≡ false → Err Cells ≡ verdict_of s top root
  unfolding verdict_of
  refused_cells h = rw h

  module _ (h : well_formed s top ≡ true) where
    pub refused_root : term_at s top root ≡ false → Err Root ≡ verdict_of s top root
    unfolding verdict_of
    refused_root t = rw (h, t)

    module _ (t : term_at s top root ≡ true) where
      pub answered : (b : Bool) → b ≡ cyclic_at s top root → Ok b ≡ verdict_of s top root
      unfolding verdict_of
      answered b c = rw (h, t, c)
