-- Where a ring can be. The way from a cell is the cells that following comes to. A ring has a highest cell: a lower one names it, and it names a lower one, so the way turns there. If following ends wherever a way turns, it ends everywhere.
use Rattle.std.specs.Prelude.{◌≡◌, refl, Bool, true, false, ◌&&◌, List, ℕ, zero, suc, ◌+◌, ◌-◌, ◌<◌, ◌≤◌, ltb}
use Rattle.std.proofs.Common.{sym, subst, ◌∙◌, arith}
use Rattle.std.proofs.Math.Bool.{and-eq-true_iff}
use Rattle.std.proofs.Math.Decide.{ℕ_discrete, dec_lt}
use borrow.Author.Tests.{ltb-true, ltb-false, lt-ltb, le-ltb}
use Rattle.store.specs.All.{and_goes}
use Rattle.store.specs.Store.{step, Ends, cells_keep, cells_end}
use Rattle.store.specs.Steps.{step_used}
use Rattle.store.specs.Ends.{ends_stay, ends_back, ends_cells}

-- following ends at each cell from 1 below a place
pub record EndsBelow (s : List ℕ) (n : ℕ) : Type 0 where
  pub below : (i : ℕ) → 1 ≤ i → i < n → Ends s i

pub below_none : (s : List ℕ) → EndsBelow s 1
below_none s = record { below = λ i a b. absurd (omega arith) }

-- ---- where a way turns
-- it turns at v, which i names: both cells beside it on the way are lower
unfoldable pub turns_at : List ℕ → ℕ → ℕ → Bool
turns_at s i v = ltb i v && ltb (step s v) v

-- the way from i turns at the next cell
abbrev pub Turns : List ℕ → ℕ → Type 0
Turns s i = turns_at s i (step s i) ≡ true

module _ (s : List ℕ) (i v : ℕ) where
  pub turns_higher : turns_at s i v ≡ true → i < v
  unfolding turns_at
  turns_higher h = ltb-true i v ((and-eq-true_iff (ltb i v) (ltb (step s v) v)).0 h).0

  pub no_turn : v ≤ i → turns_at s i v ≡ false
  unfolding turns_at
  no_turn l = rw (le-ltb i v l)

  by_turn : (P : Type 0) → (turns_at s i v ≡ true → P) → (turns_at s i v ≡ false → P) → P
  by_turn P f g = go (turns_at s i v) refl
    where
      go : (t : Bool) → turns_at s i v ≡ t → P
      go true e = f e
      go false e = g e

  goes_up : turns_at s i v ≡ false → i < v → v ≤ step s v
  unfolding turns_at
  goes_up h l = ltb-false (step s v) v (and_goes (ltb i v) (ltb (step s v) v) (lt-ltb i v l) ∙ h)

-- following ends wherever a way turns, from a place to another
pub record EndTurns (s : List ℕ) (from to : ℕ) : Type 0 where
  pub turned : (i : ℕ) → from ≤ i → i < to → Turns s i → Ends s i

pub turns_none : (s : List ℕ) (from : ℕ) → EndTurns s from from
turns_none s from = record { turned = λ i a b. absurd (omega arith) }

pub turns_more : (s : List ℕ) (from : ℕ) {i : ℕ} → EndTurns s from i → (Turns s i → Ends s i) → EndTurns s from (i + 1)
turns_more s from {i} h t = record { turned = λ j a b. elim (ℕ_discrete j i) [ yes q ↦ subst (λ (x : ℕ). Turns s x → Ends s x) (sym q) t | no q ↦ h.turned j a (omega arith) ] }

module _ (s : List ℕ) (top : ℕ) (all : cells_keep s 1 top ≡ true) (from : ℕ) (a : 1 ≤ from) (old : EndsBelow s from) where
  module _ {to : ℕ} (t : top ≤ to) (h : EndTurns s from to) where
    -- a way up turns or goes on up
    up_ends : (n i : ℕ) → top - i ≤ n → from ≤ i → i < top → i ≤ step s i → Ends s i
    up_ends zero i l c b u = absurd (omega arith)
    up_ends (suc n) i l c b u =
        let v = (step_used s top all i (omega arith) b).1 in
        elim (ℕ_discrete (step s i) i) [
          | yes e ↦ ends_stay s i e
          | no e ↦ by_turn s i (step s i) (Ends s i) (h.turned i c (omega arith)) (λ g. ends_back s i (up_ends n (step s i) (omega arith) (omega arith) v (goes_up s i (step s i) g (omega arith))))
        ]

    -- a way down comes to an old cell, or goes up or stays at last
    down_ends : (n i : ℕ) → i < n → 1 ≤ i → i < top → Ends s i
    down_ends zero i l c b = absurd (omega arith)
    down_ends (suc n) i l c b =
        let u = step_used s top all i c b in
        elim (dec_lt i from) [
          | yes g ↦ old.below i c g
          | no g ↦ elim (dec_lt (step s i) i) [ yes d ↦ ends_back s i (down_ends n (step s i) (omega arith) u.0 u.1) | no d ↦ up_ends (top - i) i (omega arith) (omega arith) b (omega arith) ]
        ]

    pub turns_enough : cells_end s from top ≡ true
    turns_enough = ends_cells s top all from a (λ i l b. down_ends (i + 1) i (omega arith) (omega arith) b)
