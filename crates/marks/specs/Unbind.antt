-- Cells that become unbound again, by the trail's entries, and what that leaves at each place.
use Rattle.std.specs.Prelude.{◌≡◌, List, ◌⊎◌, length, set}
use Rattle.std.proofs.Math.Path.{refl, sym, ap}
use Rattle.std.proofs.Common.{◌∙◌}
use Rattle.std.proofs.Math.Logic.{inl, inr, ⊎_elim}
use Prim.Native.Nat.{ℕ, zero, suc, ◌+◌, ◌-◌, ◌<◌, ◌≤◌}
use native.Mathlib.Omega.{arith}
use Rattle.std.proofs.Math.Numerals.{add-one}
use Rattle.std.proofs.Math.Decide.{ℕ_discrete, dec_lt}
use Rattle.std.proofs.Math.ListN.{get_or, length-set}
use Rattle.std.proofs.Math.Seq.{get_or-set_same, get_or-set_other, set_out}
use Rattle.cell.specs.Word.{var_word}
use Rattle.trail.specs.Seen.{Named}

-- each cell that one of n entries of the trail names, from a place on, is an unbound Var again
unfoldable pub unbind : List ℕ → ℕ → ℕ → List ℕ → List ℕ
unbind trail from zero cells = cells
unbind trail from (suc n) cells = unbind trail (suc from) n (set cells (get_or trail from 0) (var_word (get_or trail from 0)))

-- the entries from a place to another are there, and name cells below a number
pub record Names (trail : List ℕ) (from to below : ℕ) : Type 0 where
  pub order : from ≤ to
  pub there : to ≤ length trail
  pub small : (i : ℕ) → from ≤ i → i < to → get_or trail i 0 < below

-- what is below a number is below a greater
pub names_wider : {trail : List ℕ} {from to a : ℕ} (b : ℕ) → a ≤ b → Names trail from to a → Names trail from to b
names_wider b h n = record { order = n.order; there = n.there; small = λ i l g. (let k = n.small i l g in omega arith) }

module _ (trail : List ℕ) where
  pub length_unbind : (n from : ℕ) (cells : List ℕ) → length (unbind trail from n cells) ≡ length cells
  unfolding unbind
  length_unbind zero from cells = refl
  length_unbind (suc n) from cells = length_unbind n (suc from) _ ∙ length-set cells _ _

  one : (cells : List ℕ) (e j : ℕ) → get_or cells j 0 ≡ var_word j → get_or (set cells e (var_word e)) j 0 ≡ var_word j
  one cells e j h = elim (ℕ_discrete j e) [ yes q ↦ elim (dec_lt j (length cells)) [ yes l ↦ ap (λ (x : ℕ). get_or (set cells x (var_word x)) j 0) (sym q) ∙ get_or-set_same cells j (var_word j) 0 l | no l ↦ ap (λ (c : List ℕ). get_or c j 0) (set_out cells e (var_word e) (omega arith)) ∙ h ] | no q ↦ get_or-set_other cells e j (var_word e) 0 q ∙ h ]

  stays : (n from : ℕ) (cells : List ℕ) (j : ℕ) → get_or cells j 0 ≡ var_word j → get_or (unbind trail from n cells) j 0 ≡ var_word j
  unfolding unbind
  stays zero from cells j h = h
  stays (suc n) from cells j h = stays n (suc from) _ j (one cells (get_or trail from 0) j h)

  -- a named cell is unbound
  pub unbound : (n from : ℕ) (cells : List ℕ) (j : ℕ) → j < length cells → Named trail from (from + n) j → get_or (unbind trail from n cells) j 0 ≡ var_word j
  unfolding unbind
  unbound zero from cells j l (i, a, b, e) = absurd (omega arith)
  unbound (suc n) from cells j l (i, a, b, e) =
      elim (ℕ_discrete from i) [
        | yes q ↦ stays n (suc from) _ j (let f : get_or trail from 0 ≡ j = ap (λ (k : ℕ). get_or trail k 0) q ∙ e in ap (λ (x : ℕ). get_or (set cells x (var_word x)) j 0) f ∙ get_or-set_same cells j (var_word j) 0 l)
        | no q ↦ unbound n (suc from) _ j (let z = length-set cells (get_or trail from 0) (var_word (get_or trail from 0)) in omega arith) (i, omega arith, omega arith, e)
      ]

  -- any other cell is as it was
  pub unbind_or : (n from : ℕ) (cells : List ℕ) (j : ℕ) → (get_or (unbind trail from n cells) j 0 ≡ get_or cells j 0) ⊎ Named trail from (from + n) j
  unfolding unbind
  unbind_or zero from cells j = inl refl
  unbind_or (suc n) from cells j =
      elim (ℕ_discrete j (get_or trail from 0)) [
        | yes q ↦ inr (from, omega arith, omega arith, sym q)
        | no q ↦ ⊎_elim (λ e. inl (e ∙ get_or-set_other cells (get_or trail from 0) j _ 0 q)) (λ p. inr (p.0, (let a = p.1 in omega arith), (let b = p.2 in omega arith), p.3)) (unbind_or n (suc from) (set cells (get_or trail from 0) (var_word (get_or trail from 0))) j)
      ]

  -- ---- the loop that unbinds: one entry, and none left
  pub unbind_more : (i : ℕ) {to : ℕ} (cells : List ℕ) (e w : ℕ) → e ≡ get_or trail i 0 → w ≡ var_word e → i < to → unbind trail i (to - i) cells ≡ unbind trail (i + 1) (to - (i + 1)) (set cells e w)
  unfolding unbind
  unbind_more i {to} cells e w q r h = let z : to - i ≡ suc (to - (i + 1)) = omega arith in rw (z, add-one i, r, q)

  pub unbind_done : (i : ℕ) {to : ℕ} (cells : List ℕ) → to ≤ i → unbind trail i (to - i) cells ≡ cells
  unfolding unbind
  unbind_done i {to} cells h = let z : to - i ≡ 0 = omega arith in rw z
