-- The computed tests of a copy's room mean what they say: `reaches` is reachability, and the structures and pairs counted are those that the root reaches.
use Rattle.std.specs.Prelude.{◌≡◌, Bool, ◌&&◌, ◌||◌, List}
use Rattle.std.proofs.Math.Path.{refl, ap, subst}
use Rattle.std.proofs.Common.{sym, ◌∙◌, arith}
use Rattle.std.proofs.Math.Bool.{true, false, or-true, and-eq-true_iff}
use Prim.Native.Nat.{ℕ, zero, suc, ◌<◌, ◌≤◌}
use Rattle.std.proofs.Math.Dec.{eqb}
use borrow.Author.Tests.{eqb-true, eq-eqb}
use Rattle.cell.specs.declared.Kind.TheVariants.{Str, Lis}
use Rattle.store.specs.Store.{kind_at, WellFormed}
use Rattle.cycle.specs.Graph.{Edge, Reach, here, over, spread}
use Rattle.cycle.specs.Some.{some_below, some_true, some_holds}
use Rattle.cycle.specs.Kids.{deg, kid, head, pair, kid_edge, edge_kid, kid_used, head_str, str_head, pair_lis, lis_pair}
use Rattle.cycle.specs.Ways.{Way, stay, go, short_way}
use Rattle.cycle.specs.Room.{reaches, str_reached, lis_reached}

-- the root reaches a Str that names f
abbrev pub StrReached : List ℕ → ℕ → ℕ → Type 0
StrReached s root f = (x : ℕ) × Reach s root x × (kind_at s x ≡ Str f)

-- the root reaches a Lis that names l
abbrev pub LisReached : List ℕ → ℕ → ℕ → Type 0
LisReached s root l = (x : ℕ) × Reach s root x × (kind_at s x ≡ Lis l)

module _ (s : List ℕ) where
  in_steps : (n i j : ℕ) → reaches s n i j ≡ true → Reach s i j
  unfolding reaches
  in_steps zero i j e = subst (Reach s i) (eqb-true i j e) here
  in_steps (suc n) i j e = at (eqb i j) refl e (λ k. in_steps n (kid s i k) j)
    where
      at : (b : Bool) → eqb i j ≡ b → (b || some_below (deg s i) (λ k. reaches s n (kid s i k) j)) ≡ true → ((k : ℕ) → reaches s n (kid s i k) j ≡ true → Reach s (kid s i k) j) → Reach s i j
      at true q h ih = subst (Reach s i) (eqb-true i j q) here
      at false q h ih =
          let t = some_holds (λ k. reaches s n (kid s i k) j) (deg s i) h in
          over (kid_edge s i t.0 t.1) (ih t.0 t.2)

  by_way : (n : ℕ) {m i j : ℕ} → Way s m i j → m ≤ n → reaches s n i j ≡ true
  unfolding reaches
  by_way zero {i = i} stay h = eq-eqb i i refl
  by_way (suc n) {i = i} stay h = rw (eq-eqb i i refl)
  by_way zero (go e w) h = absurd (omega arith)
  by_way (suc n) {i = i} {j = j} (go e w) h =
      let t = edge_kid s e in
      let r = some_true (λ k. reaches s n (kid s i k) j) (deg s i) t.0 t.1 (ap (λ (x : ℕ). reaches s n x j) (sym t.2) ∙ by_way n w (omega arith)) in
      rw r (or-true (eqb i j))

  module _ (top : ℕ) (wf : WellFormed s top) where
    -- only used cells are reached
    pub reach_used : {i j : ℕ} → 1 ≤ i → i < top → Reach s i j → (1 ≤ j) × (j < top)
    reach_used l h r = spread (λ (x : ℕ). (1 ≤ x) × (x < top)) r over_used (l, h)
      where
        over_used : (x y : ℕ) → (1 ≤ x) × (x < top) → Edge s x y → (1 ≤ y) × (y < top)
        over_used x y (a, b) e = let k = edge_kid s e in rw k.2 (kid_used s top wf x a b k.0 k.1)

    module _ (root : ℕ) (l : 1 ≤ root) (h : root < top) where
      pub true_reach : (j : ℕ) → reaches s top root j ≡ true → Reach s root j
      true_reach j e = in_steps top root j e

      pub reach_true : (j : ℕ) → Reach s root j → reaches s top root j ≡ true
      reach_true j r = let w = short_way s top wf l h r in let b = w.1 in by_way top w.2 (omega arith)

      -- a reached cell of which g is f: by search among the used cells
      pub found : (g : ℕ → ℕ) (f : ℕ) → some_below top (λ x. reaches s top root x && eqb (g x) f) ≡ true → (x : ℕ) × Reach s root x × (g x ≡ f)
      found g f e =
          let t = some_holds (λ x. reaches s top root x && eqb (g x) f) top e in
          let b = (and-eq-true_iff (reaches s top root t.0) (eqb (g t.0) f)).0 t.2 in
          (t.0, true_reach t.0 b.0, eqb-true (g t.0) f b.1)

      pub finds : (g : ℕ → ℕ) (f x : ℕ) → Reach s root x → g x ≡ f → some_below top (λ x. reaches s top root x && eqb (g x) f) ≡ true
      finds g f x r e =
          some_true (λ x. reaches s top root x && eqb (g x) f) top x (reach_used l h r).1
          ((and-eq-true_iff (reaches s top root x) (eqb (g x) f)).1 (reach_true x r, eq-eqb (g x) f e))

      pub true_str : (f : ℕ) → 1 ≤ f → str_reached s top root f ≡ true → StrReached s root f
      unfolding str_reached
      true_str f n e =
          let t = found (head s) f e in
          let z = t.2 in
          (t.0, t.1, head_str s t.0 (omega arith) ∙ ap Str z)

      pub str_true : (f : ℕ) → StrReached s root f → str_reached s top root f ≡ true
      unfolding str_reached
      str_true f (x, r, e) = finds (head s) f x r (str_head s x f e)

      pub true_lis : (f : ℕ) → 1 ≤ f → lis_reached s top root f ≡ true → LisReached s root f
      unfolding lis_reached
      true_lis f n e =
          let t = found (pair s) f e in
          let z = t.2 in
          (t.0, t.1, pair_lis s t.0 (omega arith) ∙ ap Lis z)

      pub lis_true : (f : ℕ) → LisReached s root f → lis_reached s top root f ≡ true
      unfolding lis_reached
      lis_true f (x, r, e) = finds (pair s) f x r (lis_pair s x f e)
