-- Laws of steps along Vars: they come to used cells, and stay where one stays.
use Rattle.std.specs.Prelude.{◌≡◌, true, ◌&&◌, List, get_or, leb}
use Rattle.std.proofs.Math.Path.{refl, ap}
use Rattle.std.proofs.Common.{sym, subst}
use Rattle.std.proofs.Math.Bool.{and-eq-true_iff}
use Prim.Native.Nat.{ℕ, zero, suc, ◌+◌, ◌-◌, ◌<◌, ◌≤◌}
use native.Mathlib.Omega.{arith}
use Rattle.std.proofs.Math.Dec.{ltb}
use borrow.Author.Tests.{ltb-true, leb-true}
use Rattle.cell.specs.Kinds.{kind_of}
use Rattle.cell.specs.declared.Kind.{Kind}
use Rattle.cell.specs.declared.Kind.TheVariants.{Var, Str, Lis, Atom, Fixnum, Bad}
use Rattle.store.specs.All.{all_holds}
use Rattle.store.specs.Store.{kind_at, keeps_at, no_header, term_at, keeps, step, step_kind, steps, cells_keep}

module _ (s : List ℕ) where
  pub steps_split : (i : ℕ) {n top : ℕ} → n < top → steps s (top - n) i ≡ steps s (top - (n + 1)) (step s i)
  unfolding steps
  steps_split i {n} {top} h = let z : top - n ≡ suc (top - (n + 1)) = omega arith in rw z

  pub steps_fixed : (n i : ℕ) → step s i ≡ i → steps s n i ≡ i
  unfolding steps
  steps_fixed zero i e = refl
  steps_fixed (suc n) i e = rw e (steps_fixed n i e)

  pub steps_done : (i : ℕ) {n top : ℕ} → top ≤ n → steps s (top - n) i ≡ i
  unfolding steps
  steps_done i {n} {top} h = let z : top - n ≡ 0 = omega arith in rw z

  -- a cell that stands for a term is a used one from 1
  pub term_used : (top v : ℕ) → term_at s top v ≡ true → (1 ≤ v) × (v < top)
  unfolding term_at
  term_used top v h =
      let a = ((and-eq-true_iff (leb 1 v && ltb v top) (no_header s v)).0 h).0 in
      let b = (and-eq-true_iff (leb 1 v) (ltb v top)).0 a in
      (leb-true 1 v b.0, ltb-true v top b.1)

  -- and no header
  pub term_plain : (top v : ℕ) → term_at s top v ≡ true → no_header s v ≡ true
  unfolding term_at
  term_plain top v h = ((and-eq-true_iff (leb 1 v && ltb v top) (no_header s v)).0 h).1

  -- a used cell from 1 goes to a used cell from 1
  keeps_used : (top i : ℕ) → 1 ≤ i → i < top → (k : Kind) → keeps s top i k ≡ true → (1 ≤ step_kind i k) × (step_kind i k < top)
  unfolding keeps step_kind
  keeps_used top i l h (Var v) e = term_used top v e
  keeps_used top i l h (Str v) e = (l, h)
  keeps_used top i l h (Lis v) e = (l, h)
  keeps_used top i l h (Atom n a) e = (l, h)
  keeps_used top i l h (Fixnum z) e = (l, h)
  keeps_used top i l h Bad e = (l, h)

  pub keeps_all : (top : ℕ) → cells_keep s 1 top ≡ true → (i : ℕ) → 1 ≤ i → i < top → keeps s top i (kind_at s i) ≡ true
  unfolding cells_keep
  keeps_all top all i l h = all_holds (keeps_at s top) (top - 1) 1 all i l (omega arith)

  pub step_used : (top : ℕ) → cells_keep s 1 top ≡ true → (i : ℕ) → 1 ≤ i → i < top → (1 ≤ step s i) × (step s i < top)
  unfolding step
  step_used top all i l h = keeps_used top i l h (kind_at s i) (keeps_all top all i l h)

  pub next_used : (top : ℕ) → cells_keep s 1 top ≡ true → {i next : ℕ} → 1 ≤ i → i < top → next ≡ step s i → (1 ≤ next) × (next < top)
  next_used top all {i} l h e = subst (λ (j : ℕ). (1 ≤ j) × (j < top)) (sym e) (step_used top all i l h)

  pub steps_used : (top : ℕ) → cells_keep s 1 top ≡ true → (n i : ℕ) → 1 ≤ i → i < top → (1 ≤ steps s n i) × (steps s n i < top)
  unfolding steps
  steps_used top all zero i l h = (l, h)
  steps_used top all (suc n) i l h = let u = step_used top all i l h in steps_used top all n (step s i) u.0 u.1

  -- a cell with the same word goes to the same cell
  pub same_step : (t : List ℕ) (i : ℕ) → get_or t i 0 ≡ get_or s i 0 → step t i ≡ step s i
  unfolding step
  same_step t i e = ap (λ (w : ℕ). step_kind i (kind_of w)) e
