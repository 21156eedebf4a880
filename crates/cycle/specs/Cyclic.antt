-- The computed verdict means what it says: `cyclic_at` is true exactly of a root that reaches a cycle, and false exactly of one from which every path ends.
use Rattle.std.specs.Prelude.{◌≡◌, Bool, true, false, List, Ok}
use Rattle.std.proofs.Math.Path.{refl}
use Rattle.std.proofs.Common.{sym, ap, ◌∙◌, arith}
use Rattle.std.proofs.lemmas.Bool.{false≢true}
use Prim.Native.Nat.{ℕ, zero, suc, ◌<◌, ◌≤◌}
use Rattle.store.specs.Store.{term_at, WellFormed}
use Rattle.store.specs.Steps.{term_used}
use Rattle.store.specs.WellFormed.{whole}
use Rattle.cycle.specs.Graph.{Cyclic, Acc, cyclic_next, no_cycle}
use Rattle.cycle.specs.Some.{some_true, some_holds, none_holds}
use Rattle.cycle.specs.Kids.{deg, kid, kid_edge, edge_kid, acc_all}
use Rattle.cycle.specs.Ways.{Way, stay, go, way_cyclic}
use Rattle.cycle.specs.Verdict.{paths, cyclic_at, verdict_of, answered}

module _ (s : List ℕ) where
  -- from a cycle there is a path of any length
  endless : (n : ℕ) {i : ℕ} → Cyclic s i → paths s n i ≡ true
  unfolding paths
  endless zero c = refl
  endless (suc n) {i} c =
      let t = cyclic_next c in
      let k = edge_kid s t.1 in
      some_true (λ m. paths s n (kid s i m)) (deg s i) k.0 k.1 (ap (paths s n) (sym k.2) ∙ endless n t.2)

  -- a path that the test finds
  path_way : (n i : ℕ) → paths s n i ≡ true → (j : ℕ) × Way s n i j
  unfolding paths
  path_way zero i e = (i, stay)
  path_way (suc n) i e =
      let t = some_holds (λ m. paths s n (kid s i m)) (deg s i) e in
      let w = path_way n (kid s i t.0) t.2 in
      (w.0, go (kid_edge s i t.0 t.1) w.1)

  -- no path of n edges: every path ends
  path_ends : (n i : ℕ) → paths s n i ≡ false → Acc s i
  unfolding paths
  path_ends zero i e = absurd (false≢true (sym e))
  path_ends (suc n) i e = acc_all s i (λ k h. path_ends n (kid s i k) (none_holds (λ m. paths s n (kid s i m)) (deg s i) e k h))

  module _ (top : ℕ) (wf : WellFormed s top) (i : ℕ) (l : 1 ≤ i) (h : i < top) where
    pub true_cyclic : cyclic_at s top i ≡ true → Cyclic s i
    unfolding cyclic_at
    true_cyclic e = let w = path_way top i e in way_cyclic s top wf w.1 l h (omega arith)

    pub cyclic_true : Cyclic s i → cyclic_at s top i ≡ true
    unfolding cyclic_at
    cyclic_true c = endless top c

    pub false_acc : cyclic_at s top i ≡ false → Acc s i
    unfolding cyclic_at
    false_acc e = path_ends top i e

    pub acc_false : Acc s i → cyclic_at s top i ≡ false
    acc_false a = at (cyclic_at s top i) refl
      where
        at : (b : Bool) → cyclic_at s top i ≡ b → b ≡ false
        at true e = absurd (no_cycle a (true_cyclic e))
        at false e = refl

    -- so a root reaches a cycle, or every path from it ends
    pub acyclic_acc : (Cyclic s i → ⊥) → Acc s i
    acyclic_acc n = at (cyclic_at s top i) refl
      where
        at : (b : Bool) → cyclic_at s top i ≡ b → Acc s i
        at true e = absurd (n (true_cyclic e))
        at false e = false_acc e

  -- ---- the verdict of a well-formed store and a root that stands for a term: yes exactly where the root reaches a cycle
  module _ (top : ℕ) (wf : WellFormed s top) (root : ℕ) (t : term_at s top root ≡ true) where
    pub verdict_yes : Cyclic s root → Ok true ≡ verdict_of s top root
    verdict_yes c = let u = term_used s top root t in answered s top root (whole s top wf) t true (sym (cyclic_true top wf root u.0 u.1 c))

    pub verdict_no : (Cyclic s root → ⊥) → Ok false ≡ verdict_of s top root
    verdict_no n = let u = term_used s top root t in answered s top root (whole s top wf) t false (sym (acc_false top wf root u.0 u.1 (acyclic_acc top wf root u.0 u.1 n)))
