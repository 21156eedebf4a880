-- The occurs check means what it says: the computed test holds exactly where the variable lies below the node that it would be bound to.
use Rattle.std.proofs.Math.Path.{◌≡◌, refl, subst}
use Rattle.std.proofs.Common.{sym, ap, ◌∙◌, arith}
use Rattle.std.specs.Prelude.{true, false, List, ℕ, ◌<◌, ◌≤◌}
use Rattle.std.proofs.Math.Bool.{false≢true}
use Rattle.cell.specs.declared.Kind.{Kind}
use Rattle.cell.specs.declared.Kind.TheVariants.{Var, Str, Lis, Atom, Fixnum, Bad}
use Rattle.store.specs.Store.{kind_at, step, step_kind, end_of, WellFormed}
use Rattle.store.specs.Steps.{steps_fixed}
use Rattle.store.specs.WellFormed.{along, end_stays, steps_in}
use Rattle.store.specs.Ends.{end_next}
use Rattle.cycle.specs.Graph as Graph
use Rattle.cycle.specs.Graph.{Edge, Reach, here, over, join}
use Rattle.cycle.specs.Kids.{deg, kid, kid_edge, edge_kid, kid_used}
use Rattle.cycle.specs.Reached.{true_reach, reach_true}
use Rattle.terms.specs.View.{View, nod, Shape, arity_of, look_at, shape_of}
use Rattle.terms.specs.Shows.{Shows, unbound, plain, node, bound, shows}
use Rattle.unification.specs.Machine.{is_compound, stopped}
use Rattle.unification.specs.Nodes.{look_end, free_end, free_used, var_look, node_kids, node_used}
use Rattle.unification.specs.Occurs.{Within, Below, itself, inside}

within_same : (sh : Shape) (look : ℕ → View) (v i j : ℕ) → look i ≡ look j → Within sh look v i → Within sh look v j
within_same sh look v i j e (itself q) = itself (sym e ∙ q)
within_same sh look v i j e (inside n k q b w) = inside n k (sym e ∙ q) b w

module _ (s : List ℕ) (top : ℕ) (wf : WellFormed s top) where
  -- ---- what the edges reach lies within
  one_edge : (v i j : ℕ) → 1 ≤ i → i < top → Edge s i j → Within (shape_of s) (look_at s top) v j → Within (shape_of s) (look_at s top) v i
  one_edge v i j l h e w = go (shows s top wf i l h) (edge_kid s e)
    where
      go : Shows s top i → (k : ℕ) × (k < deg s i) × (j ≡ kid s i k) → Within (shape_of s) (look_at s top) v i
      go (unbound q d) (k, b, z) = absurd (omega arith)
      go (plain c q d) (k, b, z) = absurd (omega arith)
      go (node n q d a) (k, b, z) = inside n k q (omega arith) (subst (Within (shape_of s) (look_at s top) v) (z ∙ a k) w)
      go (bound m q d a) (k, b, z) = within_same (shape_of s) (look_at s top) v j i (sym (q ∙ ap (look_at s top) (sym (z ∙ a k)))) w

  reach_within : (v : ℕ) → kind_at s v ≡ Var v → {i j : ℕ} → Reach s i j → j ≡ v → 1 ≤ i → i < top → Within (shape_of s) (look_at s top) v i
  reach_within v q here e l h = itself (ap (look_at s top) e ∙ var_look s top wf v q)
  reach_within v q (over {i = i} {j = k} d r) e l h =
      let t = edge_kid s d in
      let u = kid_used s top wf i l h t.0 t.1 in
      let z = t.2 in
      one_edge v i k l h d (reach_within v q r e (omega arith) (omega arith))

  -- ---- what lies within is reached
  step_edge : (i : ℕ) → (step s i ≡ i → ⊥) → Edge s i (step s i)
  unfolding step step_kind
  step_edge i = go (kind_at s i) refl
    where
      go : (k : Kind) → kind_at s i ≡ k → (step_kind i k ≡ i → ⊥) → Edge s i (step_kind i k)
      go (Var v) e n = Graph.bound e n
      go (Str v) e n = absurd (n refl)
      go (Lis v) e n = absurd (n refl)
      go (Atom m a) e n = absurd (n refl)
      go (Fixnum z) e n = absurd (n refl)
      go Bad e n = absurd (n refl)

  reach_end : (i : ℕ) → 1 ≤ i → i < top → Reach s i (end_of s top i)
  reach_end =
      along s top wf (λ (i : ℕ). Reach s i (end_of s top i))
      (λ i l h q. subst (Reach s i) (sym (steps_fixed s top i q)) here)
      (λ i l h n r. subst (Reach s i) (end_next s top i (end_stays s top wf i l h)) (over (step_edge i n) r))

  arg_edge : (i n k : ℕ) → look_at s top i ≡ nod n → k < arity_of (shape_of s) n → Edge s (end_of s top i) ((shape_of s).arg n k)
  arg_edge i n k e b =
      let u = node_used s top wf i n e in
      let x = end_of s top i in
      let y = steps_in s top wf top i u.0 u.1 in
      let d = node_kids s top wf x n y.0 y.1 (end_stays s top wf i u.0 u.1) (look_end s top wf i u.0 u.1 ∙ e) in
      let z = d.0 in
      subst (Edge s x) (d.1 k) (kid_edge s x k (omega arith))

  within_reach : (v i : ℕ) → Within (shape_of s) (look_at s top) v i → Reach s i v
  within_reach v i (itself e) = let u = free_used s top wf i v e in subst (Reach s i) (free_end s top wf i v u.0 u.1 e).0 (reach_end i u.0 u.1)
  within_reach v i (inside n k e b w) =
      let u = node_used s top wf i n e in
      join (reach_end i u.0 u.1) (over (arg_edge i n k e b) (within_reach v ((shape_of s).arg n k) w))

  -- ---- the test
  module _ (v e n : ℕ) (q : kind_at s v ≡ Var v) (l : 1 ≤ e) (h : e < top) (st : step s e ≡ e) (x : look_at s top e ≡ nod n) where
    pub stops_below : stopped true s top v (nod n) e ≡ true → Below (shape_of s) (look_at s top) v n
    unfolding stopped is_compound
    stops_below t = go (reach_within v q (true_reach s top wf e l h v t) refl l h)
      where
        go : Within (shape_of s) (look_at s top) v e → Below (shape_of s) (look_at s top) v n
        go (itself z) = cc
        go (inside m k z b w) = let y : m ≡ n = cc in subst (Below (shape_of s) (look_at s top) v) y (k, b, w)

    pub passes_clear : stopped true s top v (nod n) e ≡ false → Below (shape_of s) (look_at s top) v n → ⊥
    unfolding stopped is_compound
    passes_clear t (k, b, w) =
        let r : Reach s e v = within_reach v e (inside n k x b w) in
        false≢true (sym t ∙ reach_true s top wf e l h v r)
