-- Which cells stand for finite terms: in a well-formed store those from which no cycle is reached, and only those.
use Rattle.std.specs.Prelude.{◌≡◌, refl, true, List, ℕ, zero, suc, ◌+◌, ◌<◌, ◌≤◌}
use Rattle.std.proofs.Common.{sym, ap, ◌∙◌, arith}
use Rattle.store.specs.Store.{term_at, step, WellFormed}
use Rattle.store.specs.Steps.{term_used}
use Rattle.store.specs.WellFormed.{along}
use Rattle.cycle.specs.Graph.{Cyclic, Acc, acc, no_cycle}
use Rattle.cycle.specs.Kids.{deg, kid, kid_edge, acc_all, kid_used}
use Rattle.cycle.specs.Cyclic.{acyclic_acc}
use Rattle.terms.specs.View.{View, nod, Shape, arity_of, look_at, shape_of}
use Rattle.terms.specs.Term.{Term, variable, constant, compound, Terms, one, more, many, term_ind}
use Rattle.terms.specs.Stands.{Stands, StandArgs, stands_arg, stands_same, stands_once}
use Rattle.terms.specs.Shows.{Shows, unbound, plain, node, bound, arity_some, shows}

-- cell i of a store stands for the term t
abbrev pub StandsAt : List ℕ → ℕ → Term → ℕ → Type 0
StandsAt s top t i = Stands (shape_of s) (look_at s top) t i

-- exactly one finite term stands at i
pub record OneTerm (s : List ℕ) (top i : ℕ) : Type 0 where
  pub term : Term
  pub stands : StandsAt s top term i
  pub once : (t : Term) → StandsAt s top t i → t ≡ term

-- a term for each argument of a node
module _ (sh : Shape) (look : ℕ → View) where
  gather : (n a k : ℕ) → ((j : ℕ) → j < suc a → (t : Term) × Stands sh look t (sh.arg n (k + j))) → (ts : Terms) × (many ts ≡ suc a) × StandArgs sh look ts n k
  gather n zero k h =
      let t = h 0 (omega arith) in
      let e : k + 0 ≡ k = omega arith in
      (one t.0, refl, rw e at t.1)
  gather n (suc a) k h =
      let t = h 0 (omega arith) in
      let e : k + 0 ≡ k = omega arith in
      let r = gather n a (suc k) (λ j l. let e : k + suc j ≡ suc k + j = omega arith in rw e at (h (suc j) (omega arith))) in
      (more t.0 r.0, ap suc r.1, (rw e at t.1, r.2))

module _ (s : List ℕ) (top : ℕ) (wf : WellFormed s top) where
  -- ---- where every path ends there is a term
  by_kids : (i : ℕ) → Shows s top i → ((k : ℕ) → k < deg s i → (t : Term) × StandsAt s top t (kid s i k)) → (t : Term) × StandsAt s top t i
  by_kids i (unbound e d) f = (variable i, e)
  by_kids i (plain c e d) f = (constant c, e)
  by_kids i (node n e d a) f =
      let m = arity_some s n in
      let q = m.1 in
      let r = gather (shape_of s) (look_at s top) n m.0 0 (λ j l. let z : 0 + j ≡ j = omega arith in rw (z, ← a j) (f j (omega arith))) in
      (compound ((shape_of s).fun n).0 r.0, (n, e, rw (r.1 ∙ sym q) refl, r.2))
  by_kids i (bound q e d a) f =
      let t = f 0 (omega arith) in
      (t.0, stands_same (shape_of s) (look_at s top) t.0 (step s i) i (sym e) (rw (a 0) at t.1))

  acc_stands : {i : ℕ} → Acc s i → 1 ≤ i → i < top → (t : Term) × StandsAt s top t i
  acc_stands {i} (acc f) l h =
      by_kids i (shows s top wf i l h) (λ k d. let u = kid_used s top wf i l h k d in acc_stands (f (kid s i k) (kid_edge s i k d)) u.0 u.1)

  -- ---- from a cell that stands for a term every path ends
  -- by what it shows, where every path ends from the arguments of a node, and from the next cell along a Var
  settled : (i : ℕ) → 1 ≤ i → i < top → Shows s top i
      → ((n k : ℕ) → look_at s top i ≡ nod n → k < arity_of (shape_of s) n → (1 ≤ (shape_of s).arg n k) × ((shape_of s).arg n k < top) → Acc s ((shape_of s).arg n k))
      → ((step s i ≡ i → ⊥) → look_at s top i ≡ look_at s top (step s i) → Acc s (step s i))
      → Acc s i
  settled i l h (unbound e d) f g = acc_all s i (λ k b. absurd (omega arith))
  settled i l h (plain c e d) f g = acc_all s i (λ k b. absurd (omega arith))
  settled i l h (node n e d a) f g = acc_all s i (λ k b. rw (a k) (f n k e (omega arith) (rw (a k) at (kid_used s top wf i l h k b))))
  settled i l h (bound q e d a) f g = acc_all s i (λ k b. rw (a k) (g q e))

  -- along the Vars before it
  follow_acc : (t : Term)
      → ((i n k : ℕ) → StandsAt s top t i → look_at s top i ≡ nod n → k < arity_of (shape_of s) n → (1 ≤ (shape_of s).arg n k) × ((shape_of s).arg n k < top) → Acc s ((shape_of s).arg n k))
      → (i : ℕ) → 1 ≤ i → i < top → StandsAt s top t i → Acc s i
  follow_acc t args =
      along s top wf (λ (i : ℕ). StandsAt s top t i → Acc s i)
      (λ i l h q st. settled i l h (shows s top wf i l h) (λ n k. args i n k st) (λ m _. absurd (m q)))
      (λ i l h q ih st. settled i l h (shows s top wf i l h) (λ n k. args i n k st) (λ _ e. ih (stands_same (shape_of s) (look_at s top) t i (step s i) e st)))

  stands_acc : (t : Term) (i : ℕ) → 1 ≤ i → i < top → StandsAt s top t i → Acc s i
  stands_acc =
      term_ind (λ (t : Term). (i : ℕ) → 1 ≤ i → i < top → StandsAt s top t i → Acc s i)
      (λ v. follow_acc (variable v) (λ i n k st e. let z : ◌≡◌ {A = ℕ} 0 1 = cc in absurd (omega arith)))
      (λ c. follow_acc (constant c) (λ i n k st e. let z : ◌≡◌ {A = ℕ} 0 1 = cc in absurd (omega arith)))
      (λ f ts ih. follow_acc (compound f ts) (λ i n k st e b u.
      let q : st.0 ≡ n = cc in
      let m : k < many ts = omega (arith, ap (λ x. x.1) st.2, ap (arity_of (shape_of s)) q) in
      ih k m ((shape_of s).arg n k) u.0 u.1 (rw q at (stands_arg (shape_of s) (look_at s top) ts st.0 st.3 k m))))

  -- ---- the theorem
  module _ (root : ℕ) (r : term_at s top root ≡ true) where
    -- a root that reaches no cycle stands for exactly one finite term
    pub acyclic_stands : (Cyclic s root → ⊥) → OneTerm s top root
    acyclic_stands n =
        let u = term_used s top root r in
        let t = acc_stands (acyclic_acc s top wf root u.0 u.1 n) u.0 u.1 in
        record { term = t.0; stands = t.1; once = λ v h. stands_once (shape_of s) (look_at s top) v t.0 root h t.1 }

    -- and a root that stands for a finite term reaches no cycle
    pub stands_acyclic : (t : Term) → StandsAt s top t root → Cyclic s root → ⊥
    stands_acyclic t h = let u = term_used s top root r in no_cycle (stands_acc t root u.0 u.1 h)
