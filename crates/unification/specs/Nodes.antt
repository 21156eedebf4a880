-- What a well-formed store shows at any cell: a free variable is an unbound Var, a node has arguments that stand for terms, and unused cells show neither.
use Rattle.std.proofs.Math.Path.{◌≡◌, refl, sym, ap}
use Rattle.std.proofs.Common.{subst, ◌∙◌, inl, inr, ⊎_elim}
use Rattle.std.proofs.Math.Bool.{true, not, and-eq-true_iff}
use Rattle.std.specs.Prelude.{◌&&◌, List, ◌⊎◌, leb, ltb, get_or}
use Prim.Native.Nat.{ℕ, zero, suc, ◌+◌, ◌<◌, ◌≤◌}
use native.Mathlib.Omega.{arith}
use Rattle.std.proofs.Math.Decide.{dec_lt}
use borrow.Author.Tests.{le-leb, lt-ltb}
use Rattle.cell.specs.declared.Kind.{Kind}
use Rattle.cell.specs.declared.Kind.TheVariants.{Var, Str, Lis, Atom, Fixnum, Bad}
use Rattle.cell.specs.Kinds.{kind_of, by_tag}
use Rattle.store.specs.Store.{kind_at, is_header, no_header, term_at, keeps, step, step_kind, steps, end_of, WellFormed}
use Rattle.store.specs.Steps.{steps_fixed, term_used}
use Rattle.store.specs.WellFormed.{end_stays, steps_in}
use Rattle.cycle.specs.Kids.{deg, kid, kid_term}
use Rattle.terms.specs.View.{atom, free, con, nod, arity_of, str_view, view_kind, look_at, behind, shape_of}
use Rattle.terms.specs.Shows.{Shows, unbound, plain, node, bound, arity_some, flat, shows}

module _ (s : List ℕ) (top : ℕ) (wf : WellFormed s top) where
  zero_bad : kind_of 0 ≡ Bad
  unfolding kind_of by_tag
  zero_bad = refl

  -- a word 0 shows a constant
  unused : (i : ℕ) → get_or s i 0 ≡ 0 → look_at s top i ≡ con (atom 0)
  unfolding look_at step step_kind view_kind
  unused i e =
      let k : kind_at s i ≡ Bad = ap kind_of e ∙ zero_bad in
      ap (λ (x : ℕ). view_kind s (kind_at s x)) (steps_fixed s top i (ap (step_kind i) k)) ∙ ap (view_kind s) k

  -- a used cell, or one that shows a constant
  pub used_or : (i : ℕ) → ((1 ≤ i) × (i < top)) ⊎ (look_at s top i ≡ con (atom 0))
  used_or zero = inr (unused 0 wf.zeroth)
  used_or (suc i) = elim (dec_lt (suc i) top) [ yes h ↦ inl (omega arith, h) | no h ↦ inr (unused (suc i) (wf.rest (suc i) (omega arith))) ]

  -- ---- where following ends
  -- a Var names no header
  step_term : (i : ℕ) → term_at s top i ≡ true → term_at s top (step s i) ≡ true
  unfolding step step_kind keeps
  step_term i t = let u = term_used s top i t in go (kind_at s i) (wf.keep i u.0 u.1)
    where
      go : (k : Kind) → keeps s top i k ≡ true → term_at s top (step_kind i k) ≡ true
      go (Var v) h = h
      go (Str v) h = t
      go (Lis v) h = t
      go (Atom n a) h = t
      go (Fixnum z) h = t
      go Bad h = t

  steps_term : (n i : ℕ) → term_at s top i ≡ true → term_at s top (steps s n i) ≡ true
  unfolding steps
  steps_term zero i t = t
  steps_term (suc n) i t = steps_term n (step s i) (step_term i t)

  pub end_term : (i : ℕ) → term_at s top i ≡ true → term_at s top (end_of s top i) ≡ true
  end_term i = steps_term top i

  -- a followed cell shows what the cell shows
  pub look_end : (i : ℕ) → 1 ≤ i → i < top → look_at s top (end_of s top i) ≡ look_at s top i
  unfolding look_at
  look_end i l h = ap (λ (x : ℕ). view_kind s (kind_at s x)) (steps_fixed s top (end_of s top i) (end_stays s top wf i l h))

  -- ---- what is shown
  str_not_free : (k : Kind) (f v : ℕ) → str_view f k ≡ free v → ⊥
  unfolding str_view
  str_not_free (Var w) f v e = cc
  str_not_free (Str w) f v e = cc
  str_not_free (Lis w) f v e = cc
  str_not_free (Atom n zero) f v e = cc
  str_not_free (Atom n (suc a)) f v e = cc
  str_not_free (Fixnum z) f v e = cc
  str_not_free Bad f v e = cc

  pub free_var : (k : Kind) (v : ℕ) → view_kind s k ≡ free v → k ≡ Var v
  unfolding view_kind
  free_var (Var w) v e = cc
  free_var (Str f) v e = absurd (str_not_free (kind_at s f) f v e)
  free_var (Lis w) v e = cc
  free_var (Atom n a) v e = cc
  free_var (Fixnum z) v e = cc
  free_var Bad v e = cc

  -- a free variable is an unbound Var, and following ends at it
  pub free_end : (i v : ℕ) → 1 ≤ i → i < top → look_at s top i ≡ free v → (end_of s top i ≡ v) × (kind_at s v ≡ Var v)
  unfolding look_at step step_kind
  free_end i v l h e =
      let k : kind_at s (end_of s top i) ≡ Var v = free_var (kind_at s (end_of s top i)) v e in
      let q : end_of s top i ≡ v = sym (end_stays s top wf i l h) ∙ ap (step_kind (end_of s top i)) k in
      (q, ap (kind_at s) (sym q) ∙ k)

  pub free_used : (i v : ℕ) → look_at s top i ≡ free v → (1 ≤ i) × (i < top)
  free_used i v e = ⊎_elim (λ u. u) (λ q. cc) (used_or i)

  -- the view of an unbound Var
  pub var_look : (v : ℕ) → kind_at s v ≡ Var v → look_at s top v ≡ free v
  unfolding look_at step step_kind view_kind
  var_look v k = ap (λ (x : ℕ). view_kind s (kind_at s x)) (steps_fixed s top v (ap (step_kind v) k)) ∙ ap (view_kind s) k

  pub free_self : (i v : ℕ) → look_at s top i ≡ free v → look_at s top v ≡ free v
  free_self i v e = let u = free_used i v e in var_look v (free_end i v u.0 u.1 e).1

  pub free_term : (i v : ℕ) → look_at s top i ≡ free v → term_at s top v ≡ true
  unfolding term_at is_header
  free_term i v e =
      let u = free_used i v e in
      let f = free_end i v u.0 u.1 e in
      let w = steps_in s top wf top i u.0 u.1 in
      let q = f.0 in
      rw (le-leb 1 v (omega arith), lt-ltb v top (omega arith)) (ap (λ (k : Kind). not (is_header k)) f.1)

  pub node_used : (i n : ℕ) → look_at s top i ≡ nod n → (1 ≤ i) × (i < top)
  node_used i n e = ⊎_elim (λ u. u) (λ q. cc) (used_or i)

  -- ---- nodes
  -- the cell that shows a node has an edge to each of its arguments
  pub node_kids : (e n : ℕ) → 1 ≤ e → e < top → step s e ≡ e → look_at s top e ≡ nod n → (deg s e ≡ arity_of (shape_of s) n) × ((k : ℕ) → kid s e k ≡ (shape_of s).arg n k)
  node_kids e n l h st q = go (shows s top wf e l h)
    where
      go : Shows s top e → (deg s e ≡ arity_of (shape_of s) n) × ((k : ℕ) → kid s e k ≡ (shape_of s).arg n k)
      go (unbound p d) = cc
      go (plain c p d) = cc
      go (node m p d a) = let z : m ≡ n = cc in (d ∙ ap (arity_of (shape_of s)) z, λ k. a k ∙ ap (λ (x : ℕ). (shape_of s).arg x k) z)
      go (bound m p d a) = absurd (m st)

  pub node_args : (i n k : ℕ) → look_at s top i ≡ nod n → k < arity_of (shape_of s) n → term_at s top ((shape_of s).arg n k) ≡ true
  node_args i n k e b =
      let u = node_used i n e in
      let w = steps_in s top wf top i u.0 u.1 in
      let x = end_of s top i in
      let d = node_kids x n w.0 w.1 (end_stays s top wf i u.0 u.1) (look_end i u.0 u.1 ∙ e) in
      let y = d.0 in
      subst (λ (x : ℕ). term_at s top x ≡ true) (d.1 k) (kid_term s top wf x w.0 w.1 k (omega arith))

  pub node_lt : (i n : ℕ) → look_at s top i ≡ nod n → n < top
  node_lt i n e =
      let m = arity_some s n in
      let q = m.1 in
      let t = term_used s top ((shape_of s).arg n 0) (node_args i n 0 e (omega arith)) in
      let b = t.1 in
      omega arith

-- ---- stores of one shape have the same headers
plain_kind : (k : Kind) → behind k ≡ 0 → not (is_header k) ≡ true
unfolding behind is_header
plain_kind (Var v) e = refl
plain_kind (Str v) e = refl
plain_kind (Lis v) e = refl
plain_kind (Atom n zero) e = refl
plain_kind (Atom n (suc a)) e = absurd (omega arith)
plain_kind (Fixnum z) e = refl
plain_kind Bad e = refl

pub term_shape : (s t : List ℕ) (top i : ℕ) → shape_of s ≡ shape_of t → term_at s top i ≡ true → term_at t top i ≡ true
unfolding term_at
term_shape s t top i e h =
    let a = (and-eq-true_iff (leb 1 i && ltb i top) (no_header s i)).0 h in
    let z : i + behind (kind_at s i) + 0 ≡ i + behind (kind_at t i) + 0 = ap (λ x. x.arg i 0) e in
    let f = (flat (kind_at s i) a.1).1 in
    (and-eq-true_iff (leb 1 i && ltb i top) (no_header t i)).1 (a.0, plain_kind (kind_at t i) (omega arith))
