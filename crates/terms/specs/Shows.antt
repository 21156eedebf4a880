-- What a used cell of a well-formed store shows, in four cases, each with the edges that the cell has.
use Rattle.std.specs.Prelude.{◌≡◌, not, List, ℕ, zero, suc, ◌+◌, ◌<◌, ◌≤◌}
use Rattle.std.proofs.Math.Path.{refl, sym, ap}
use Rattle.std.proofs.Common.{◌∙◌, eq-eqb, ne_eqb, lt-ltb}
use Rattle.std.proofs.Math.Bool.{true}
use Rattle.std.proofs.lemmas.Bool.{false≢true}
use native.Mathlib.Omega.{arith}
use Rattle.std.proofs.Math.Decide.{ℕ_discrete}
use Rattle.cell.specs.declared.Kind.{Kind}
use Rattle.cell.specs.declared.Kind.TheVariants.{Var, Str, Lis, Atom, Fixnum, Bad}
use Rattle.store.specs.Store.{kind_at, is_header, keeps, step, step_kind, WellFormed}
use Rattle.store.specs.Steps.{steps_fixed, term_plain}
use Rattle.store.specs.Ends.{end_next}
use Rattle.store.specs.WellFormed.{end_stays}
use Rattle.cycle.specs.Kids.{arity_at, deg_kind, deg, kid_kind, kid, str_atom, lis_terms}
use Rattle.terms.specs.View.{Constant, atom, number, free, con, nod, arity_of, str_view, view_kind, look_at, dot, fun_kind, behind, shape_of}

pub data Shows (s : List ℕ) (top i : ℕ) : Type 0 where
  -- an unbound Var, an atom or number: no edge
  unbound : look_at s top i ≡ free i → deg s i ≡ 0 → Shows s top i
  plain : (c : Constant) → look_at s top i ≡ con c → deg s i ≡ 0 → Shows s top i
  -- a Str with arguments or a Lis: an edge to each argument of the node
  node : (n : ℕ) → look_at s top i ≡ nod n → deg s i ≡ arity_of (shape_of s) n → ((k : ℕ) → kid s i k ≡ (shape_of s).arg n k) → Shows s top i
  -- a bound Var: one edge, to a cell that shows the same
  bound : (step s i ≡ i → ⊥) → look_at s top i ≡ look_at s top (step s i) → deg s i ≡ 1 → ((k : ℕ) → kid s i k ≡ step s i) → Shows s top i

-- a node has one argument or more
pub arity_some : (s : List ℕ) (n : ℕ) → (a : ℕ) × (arity_of (shape_of s) n ≡ suc a)
unfolding fun_kind
arity_some s n = go (kind_at s n)
  where
    go : (k : Kind) → (a : ℕ) × ((fun_kind k).1 ≡ suc a)
    go (Var v) = (1, refl)
    go (Str v) = (1, refl)
    go (Lis v) = (1, refl)
    go (Atom n zero) = (1, refl)
    go (Atom n (suc a)) = (a, refl)
    go (Fixnum z) = (1, refl)
    go Bad = (1, refl)

-- a cell that is no header is, taken as a node, the first cell of a pair
pub flat : (k : Kind) → not (is_header k) ≡ true → (fun_kind k ≡ dot) × (behind k ≡ 0)
unfolding fun_kind behind is_header
flat (Var v) h = (refl, refl)
flat (Str v) h = (refl, refl)
flat (Lis v) h = (refl, refl)
flat (Atom n zero) h = (refl, refl)
flat (Atom n (suc a)) h = absurd (false≢true (sym (ap not (lt-ltb 0 (suc a) (omega arith))) ∙ h))
flat (Fixnum z) h = (refl, refl)
flat Bad h = (refl, refl)

module _ (s : List ℕ) (top : ℕ) (wf : WellFormed s top) (i : ℕ) (l : 1 ≤ i) (h : i < top) where
  pub look_here : step s i ≡ i → look_at s top i ≡ view_kind s (kind_at s i)
  unfolding look_at
  look_here e = ap (λ (x : ℕ). view_kind s (kind_at s x)) (steps_fixed s top i e)

  -- following from the next cell along a Var ends where following ends
  pub look_over : look_at s top i ≡ look_at s top (step s i)
  unfolding look_at
  look_over = sym (ap (λ (x : ℕ). view_kind s (kind_at s x)) (end_next s top i (end_stays s top wf i l h)))

  -- the cases by kind
  of_var : (v : ℕ) → kind_at s i ≡ Var v → Shows s top i
  unfolding step step_kind view_kind deg deg_kind kid kid_kind
  of_var v e =
      let to : step s i ≡ v = ap (step_kind i) e in
      elim (ℕ_discrete v i) [
        | yes q ↦ unbound (look_here (to ∙ q) ∙ ap (view_kind s) e ∙ ap free q) (ap (deg_kind s i) e ∙ rw (eq-eqb v i q))
        | no q ↦ bound (λ z. q (sym to ∙ z)) look_over (ap (deg_kind s i) e ∙ rw (ne_eqb v i q)) (λ k. ap (kid_kind k) e ∙ sym to)
      ]

  of_str : (f : ℕ) → kind_at s i ≡ Str f → Shows s top i
  unfolding step step_kind view_kind str_view deg deg_kind kid kid_kind fun_kind behind
  of_str f e = let a = str_atom s top wf i l h f e in go a.0 (arity_at s f) refl a.1
    where
      look : look_at s top i ≡ str_view f (kind_at s f)
      look = look_here (ap (step_kind i) e) ∙ ap (view_kind s) e

      go : (n a : ℕ) → arity_at s f ≡ a → kind_at s f ≡ Atom n (arity_at s f) → Shows s top i
      go n zero q g =
          let is : kind_at s f ≡ Atom n zero = g ∙ ap (Atom n) q in
          plain (atom n) (look ∙ ap (str_view f) is) (ap (deg_kind s i) e ∙ q)
      go n (suc a) q g =
          let is : kind_at s f ≡ Atom n (suc a) = g ∙ ap (Atom n) q in
          node f (look ∙ ap (str_view f) is) (ap (deg_kind s i) e ∙ q ∙ sym (ap (λ (k : Kind). (fun_kind k).1) is))
          (λ k. ap (kid_kind k) e ∙ sym (ap (λ (q : Kind). f + behind q + k) is))

  of_lis : (m : ℕ) → kind_at s i ≡ Lis m → Shows s top i
  unfolding step step_kind view_kind deg deg_kind kid kid_kind
  of_lis m e =
      let t = (lis_terms s top wf i l h m e).0 in
      let p = flat (kind_at s m) (term_plain s top m t) in
      node m (look_here (ap (step_kind i) e) ∙ ap (view_kind s) e) (ap (deg_kind s i) e ∙ sym (ap (λ x. x.1) p.0))
      (λ k. ap (kid_kind k) e ∙ sym (ap (λ (b : ℕ). m + b + k) p.1 ∙ ap (λ (x : ℕ). x + k) same))
    where
      same : m + 0 ≡ m
      same = omega arith

  pub shows : Shows s top i
  unfolding keeps step step_kind view_kind deg deg_kind
  shows = go (kind_at s i) refl (wf.keep i l h)
    where
      go : (q : Kind) → kind_at s i ≡ q → keeps s top i q ≡ true → Shows s top i
      go (Var v) e t = of_var v e
      go (Str f) e t = of_str f e
      go (Lis m) e t = of_lis m e
      go (Atom n a) e t = plain (atom n) (look_here (ap (step_kind i) e) ∙ ap (view_kind s) e) (ap (deg_kind s i) e)
      go (Fixnum z) e t = plain (number z) (look_here (ap (step_kind i) e) ∙ ap (view_kind s) e) (ap (deg_kind s i) e)
      go Bad e t = absurd (false≢true t)
