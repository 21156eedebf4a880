-- The term that each kind of cell stands for: a Lis means '.'/2, as a Str of it does, and a Str of arity 0 its atom.
use Rattle.std.specs.Prelude.{◌≡◌, refl, List, ℤ}
use Rattle.std.proofs.Common.{sym, ◌∙◌}
use Rattle.std.proofs.Math.Path.{ap, subst}
use Prim.Native.Nat.{ℕ, zero, suc, ◌+◌, ◌<◌, ◌≤◌}
use native.Mathlib.Omega.{arith}
use Rattle.cell.specs.declared.Kind.{Kind}
use Rattle.cell.specs.declared.Kind.TheVariants.{Var, Str, Lis, Atom, Fixnum}
use Rattle.store.specs.Store.{kind_at, step, step_kind, WellFormed}
use Rattle.store.specs.Steps.{term_plain}
use Rattle.cycle.specs.Kids.{lis_terms}
use Rattle.terms.specs.View.{atom, number, str_view, view_kind, look_at, fun_kind, behind, shape_of}
use Rattle.terms.specs.Term.{Term, variable, constant, compound, Terms, one, more, many, nth}
use Rattle.terms.specs.Stands.{stands_args}
use Rattle.terms.specs.Finite.{StandsAt}
use Rattle.terms.specs.Shows.{flat, look_here}

module _ (s : List ℕ) (top : ℕ) (wf : WellFormed s top) (i : ℕ) (l : 1 ≤ i) (h : i < top) where
  -- an atom and a number mean themselves
  pub atom_means : (n a : ℕ) → kind_at s i ≡ Atom n a → StandsAt s top (constant (atom n)) i
  unfolding step step_kind view_kind
  atom_means n a e = look_here s top wf i l h (ap (step_kind i) e) ∙ ap (view_kind s) e

  pub number_means : (z : ℤ) → kind_at s i ≡ Fixnum z → StandsAt s top (constant (number z)) i
  unfolding step step_kind view_kind
  number_means z e = look_here s top wf i l h (ap (step_kind i) e) ∙ ap (view_kind s) e

  pub unbound_means : kind_at s i ≡ Var i → StandsAt s top (variable i) i
  unfolding step step_kind view_kind
  unbound_means e = look_here s top wf i l h (ap (step_kind i) e) ∙ ap (view_kind s) e

  -- a Str of arity 0 means its atom
  pub str_atom_means : (f n : ℕ) → kind_at s i ≡ Str f → kind_at s f ≡ Atom n 0 → StandsAt s top (constant (atom n)) i
  unfolding step step_kind view_kind str_view
  str_atom_means f n e g = look_here s top wf i l h (ap (step_kind i) e) ∙ ap (view_kind s) e ∙ ap (str_view f) g

  -- any other Str means the compound of its name and of the terms behind its functor cell
  pub str_means : (f n : ℕ) (ts : Terms) → kind_at s i ≡ Str f → kind_at s f ≡ Atom n (many ts) → ((k : ℕ) → k < many ts → StandsAt s top (nth ts k) (f + 1 + k)) → StandsAt s top (compound n ts) i
  unfolding step step_kind view_kind str_view fun_kind behind
  str_means f n ts e g st = go (many_suc ts)
    where
      many_suc : (ts : Terms) → (a : ℕ) × (many ts ≡ suc a)
      many_suc (one t) = (0, refl)
      many_suc (more t ts) = (many ts, refl)

      go : (a : ℕ) × (many ts ≡ suc a) → StandsAt s top (compound n ts) i
      go (a, q) =
          let is : kind_at s f ≡ Atom n (suc a) = g ∙ ap (Atom n) q in
          let fu : (shape_of s).fun f ≡ (n, many ts) = ap fun_kind is ∙ ap (λ (x : ℕ). (n, x)) (sym q) in
          let at : (k : ℕ) → (shape_of s).arg f k ≡ f + 1 + k = λ k. ap (λ (x : Kind). f + behind x + k) is in
          (f, look_here s top wf i l h (ap (step_kind i) e) ∙ ap (view_kind s) e ∙ ap (str_view f) is, fu, stands_args (shape_of s) (look_at s top) ts f (λ k b. subst (StandsAt s top (nth ts k)) (sym (at k)) (st k b)))

  -- a Lis means '.'/2 of the terms of its two cells
  pub lis_means : (p : ℕ) (t u : Term) → kind_at s i ≡ Lis p → StandsAt s top t p → StandsAt s top u (p + 1) → StandsAt s top (compound 46 (more t (one u))) i
  unfolding step step_kind view_kind
  lis_means p t u e ht hu =
      let d = (lis_terms s top wf i l h p e).0 in
      let f = flat (kind_at s p) (term_plain s top p d) in
      let b = f.1 in
      let z : p ≡ (shape_of s).arg p 0 = omega arith in
      let y : p + 1 ≡ (shape_of s).arg p 1 = omega arith in
      (p, look_here s top wf i l h (ap (step_kind i) e) ∙ ap (view_kind s) e, f.0, (subst (StandsAt s top t) z ht, subst (StandsAt s top u) y hu))

  -- and so does a Str of '.'/2
  pub str_dot_means : (f : ℕ) (t u : Term) → kind_at s i ≡ Str f → kind_at s f ≡ Atom 46 2 → StandsAt s top t (f + 1) → StandsAt s top u (f + 2) → StandsAt s top (compound 46 (more t (one u))) i
  str_dot_means f t u e g ht hu = str_means f 46 (more t (one u)) e g at
    where
      at : (k : ℕ) → k < 2 → StandsAt s top (nth (more t (one u)) k) (f + 1 + k)
      at zero b = let z : f + 1 ≡ f + 1 + 0 = omega arith in subst (StandsAt s top t) z ht
      at (suc zero) b = let z : f + 2 ≡ f + 1 + 1 = omega arith in subst (StandsAt s top u) z hu
      at (suc (suc k)) b = absurd (omega arith)
