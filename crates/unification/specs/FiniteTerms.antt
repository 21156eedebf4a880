-- Finite terms under bindings: what a binding does to the term of a cell, cells that agree to every depth stand for one term, a finite tree is no proper part of itself, and what a solution makes of a cell's term.
use Rattle.std.specs.Prelude.{◌≡◌, Bool, cond, ℕ, zero, suc, ◌<◌, ◌≤◌}
use Rattle.std.proofs.Math.Path.{refl, sym, ap}
use Rattle.std.proofs.Common.{ap₂, ◌∙◌, arith, eqb-true}
use Rattle.std.proofs.Math.Bool.{true, false}
use Rattle.std.proofs.Math.Dec.{eqb}
use Rattle.std.proofs.lemmas.Bool.{eqb-false}
use Rattle.terms.specs.View.{Constant, View, free, con, nod, Shape, arity_of}
use Rattle.terms.specs.Term.{Term, variable, constant, compound, Terms, one, more, many, nth, term_ind, terms_ext}
use Rattle.terms.specs.Stands.{Stands, stands_arg, stands_args, stands_same}
use Rattle.unification.specs.Trees.{functor, Has, Solves, Same, Agree}
use Rattle.unification.specs.Substitution.{inst, insts, only, label, sub, compound_is, constant_is, many_insts, nth_insts, size, sizes}
use Rattle.unification.specs.Seen.{put, put_here, put_not}
use Rattle.unification.specs.Occurs.{Within, itself, inside}

module _ (sh : Shape) (look : ℕ → View) where
  module _ (v : ℕ) (x : View) where
    -- a view other than the variable's stays
    put_stays : (i : ℕ) (y : View) → look i ≡ y → (y ≡ free v → ⊥) → put v x (look i) ≡ y
    put_stays i y e n = put_not v x (look i) (λ q. n (sym e ∙ q)) ∙ e

    put_con : (i : ℕ) (c : Constant) → look i ≡ con c → put v x (look i) ≡ con c
    put_con i c e = put_stays i (con c) e (λ q. cc)

    put_nod : (i n : ℕ) → look i ≡ nod n → put v x (look i) ≡ nod n
    put_nod i n e = put_stays i (nod n) e (λ q. cc)

    put_other : (i w : ℕ) → (w ≡ v → ⊥) → look i ≡ free w → put v x (look i) ≡ free w
    put_other i w f e = put_stays i (free w) e (λ q. f (cc))

    -- a cell that does not reach v keeps its term
    pub stands_stay : (t : Term) (i : ℕ) → (Within sh look v i → ⊥) → Stands sh look t i → Stands sh (λ i. put v x (look i)) t i
    stands_stay = term_ind (λ t. (i : ℕ) → (Within sh look v i → ⊥) → Stands sh look t i → Stands sh (λ i. put v x (look i)) t i)
        (λ w i f h. put_other i w (λ e. f (itself (rw (← e) h))) h)
        (λ c i f h. put_con i c h)
        (λ g ts q i f h. (
          h.0,
          put_nod i h.0 h.1,
          h.2,
          stands_args sh (λ i. put v x (look i)) ts h.0
              (λ j l. q j l (sh.arg h.0 j) (λ r. f (inside h.0 j h.1 (omega (arith, ap (λ x. x.1) h.2)) r)) (stands_arg sh look ts h.0 h.3 j l)),
        ))

    only_case : (s : Term) (b : ℕ) → Stands sh (λ i. put v x (look i)) s b → look b ≡ x → (x ≡ free v → ⊥)
        → (w i : ℕ) → look i ≡ free w → Stands sh (λ i. put v x (look i)) (only v s w) i
    unfolding only
    only_case s b hs hb hx w i h = at (eqb w v) refl
      where
        at : (p : Bool) → eqb w v ≡ p → Stands sh (λ i. put v x (look i)) (cond p s (variable w)) i
        at true e = stands_same sh (λ i. put v x (look i)) s b i
            (rw hb (put_not v x x hx) ∙ sym (put_here v x (look i) (h ∙ ap free (eqb-true w v e)))) hs
        at false e = put_other i w (eqb-false w v e) h

    -- the others have s put for v
    pub stands_bind : (s : Term) (b : ℕ) → Stands sh (λ i. put v x (look i)) s b → look b ≡ x → (x ≡ free v → ⊥)
        → (t : Term) (i : ℕ) → Stands sh look t i → Stands sh (λ i. put v x (look i)) (inst (only v s) t) i
    stands_bind s b hs hb hx = term_ind (λ t. (i : ℕ) → Stands sh look t i → Stands sh (λ i. put v x (look i)) (inst (only v s) t) i)
        (only_case s b hs hb hx)
        (λ c i h. put_con i c h)
        (λ g ts q i h. (
          h.0,
          put_nod i h.0 h.1,
          rw (many_insts (only v s) ts) h.2,
          stands_args sh (λ i. put v x (look i)) (insts (only v s) ts) h.0
              (λ j l. rw (nth_insts (only v s) ts j) (let l' : j < many ts = rw (many_insts (only v s) ts) at l in q j l' (sh.arg h.0 j) (stands_arg sh look ts h.0 h.3 j l'))),
        ))

-- cells that agree to every depth stand for one term
module _ (sh : Shape) (look : ℕ → View) where
  pub agree_eq : (t u : Term) (i j : ℕ) → ((d : ℕ) → Agree sh look d i j) → Stands sh look t i → Stands sh look u j → t ≡ u
  agree_eq = term_ind (λ t. (u : Term) (i j : ℕ) → ((d : ℕ) → Agree sh look d i j) → Stands sh look t i → Stands sh look u j → t ≡ u)
      vars cons cmps
    where
      vars : (v : ℕ) (u : Term) (i j : ℕ) → ((d : ℕ) → Agree sh look d i j) → look i ≡ free v → Stands sh look u j → variable v ≡ u
      vars v (variable w) i j a p q = ap variable (rw (p, q) at (a 1))
      vars v (constant w) i j a p q = absurd (rw (p, q) at (a 1))
      vars v (compound f us) i j a p q = absurd (rw (p, q.1) at (a 1))

      cons : (v : Constant) (u : Term) (i j : ℕ) → ((d : ℕ) → Agree sh look d i j) → look i ≡ con v → Stands sh look u j → constant v ≡ u
      cons v (variable w) i j a p q = absurd (rw (p, q) at (a 1))
      cons v (constant w) i j a p q = ap constant (rw (p, q) at (a 1))
      cons v (compound f us) i j a p q = absurd (rw (p, q.1) at (a 1))

      cmps : (f : ℕ) (ts : Terms)
          → ((k : ℕ) → k < many ts → (u : Term) (i j : ℕ) → ((d : ℕ) → Agree sh look d i j) → Stands sh look (nth ts k) i → Stands sh look u j → nth ts k ≡ u)
          → (u : Term) (i j : ℕ) → ((d : ℕ) → Agree sh look d i j) → Stands sh look (compound f ts) i → Stands sh look u j → compound f ts ≡ u
      cmps f ts h (variable w) i j a p q = absurd (rw (p.1, q) at (a 1))
      cmps f ts h (constant w) i j a p q = absurd (rw (p.1, q) at (a 1))
      cmps f ts h (compound g us) i j a p q =
          let b : (d : ℕ) → Same sh (Agree sh look d) (nod p.0) (nod q.0) = λ d. rw (p.1, q.1) at (a (suc d)) in
          let e : ◌≡◌ {A = ℕ × ℕ} (f, many ts) (g, many us) = sym p.2 ∙ (b 0).0 ∙ q.2 in
          ap₂ compound (ap (λ x. x.0) e) (terms_ext ts us (ap (λ x. x.1) e) (λ k l.
          h k l (nth us k) (sh.arg p.0 k) (sh.arg q.0 k) (λ d. (b d).1 k (omega (arith, ap (λ x. x.1) p.2)))
          (stands_arg sh look ts p.0 p.3 k l) (stands_arg sh look us q.0 q.3 k (omega (arith, ap (λ x. x.1) e)))))

pub nth_size : (ts : Terms) (k : ℕ) → size (nth ts k) ≤ sizes ts
unfolding size
nth_size (one t) k = omega arith
nth_size (more t ts) zero = omega arith
nth_size (more t ts) (suc k) = omega (arith, nth_size ts k)

sub_size : (d : Term) (f : ℕ × ℕ) (k : ℕ) → label d ≡ functor f → size (sub d k) < size d
unfolding size
sub_size (variable v) f k e = cc
sub_size (constant v) f k e = cc
sub_size (compound g ts) f k e = omega (arith, nth_size ts k)

module _ (P : ℕ → Type 0) (sh : Shape) (look : ℕ → View) (σ : ℕ → Term) (k : Solves Term label sub P sh σ look) where
  within_size : (v i : ℕ) → P i → Within sh look v i → size (σ v) ≤ size (σ i)
  within_size v i p (itself e) = let h : σ i ≡ σ v = rw e at (k i p) in rw h (omega arith)
  within_size v i p (inside n j e l r) =
      let h : Has Term label sub P sh σ (σ i) (nod n) = rw e at (k i p) in
      let s : size (sub (σ i) j) < size (σ i) = sub_size (σ i) (sh.fun n) j h.0 in
      omega (arith, rw (← (h.1 j l).1) at (within_size v (sh.arg n j) (h.1 j l).0 r), s)

  -- a node below which v lies is no value for v
  pub occurs_never : (a b v n j : ℕ) → P a → P b → σ a ≡ σ b → look a ≡ free v → look b ≡ nod n → j < arity_of sh n → Within sh look v (sh.arg n j) → ⊥
  occurs_never a b v n j pa pb q ea eb l r =
      let hv : σ a ≡ σ v = rw ea at (k a pa) in
      let h : Has Term label sub P sh σ (σ b) (nod n) = rw eb at (k b pb) in
      let s : size (sub (σ b) j) < size (σ b) = sub_size (σ b) (sh.fun n) j h.0 in
      let t : size (σ v) ≤ size (sub (σ b) j) = rw (h.1 j l).1 (within_size v (sh.arg n j) (h.1 j l).0 r) in
      omega (arith, s, t, ap size (sym hv ∙ q))

  -- most general: σ at a cell is σ put into the cell's term
  pub factors : (t : Term) (i : ℕ) → P i → Stands sh look t i → σ i ≡ inst σ t
  factors = term_ind (λ t. (i : ℕ) → P i → Stands sh look t i → σ i ≡ inst σ t)
      (λ v i p h. rw h at (k i p))
      (λ c i p h. constant_is (σ i) c (rw h at (k i p)))
      (λ f ts q i p h.
      let g : Has Term label sub P sh σ (σ i) (nod h.0) = rw h.1 at (k i p) in
      compound_is (σ i) f (insts σ ts) (rw (many_insts σ ts) (rw h.2 at g.0)) (λ j l.
      let l' : j < many ts = rw (many_insts σ ts) at l in
      let a = g.1 j (omega (arith, ap (λ x. x.1) h.2)) in
      a.1 ∙ q j l' (sh.arg h.0 j) a.0 (stands_arg sh look ts h.0 h.3 j l') ∙ sym (nth_insts σ ts j)))
