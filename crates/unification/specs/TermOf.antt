-- The finite term of each cell that has one, as a function of the cell; and terms put for the variables as trees for the cells.
use Rattle.std.specs.Prelude.{◌≡◌, Bool, List, ℕ, ◌<◌}
use Rattle.std.proofs.Math.Path.{refl, sym, ap}
use Rattle.std.proofs.Common.{◌∙◌, arith}
use Rattle.std.proofs.Math.Bool.{true, false}
use Rattle.std.proofs.lemmas.Bool.{false≢true}
use Rattle.store.specs.Store.{term_at, WellFormed}
use Rattle.store.specs.Steps.{term_used}
use Rattle.cycle.specs.Graph.{no_cycle}
use Rattle.cycle.specs.Verdict.{cyclic_at}
use Rattle.cycle.specs.Cyclic.{true_cyclic, false_acc}
use Rattle.terms.specs.View.{View, free, Shape, look_at, shape_of}
use Rattle.terms.specs.Term.{Term, variable, constant, compound, many, nth, term_ind, terms_ext}
use Rattle.terms.specs.Stands.{Stands, stands_arg}
use Rattle.terms.specs.Finite.{StandsAt, OneTerm, acyclic_stands, stands_acyclic}
use Rattle.unification.specs.Trees.{functor, Has, Solves}
use Rattle.unification.specs.Substitution.{inst, insts, label, sub, many_insts, nth_insts}
use Rattle.unification.specs.Nodes.{free_self, free_term, node_args}

module _ (s : List ℕ) (top : ℕ) (wf : WellFormed s top) where
  pub finite : (i : ℕ) → term_at s top i ≡ true → cyclic_at s top i ≡ false → OneTerm s top i
  finite i t c = let u = term_used s top i t in acyclic_stands s top wf i t (no_cycle (false_acc s top wf i u.0 u.1 c))

  by_tests : (i : ℕ) (t c : Bool) → term_at s top i ≡ t → cyclic_at s top i ≡ c → Term
  by_tests i true false p q = (finite i p q).term
  by_tests i true true p q = variable i
  by_tests i false c p q = variable i

  -- the term that a cell stands for; of a cell with none a variable
  pub term_of : ℕ → Term
  term_of i = by_tests i (term_at s top i) (cyclic_at s top i) refl refl

  pub term_is : (t : Term) (i : ℕ) → term_at s top i ≡ true → StandsAt s top t i → term_of i ≡ t
  unfolding term_of by_tests
  term_is t i p h = at (term_at s top i) (cyclic_at s top i) refl refl
    where
      at : (a c : Bool) (x : term_at s top i ≡ a) (y : cyclic_at s top i ≡ c) → by_tests i a c x y ≡ t
      at true false x y = sym ((finite i x y).once t h)
      at true true x y = let u = term_used s top i p in absurd (stands_acyclic s top wf i p t h (true_cyclic s top wf i u.0 u.1 y))
      at false c x y = absurd (false≢true (sym x ∙ p))

  pub var_is : (i v : ℕ) → look_at s top i ≡ free v → term_of v ≡ variable v
  var_is i v e = term_is (variable v) v (free_term s top wf i v e) (free_self s top wf i v e)

  -- ---- terms ρ for the variables, as a tree for each cell
  module _ (ρ : ℕ → Term) where
    pub given : ℕ → Term
    given i = inst ρ (term_of i)

    -- the cells that have a term
    abbrev pub Finite : ℕ → Type 0
    Finite i = (term_at s top i ≡ true) × ((t : Term) × StandsAt s top t i)

    pub given_is : (t : Term) (i : ℕ) → term_at s top i ≡ true → StandsAt s top t i → given i ≡ inst ρ t
    unfolding given
    given_is t i p h = ap (inst ρ) (term_is t i p h)

    pub given_var : (i v : ℕ) → look_at s top i ≡ free v → given v ≡ ρ v
    unfolding given
    given_var i v e = ap (inst ρ) (var_is i v e)

    -- they agree with what the cells show
    pub given_solves : Solves Term label sub Finite (shape_of s) given (look_at s top)
    given_solves i (p, th) = at th.0 th.1
      where
        at : (t : Term) → StandsAt s top t i → Has Term label sub Finite (shape_of s) given (given i) (look_at s top i)
        at (variable v) h = rw h (given_is (variable v) i p h ∙ sym (given_var i v h))
        at (constant c) h = rw h (ap label (given_is (constant c) i p h))
        at (compound f ts) h =
            rw h.1 (
              let q : ◌≡◌ {A = ℕ × ℕ} (f, many (insts ρ ts)) ((shape_of s).fun h.0) = rw (many_insts ρ ts) (sym h.2) in
                  ap label (given_is (compound f ts) i p h) ∙ ap functor q,
              λ k j.
                  let kt : k < many ts = omega (arith, ap (λ x. x.1) h.2) in
                  let r = stands_arg (shape_of s) (look_at s top) ts h.0 h.3 k kt in
                  let ta = node_args s top wf i h.0 k h.1 j in (
                    (ta, (nth ts k, r)),
                    ap (λ t. sub t k) (given_is (compound f ts) i p h) ∙ nth_insts ρ ts k ∙ sym (given_is (nth ts k) ((shape_of s).arg h.0 k) ta r),
                  ),
            )

-- two substitutions that agree on the variables that are shown
pub inst_agree : (sh : Shape) (look : ℕ → View) (σ ρ : ℕ → Term) → ((i w : ℕ) → look i ≡ free w → σ w ≡ ρ w) → (t : Term) (i : ℕ) → Stands sh look t i → inst σ t ≡ inst ρ t
inst_agree sh look σ ρ h =
    term_ind (λ t. (i : ℕ) → Stands sh look t i → inst σ t ≡ inst ρ t)
    (λ v i e. h i v e)
    (λ c i e. refl)
    (λ f ts q i e. ap (compound f) (terms_ext (insts σ ts) (insts ρ ts) (many_insts σ ts ∙ sym (many_insts ρ ts))
    (λ k l. let l' : k < many ts = rw (many_insts σ ts) at l in
    nth_insts σ ts k ∙ q k l' (sh.arg e.0 k) (stands_arg sh look ts e.0 e.3 k l') ∙ sym (nth_insts ρ ts k))))
