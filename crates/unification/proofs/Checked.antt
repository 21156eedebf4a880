-- Checked unification of roots that stand for finite terms: a no means that no finite terms make them equal; after a yes the cells' terms are instances of those at entry by one substitution, which is a most general unifier.
use Rattle.std.specs.Prelude.{◌≡◌, refl, true, [], ◌⊎◌, ℕ, ◌<◌}
use Rattle.std.proofs.Common.{sym, subst, ◌∙◌, inl, inr, arith}
use Rattle.std.proofs.Math.Path.{ap}
use Rattle.store.specs.Store.{term_at, WellFormed}
use Rattle.trail.specs.State.{State}
use Rattle.terms.specs.View.{View, free, nod, Shape, arity_of, look_at, shape_of}
use Rattle.terms.specs.Term.{Term, variable, constant, compound, nth}
use Rattle.terms.specs.Stands.{Stands, stands_arg}
use Rattle.terms.specs.Finite.{StandsAt}
use Rattle.unification.specs.Machine.{Act, bind, clash, Machine, Ending, yes, clashes, occurs, late, run, start, fuel}
use Rattle.unification.specs.Trees.{Equal}
use Rattle.unification.specs.Substitution.{inst, Unifies, only, label, sub, inst_inst, inst_id}
use Rattle.unification.specs.Seen.{Seen, seen_of, pushed, put, put_is, apply, All, all_map}
use Rattle.unification.proofs.Seen.{all_args}
use Rattle.unification.specs.Cases.{Case, skips, binds, binds', joins, parts}
use Rattle.unification.specs.Occurs.{Within, itself, inside, Below}
use Rattle.unification.specs.Live.{Live, Passes, Stops, Ends}
use Rattle.unification.proofs.Live.{run_keeps}
use Rattle.unification.specs.Nodes.{free_self}
use Rattle.unification.proofs.Sound.{Keeps, sound, no_solution}
use Rattle.unification.specs.Agreement.{GoodSeen}
use Rattle.unification.proofs.Agreement.{good_step, good_start, yes_agrees}
use Rattle.unification.specs.FiniteTerms.{stands_stay, stands_bind, agree_eq, occurs_never, factors}
use Rattle.unification.specs.TermOf.{given, Finite, given_is, given_var, given_solves, inst_agree}
use Rattle.unification.specs.Checked.{HasTerm, Into}

abbrev Finitely : Shape → (ℕ → View) → Seen → Type 0
Finitely sh look₀ s = Into sh look₀ s.look × All (λ i j. HasTerm sh s.look i × HasTerm sh s.look j) s.pairs

module _ (sh : Shape) (look : ℕ → View) where
  -- what a variable is bound to does not hold it
  clear : (v : ℕ) (x : View) → ((n : ℕ) → x ≡ nod n → Below sh look v n → ⊥) → (x ≡ free v → ⊥) → (b : ℕ) → look b ≡ x → Within sh look v b → ⊥
  clear v x f g b e (itself h) = g (sym e ∙ h)
  clear v x f g b e (inside n k h l r) = f n (sym e ∙ h) (k, l, r)

  bind_terms : (v : ℕ) (x : View) → ((n : ℕ) → x ≡ nod n → Below sh look v n → ⊥) → (x ≡ free v → ⊥) → (b : ℕ) → look b ≡ x → HasTerm sh look b → (s : Term) × ((t : Term) (i : ℕ) → Stands sh look t i → Stands sh (λ i. put v x (look i)) (inst (only v s) t) i)
  bind_terms v x f g b e h = (h.0, stands_bind sh look v x h.0 b (stands_stay sh look v x h.0 b (clear v x f g b e) h.1) e g)

  arg_term : (a n j : ℕ) → HasTerm sh look a → look a ≡ nod n → j < arity_of sh n → HasTerm sh look (sh.arg n j)
  arg_term a n j (t, h) e l = at t h
    where
      at : (t : Term) → Stands sh look t a → HasTerm sh look (sh.arg n j)
      at (variable v) h = cc
      at (constant v) h = cc
      at (compound f ts) h = let q : h.0 ≡ n = cc in (nth ts j, rw q at (stands_arg sh look ts h.0 h.3 j (omega (arith, ap (λ x. x.1) h.2, ap (λ x. arity_of sh x) q))))

module _ (sh : Shape) (look₀ : ℕ → View) (s : Seen) (a b : ℕ) (I : Finitely sh look₀ s) where
  bound : (v : ℕ) (x : View) → (c : ℕ) → HasTerm sh s.look c → s.look c ≡ x → (x ≡ free v → ⊥) → ((n : ℕ) → x ≡ nod n → Below sh s.look v n → ⊥) → Finitely sh look₀ (apply sh s (bind v x))
  unfolding apply
  bound v x c hc e g f =
      let r = bind_terms sh s.look v x f g c e hc in (
        ((λ w. inst (only v r.0) (I.0.0 w)), λ i t h. rw (← (inst_inst (only v r.0) I.0.0 t)) (r.1 (inst I.0.0 t) i (I.0.1 i t h))),
        all_map _ _ (λ i j h. ((inst (only v r.0) h.0.0, r.1 h.0.0 i h.0.1), (inst (only v r.0) h.1.0, r.1 h.1.0 j h.1.1))) s.pairs I.1,
      )

  finite_step : (u : Act) → Case sh s.classes (s.look a) (s.look b) u → HasTerm sh s.look a → HasTerm sh s.look b → ((v n : ℕ) → u ≡ bind v (nod n) → Below sh s.look v n → ⊥) → (u ≡ clash → ⊥) → Finitely sh look₀ (apply sh s u)
  unfolding apply
  finite_step u (skips e) ha hb f z = I
  finite_step u (binds v x p q g) ha hb f z = bound v x b hb q g (λ n e. f v n (ap (bind v) e))
  finite_step u (binds' v x p q g) ha hb f z = bound v x a ha p g (λ n e. f v n (ap (bind v) e))
  finite_step u (joins n m p q e g) ha hb f z =
      (I.0, all_args _ sh n m s.pairs _ 0 (λ j h l. (arg_term sh s.look a n j ha p (omega arith), arg_term sh s.look b m j hb q (omega (arith, ap (λ x. x.1) e)))) I.1)
  finite_step u (parts x) ha hb f z = absurd (z refl)

-- ---- what is unbound was unbound at the start
abbrev Old : (ℕ → View) → Seen → Type 0
Old look₀ s = (i w : ℕ) → s.look i ≡ free w → look₀ w ≡ free w

old_step : (sh : Shape) (look₀ : ℕ → View) (s : Seen) (a b : ℕ) (u : Act) → Case sh s.classes (s.look a) (s.look b) u → Old look₀ s → Old look₀ (apply sh s u)
unfolding apply
old_step sh look₀ s a b u (skips e) k = k
old_step sh look₀ s a b u (binds v x p q f) k = λ i w. put_is v x (s.look i) (free w) (look₀ w ≡ free w) (λ e. k b w (q ∙ e)) (k i w)
old_step sh look₀ s a b u (binds' v x p q f) k = λ i w. put_is v x (s.look i) (free w) (look₀ w ≡ free w) (λ e. k a w (p ∙ e)) (k i w)
old_step sh look₀ s a b u (joins n m p q e f) k = k
old_step sh look₀ s a b u (parts x) k = k

-- ---- runs from roots that stand for finite terms
module _ (s : State) (wf : WellFormed s.cells s.top) (a b : ℕ) (live : Live s (fuel s.top) (start s a b)) (ta : term_at s.cells s.top a ≡ true) (tb : term_at s.cells s.top b ≡ true) (t t' : Term) (ht : StandsAt s.cells s.top t a) (ht' : StandsAt s.cells s.top t' b) where
  abbrev sh : Shape
  sh = shape_of s.cells

  abbrev look₀ : ℕ → View
  look₀ = look_at s.cells s.top

  abbrev ran : Ending
  ran = run true s.top (fuel s.top) (start s a b)

  -- a unifier ρ, as trees for the cells, is kept: so there is no clash and no stop
  module _ (ρ : ℕ → Term) (q : Unifies ρ t t') where
    abbrev P : ℕ → Type 0
    P = Finite s.cells s.top wf ρ

    abbrev σ : ℕ → Term
    σ = given s.cells s.top wf ρ

    abbrev Kept : Seen → Type 0
    Kept = Keeps Term label sub P sh σ

    start_kept : Kept (seen_of s.top (start s a b))
    start_kept = (
      given_solves s.cells s.top wf ρ,
      (((ta, (t, ht)), (tb, (t', ht')), given_is s.cells s.top wf ρ t a ta ht ∙ q ∙ sym (given_is s.cells s.top wf ρ t' b tb ht')), tt),
    )

    no_stop : (r : Seen) (i j : ℕ) → Stops sh r i j → Kept (pushed i j r) → ⊥
    no_stop r i j z k = at z.sides z.below k.1.0
      where
        at : ((r.look i ≡ free z.variable) × (r.look j ≡ nod z.node)) ⊎ ((r.look j ≡ free z.variable) × (r.look i ≡ nod z.node)) → Below sh r.look z.variable z.node → Equal Term label sub P sh σ i j → ⊥
        at (inl h) (n, l, y) e = occurs_never P sh r.look σ k.0 i j z.variable z.node n e.0 e.1 e.2 h.0 h.1 l y
        at (inr h) (n, l, y) e = occurs_never P sh r.look σ k.0 j i z.variable z.node n e.1 e.0 (sym e.2) h.0 h.1 l y

    pub unifier_kept : Ends s Kept ⊥ ⊥ ran
    unifier_kept = run_keeps s true Kept ⊥ ⊥ (λ r i j u c n _ k. sound Term label sub P sh σ r i j u c n k) (no_solution Term label sub P sh σ) (λ _. no_stop) (fuel s.top) (start s a b) live start_kept

    -- where there is a unifier, the answer is yes
    pub unifier_yes : (m : Machine) × (ran ≡ yes m)
    unifier_yes = at ran refl
      where
        at : (o : Ending) → ran ≡ o → (m : Machine) × (o ≡ yes m)
        at (yes m) e = (m, refl)
        at clashes e = absurd (subst (Ends s Kept ⊥ ⊥) e unifier_kept)
        at occurs e = absurd (subst (Ends s Kept ⊥ ⊥) e unifier_kept)
        at late e = absurd (subst (Ends s Kept ⊥ ⊥) e unifier_kept)

  -- ---- after a yes
  abbrev Whole : Seen → Type 0
  Whole r = GoodSeen sh a b r × Finitely sh look₀ r

  whole_step : (r : Seen) (i j : ℕ) (u : Act) → Case sh r.classes (r.look i) (r.look j) u → (u ≡ clash → ⊥) → Passes true sh r.look u → Whole (pushed i j r) → Whole (apply sh r u)
  whole_step r i j u c n ps (g, I) =
      (good_step sh a b r i j u c n g, finite_step sh look₀ r i j (I.0, I.1.1) u c I.1.0.0 I.1.0.1 (ps refl) n)

  module _ (m : Machine) (e : ran ≡ yes m) where
    whole_end : (f : ℕ) × Live s f m × Whole (seen_of s.top m) × (m.pairs ≡ [])
    whole_end =
        subst (Ends s Whole (Unit {0}) (Unit {0})) e
        (run_keeps s true Whole (Unit {0}) (Unit {0}) whole_step (λ _ _ _ _ _. tt) (λ _ _ _ _ _ _. tt) (fuel s.top) (start s a b) live
        (good_start sh a b look₀, ((variable, λ i u h. rw (inst_id u) h), (((t, ht), (t', ht')), tt))))

    -- the substitution
    pub came : ℕ → Term
    came = whole_end.2.1.0.0

    pub came_stands : (i : ℕ) (u : Term) → Stands sh look₀ u i → Stands sh (look_at m.cells s.top) (inst came u) i
    unfolding came
    came_stands = whole_end.2.1.0.1

    pub came_unifies : Unifies came t t'
    came_unifies =
        let h = whole_end in
        agree_eq sh (look_at m.cells s.top) (inst came t) (inst came t') a b
        (yes_agrees sh a b (look_at m.cells s.top) m.classes (rw h.3 at h.2.0)) (came_stands a t ht) (came_stands b t' ht')

    old_end : Old look₀ (seen_of s.top m)
    old_end =
        let h : (f : ℕ) × Live s f m × Old look₀ (seen_of s.top m) × (m.pairs ≡ []) =
        subst (Ends s (Old look₀) (Unit {0}) (Unit {0})) e
        (run_keeps s true (Old look₀) (Unit {0}) (Unit {0}) (λ r i j u c _ _ k. old_step sh look₀ r i j u c k) (λ _ _ _ _ _. tt) (λ _ _ _ _ _ _. tt) (fuel s.top) (start s a b) live
        (free_self s.cells s.top wf)) in
        h.2

    -- any substitution that makes each cell's term into what it has become is most general: every unifier is an instance of it
    pub most_general : (θ : ℕ → Term) → ((i : ℕ) (u : Term) → Stands sh look₀ u i → Stands sh (look_at m.cells s.top) (inst θ u) i) → (ρ : ℕ → Term) → Unifies ρ t t' → (i : ℕ) (u : Term) → term_at s.cells s.top i ≡ true → Stands sh look₀ u i → inst ρ u ≡ inst ρ (inst θ u)
    most_general θ h ρ q i u ti hu =
        let k : (f : ℕ) × Live s f m × Kept ρ q (seen_of s.top m) × (m.pairs ≡ []) = subst (Ends s (Kept ρ q) ⊥ ⊥) e (unifier_kept ρ q) in
        sym (given_is s.cells s.top wf ρ u i ti hu)
        ∙ factors (P ρ q) sh (look_at m.cells s.top) (σ ρ q) k.2.0 (inst θ u) i (ti, (u, hu)) (h i u hu)
        ∙ inst_agree sh (look_at m.cells s.top) (σ ρ q) ρ (λ j w z. given_var s.cells s.top wf ρ w w (old_end j w z)) (inst θ u) i (h i u hu)
