-- Checked unification is plain unification and one test after its yes: that a root reaches no cycle.
use Rattle.std.specs.Prelude.{◌≡◌, refl, Bool, true, false, cond, List, [], ◌∷◌, ◌⊎◌, ℕ, zero, suc, ◌<◌}
use Rattle.std.proofs.Common.{sym, ap, ap₂, subst, ◌∙◌, inl, inr, ⊎_elim, arith}
use Rattle.store.specs.Store.{term_at, end_of, WellFormed}
use Rattle.store.specs.Steps.{term_used}
use Rattle.trail.specs.State.{State}
use Rattle.cycle.specs.Verdict.{cyclic_at}
use Rattle.cycle.specs.Cyclic.{true_cyclic}
use Rattle.terms.specs.View.{Constant, View, free, con, nod, Shape, look_at, shape_of}
use Rattle.terms.specs.Term.{Term, variable, constant, compound, Terms, many, nth, term_ind, terms_ext}
use Rattle.terms.specs.Stands.{Stands, stands_arg, stands_args, stands_same, stands_once}
use Rattle.terms.specs.Finite.{StandsAt, stands_acyclic}
use Rattle.unification.specs.Machine.{Act, skip, bind, join, clash, Machine, Ending, yes, occurs, popped, written, other, act_of, stopped, after, turn, run, start, fuel}
use Rattle.unification.specs.Trees.{Same, Agree}
use Rattle.unification.specs.Substitution.{inst, insts, Unifies, many_insts, nth_insts}
use Rattle.unification.specs.Seen.{Seen, seen_of, put, apply}
use Rattle.unification.specs.Cases.{Case, skips, binds, binds', joins, parts}
use Rattle.unification.specs.Live.{Live, Ends}
use Rattle.unification.proofs.Live.{not_stopped, run_keeps}
use Rattle.unification.specs.Nodes.{free_self, free_term, term_shape}
use Rattle.unification.specs.Agreement.{GoodSeen}
use Rattle.unification.proofs.Agreement.{good_step, good_start, yes_agrees}
use Rattle.unification.specs.TermOf.{finite, term_of, term_is}
use Rattle.unification.proofs.Checked.{unifier_yes, came, came_stands}
use Rattle.unification.specs.PlainThenTest.{Grows, Later}

-- ---- a checked run goes as the plain one goes, or is stopped on the way
pub same_or_occurs : (top f : ℕ) (m : Machine) → (run true top f m ≡ run false top f m) ⊎ (run true top f m ≡ occurs)
unfolding run
same_or_occurs top zero m = inl refl
same_or_occurs top (suc f) m = go (λ t. same_or_occurs top f t) m.pairs
  where
    Next : Type 0
    Next = (t : Machine) → (run true top f t ≡ run false top f t) ⊎ (run true top f t ≡ occurs)

    binding : Next → (t : Machine) (c d : Bool) → d ≡ false → (cond c occurs (run true top f t) ≡ cond d occurs (run false top f t)) ⊎ (cond c occurs (run true top f t) ≡ occurs)
    binding ih t true d p = inr refl
    binding ih t false true p = cc
    binding ih t false false p = ih t

    act : Next → (t : Machine) (a b : ℕ) (u : Act) → (after true top (λ t. run true top f t) t a b u ≡ after false top (λ t. run false top f t) t a b u) ⊎ (after true top (λ t. run true top f t) t a b u ≡ occurs)
    act ih t a b skip = ih _
    act ih t a b (bind v x) = binding ih (written t v (other a b v)) (stopped true t.cells top v x (other a b v)) (stopped false t.cells top v x (other a b v)) (not_stopped t.cells top v x (other a b v))
    act ih t a b (join n k) = ih _
    act ih t a b clash = inl refl

    go : Next → (S : List (ℕ × ℕ)) → (turn true top (λ t. run true top f t) m S ≡ turn false top (λ t. run false top f t) m S) ⊎ (turn true top (λ t. run true top f t) m S ≡ occurs)
    go ih [] = inl refl
    go ih (p ∷ S) = act ih (popped m S) (end_of m.cells top p.0) (end_of m.cells top p.1) (act_of m (end_of m.cells top p.0) (end_of m.cells top p.1))

pub passed : (top f : ℕ) (m z : Machine) → run true top f m ≡ yes z → run false top f m ≡ yes z
passed top f m z e = ⊎_elim (λ q. sym q ∙ e) (λ q. let d : occurs ≡ yes z = sym q ∙ e in cc) (same_or_occurs top f m)

grows_put : (look : ℕ → View) (v : ℕ) (x y z : View) → Grows look y z → Grows (λ i. put v x (look i)) y (put v x z)
unfolding put
grows_put look v x (free w) z e = ap (put v x) e
grows_put look v x (con c) z e = ap (put v x) e
grows_put look v x (nod n) z e = ap (put v x) e

later_step : (sh : Shape) (look₀ : ℕ → View) (s : Seen) (a b : ℕ) (u : Act) → Case sh s.classes (s.look a) (s.look b) u → Later look₀ s → Later look₀ (apply sh s u)
unfolding apply
later_step sh look₀ s a b u (skips e) l = l
later_step sh look₀ s a b u (binds v x p q f) l = λ i. grows_put s.look v x (look₀ i) (s.look i) (l i)
later_step sh look₀ s a b u (binds' v x p q f) l = λ i. grows_put s.look v x (look₀ i) (s.look i) (l i)
later_step sh look₀ s a b u (joins n m p q e f) l = l
later_step sh look₀ s a b u (parts x) l = l

-- ---- a cell that agrees with a finite one stands for its term
module _ (sh : Shape) (look : ℕ → View) where
  pub agrees : (t : Term) (i j : ℕ) → ((d : ℕ) → Agree sh look d i j) → Stands sh look t i → Stands sh look t j
  agrees = term_ind (λ t. (i j : ℕ) → ((d : ℕ) → Agree sh look d i j) → Stands sh look t i → Stands sh look t j) vars cons cmps
    where
      vars : (v : ℕ) (i j : ℕ) → ((d : ℕ) → Agree sh look d i j) → look i ≡ free v → look j ≡ free v
      vars v i j a e = at (look j) refl (rw e at (a 1))
        where
          at : (y : View) → look j ≡ y → Same sh (Agree sh look 0) (free v) (look j) → look j ≡ free v
          at (free w) q s = q ∙ ap free (sym (rw q at s))
          at (con w) q s = absurd (rw q at s)
          at (nod w) q s = absurd (rw q at s)

      cons : (v : Constant) (i j : ℕ) → ((d : ℕ) → Agree sh look d i j) → look i ≡ con v → look j ≡ con v
      cons v i j a e = at (look j) refl (rw e at (a 1))
        where
          at : (y : View) → look j ≡ y → Same sh (Agree sh look 0) (con v) (look j) → look j ≡ con v
          at (free w) q s = absurd (rw q at s)
          at (con w) q s = q ∙ ap con (sym (rw q at s))
          at (nod w) q s = absurd (rw q at s)

      cmps : (f : ℕ) (ts : Terms) → ((k : ℕ) → k < many ts → (i j : ℕ) → ((d : ℕ) → Agree sh look d i j) → Stands sh look (nth ts k) i → Stands sh look (nth ts k) j) → (i j : ℕ) → ((d : ℕ) → Agree sh look d i j) → Stands sh look (compound f ts) i → Stands sh look (compound f ts) j
      cmps f ts q i j a h = at (look j) refl (λ d. rw h.1 at (a (suc d)))
        where
          at : (y : View) → look j ≡ y → ((d : ℕ) → Same sh (Agree sh look d) (nod h.0) (look j)) → Stands sh look (compound f ts) j
          at (free w) e s = absurd (rw e at (s 0))
          at (con w) e s = absurd (rw e at (s 0))
          at (nod m) e s =
              let b : (d : ℕ) → Same sh (Agree sh look d) (nod h.0) (nod m) = λ d. rw e at (s d) in
              (m, e, sym (b 0).0 ∙ h.2, stands_args sh look ts m (λ k l. q k l (sh.arg h.0 k) (sh.arg m k) (λ d. (b d).1 k (omega (arith, ap (λ x. x.1) h.2))) (stands_arg sh look ts h.0 h.3 k l)))

-- ---- what a yes has come to
module _ (s : State) (wf : WellFormed s.cells s.top) (a b : ℕ) (live : Live s (fuel s.top) (start s a b)) where
  abbrev sh : Shape
  sh = shape_of s.cells

  abbrev look₀ : ℕ → View
  look₀ = look_at s.cells s.top

  module _ (check : Bool) (m : Machine) (e : run check s.top (fuel s.top) (start s a b) ≡ yes m) where
    good_end : (f : ℕ) × Live s f m × GoodSeen sh a b (seen_of s.top m) × (m.pairs ≡ [])
    good_end =
        subst (Ends s (GoodSeen sh a b) (Unit {0}) (Unit {0})) e
        (run_keeps s check (GoodSeen sh a b) (Unit {0}) (Unit {0}) (λ r i j u c n _ k. good_step sh a b r i j u c n k) (λ _ _ _ _ _. tt) (λ _ _ _ _ _ _. tt) (fuel s.top) (start s a b) live (good_start sh a b look₀))

    pub live_end : (f : ℕ) × Live s f m
    live_end = (good_end.0, good_end.1)

    -- a yes makes the roots agree to every depth
    pub roots_agree : (d : ℕ) → Agree sh (look_at m.cells s.top) d a b
    roots_agree = let h = good_end in yes_agrees sh a b (look_at m.cells s.top) m.classes (rw h.3 at h.2)

    -- each cell shows what it showed, or what its variable shows
    pub later_end : Later look₀ (seen_of s.top m)
    later_end =
        let h : (f : ℕ) × Live s f m × Later look₀ (seen_of s.top m) × (m.pairs ≡ []) =
        subst (Ends s (Later look₀) (Unit {0}) (Unit {0})) e
        (run_keeps s check (Later look₀) (Unit {0}) (Unit {0}) (λ r i j u c _ _ k. later_step sh look₀ r i j u c k) (λ _ _ _ _ _. tt) (λ _ _ _ _ _ _. tt) (fuel s.top) (start s a b) live (λ i. at i (look₀ i) refl)) in
        h.2
      where
        at : (i : ℕ) (y : View) → look₀ i ≡ y → Grows look₀ y (look₀ i)
        at i (free v) q = q ∙ sym (free_self s.cells s.top wf i v q)
        at i (con d) q = q
        at i (nod n) q = q

    abbrev wf' : WellFormed m.cells s.top
    wf' = live_end.1.store

    -- what each variable has come to
    abbrev now : ℕ → Term
    now = term_of m.cells s.top wf'

    abbrev look : ℕ → View
    look = look_at m.cells s.top

    same_shape : shape_of m.cells ≡ sh
    same_shape = live_end.1.shape

    -- a root that stands for a finite term reaches no cycle
    pub finite_straight : (i : ℕ) → term_at s.cells s.top i ≡ true → (t : Term) → Stands sh look t i → cyclic_at m.cells s.top i ≡ false
    finite_straight i p t h = at (cyclic_at m.cells s.top i) refl
      where
        there : term_at m.cells s.top i ≡ true
        there = term_shape s.cells m.cells s.top i (sym same_shape) p

        at : (c : Bool) → cyclic_at m.cells s.top i ≡ c → c ≡ false
        at true q =
            let u = term_used m.cells s.top i there in
            absurd (stands_acyclic m.cells s.top wf' i there t (subst (λ (x : Shape). Stands x look t i) (sym same_shape) h) (true_cyclic m.cells s.top wf' i u.0 u.1 q))
        at false q = refl

    now_is : (t : Term) (v : ℕ) → term_at s.cells s.top v ≡ true → Stands sh look t v → now v ≡ t
    now_is t v p h = term_is m.cells s.top wf' t v (term_shape s.cells m.cells s.top v (sym same_shape) p) (subst (λ (x : Shape). Stands x look t v) (sym same_shape) h)

    -- a cell's term at entry, with what its variables came to, is its term now
    resolved : (t w : Term) (i : ℕ) → Stands sh look₀ t i → Stands sh look w i → inst now t ≡ w
    resolved = term_ind (λ t. (w : Term) (i : ℕ) → Stands sh look₀ t i → Stands sh look w i → inst now t ≡ w) vars cons cmps
      where
        vars : (v : ℕ) (w : Term) (i : ℕ) → look₀ i ≡ free v → Stands sh look w i → now v ≡ w
        vars v w i q h =
            let g : look i ≡ look v = subst (λ (y : View). Grows look y (look i)) q (later_end i) in
            now_is w v (free_term s.cells s.top wf i v q) (stands_same sh look w i v g h)

        cons : (c : Constant) (w : Term) (i : ℕ) → look₀ i ≡ con c → Stands sh look w i → constant c ≡ w
        cons c w i q h = let g : look i ≡ con c = subst (λ (y : View). Grows look y (look i)) q (later_end i) in stands_once sh look (constant c) w i g h

        cmps : (f : ℕ) (ts : Terms) → ((k : ℕ) → k < many ts → (w : Term) (i : ℕ) → Stands sh look₀ (nth ts k) i → Stands sh look w i → inst now (nth ts k) ≡ w) → (w : Term) (i : ℕ) → Stands sh look₀ (compound f ts) i → Stands sh look w i → compound f (insts now ts) ≡ w
        cmps f ts q (variable v) i c h = let g : look i ≡ nod c.0 = subst (λ (y : View). Grows look y (look i)) c.1 (later_end i) in cc
        cmps f ts q (constant v) i c h = let g : look i ≡ nod c.0 = subst (λ (y : View). Grows look y (look i)) c.1 (later_end i) in cc
        cmps f ts q (compound g us) i c h =
            let n : look i ≡ nod c.0 = subst (λ (y : View). Grows look y (look i)) c.1 (later_end i) in
            let o : c.0 ≡ h.0 = cc in
            let z : ◌≡◌ {A = ℕ × ℕ} (f, many ts) (g, many us) = sym c.2 ∙ ap (λ x. sh.fun x) o ∙ h.2 in
            let k : many ts ≡ many us = ap (λ x. x.1) z in
            ap₂ compound (ap (λ x. x.0) z) (terms_ext (insts now ts) us (many_insts now ts ∙ k) (λ j l.
            let l' : j < many ts = rw (many_insts now ts) at l in
            nth_insts now ts j ∙ q j l' (nth us j) (sh.arg c.0 j) (stands_arg sh look₀ ts c.0 c.3 j l')
            (subst (λ (x : ℕ). Stands sh look (nth us j) (sh.arg x j)) (sym o) (stands_arg sh look us h.0 h.3 j (omega arith)))))

  -- ---- the theorem: both roots stand for finite terms at entry
  module _ (ta : term_at s.cells s.top a ≡ true) (tb : term_at s.cells s.top b ≡ true) (t t' : Term) (ht : StandsAt s.cells s.top t a) (ht' : StandsAt s.cells s.top t' b) where
    abbrev plain_run : Ending
    plain_run = run false s.top (fuel s.top) (start s a b)

    abbrev checked_run : Ending
    checked_run = run true s.top (fuel s.top) (start s a b)

    -- a checked yes is the plain yes, and the root reaches no cycle
    pub checked_then : (m : Machine) → checked_run ≡ yes m → (plain_run ≡ yes m) × (cyclic_at m.cells s.top a ≡ false)
    checked_then m e =
        (passed s.top (fuel s.top) (start s a b) m e, finite_straight true m e a ta (inst (came s wf a b live ta tb t t' ht ht' m e) t) (came_stands s wf a b live ta tb t t' ht ht' m e a t ht))

    -- a plain yes after which the root reaches no cycle is the checked yes
    pub acyclic_then : (m : Machine) → plain_run ≡ yes m → cyclic_at m.cells s.top a ≡ false → checked_run ≡ yes m
    acyclic_then m e c =
        let o = finite m.cells s.top (wf' false m e) a (term_shape s.cells m.cells s.top a (sym (same_shape false m e)) ta) c in
        let h : Stands sh (look false m e) o.term a = subst (λ (x : Shape). Stands x (look false m e) o.term a) (same_shape false m e) o.stands in
        let h' : Stands sh (look false m e) o.term b = agrees sh (look false m e) o.term a b (roots_agree false m e) h in
        let q : Unifies (now false m e) t t' = resolved false m e t o.term a ht h ∙ sym (resolved false m e t' o.term b ht' h') in
        let y = unifier_yes s wf a b live ta tb t t' ht ht' (now false m e) q in
        y.1 ∙ sym (checked_then y.0 y.1).0 ∙ e
