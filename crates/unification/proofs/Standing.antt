-- At most 3 x `top` + 1 pairs ever stand: of every machine that a run comes to.
use Rattle.std.specs.Prelude.{◌≡◌, refl, Bool, true, false, cond, List, [], ◌∷◌, ℕ, zero, suc, ◌+◌, ◌*◌, ◌≤◌, length}
use Rattle.std.proofs.Common.{sym, ap, subst, ◌∙◌, arith}
use Rattle.trail.specs.State.{State}
use Rattle.terms.specs.View.{View, Shape}
use Rattle.unification.specs.Machine.{Act, skip, bind, join, clash, Machine, yes, occurs, popped, written, joined, other, act_of, stopped, after, turn, start, fuel}
use Rattle.unification.specs.Live.{Live}
use Rattle.unification.proofs.Live.{end_a, end_b, CaseHere, case_here, live_step}
use Rattle.unification.specs.Standing.{Comes, first, next}

module _ (s : State) (check : Bool) where
  to_yes : (m t : Machine) → yes m ≡ yes t → m ≡ t
  to_yes m t e = cc

  -- the turn of a live machine makes a live machine
  one_turn : (f : ℕ) (m t : Machine) → Live s (suc f) m → (m.pairs ≡ [] → ⊥) → turn check s.top yes m m.pairs ≡ yes t → Live s f t
  one_turn f m t l n = go m.pairs refl
    where
      go : (S : List (ℕ × ℕ)) → m.pairs ≡ S → turn check s.top yes m S ≡ yes t → Live s f t
      go [] e q = absurd (n e)
      go (p ∷ rest) e q = by (act_of m a b) refl (case_here s f m p rest e l) q
        where
          a : ℕ
          a = end_a s f m p rest e l

          b : ℕ
          b = end_b s f m p rest e l

          binding : (v : ℕ) (x : View) → CaseHere s f m p rest e l (bind v x) → (c : Bool) → cond c occurs (yes (written (popped m rest) v (other a b v))) ≡ yes t → Live s f t
          binding v x k true q = cc
          binding v x k false q = subst (Live s f) (to_yes _ t q) (live_step s f m p rest e l (bind v x) k)

          by : (u : Act) → act_of m a b ≡ u → CaseHere s f m p rest e l u → after check s.top yes (popped m rest) a b u ≡ yes t → Live s f t
          by skip z k q = subst (Live s f) (to_yes _ t q) (live_step s f m p rest e l skip k)
          by (bind v x) z k q = binding v x k (stopped check m.cells s.top v x (other a b v)) q
          by (join i j) z k q = subst (Live s f) (ap (λ (h : Shape). joined h (popped m rest) i j) (sym l.shape) ∙ to_yes _ t q) (live_step s f m p rest e l (join i j) k)
          by clash z k q = cc

  pub comes_live : (a b : ℕ) → Live s (fuel s.top) (start s a b) → {m : Machine} → Comes check s a b m → (f : ℕ) × (f ≤ fuel s.top) × Live s f m
  comes_live a b l first = (fuel s.top, omega arith, l)
  comes_live a b l (next {m = m} {t = t} c n q) = at (comes_live a b l c)
    where
      at : (f : ℕ) × (f ≤ fuel s.top) × Live s f m → (f : ℕ) × (f ≤ fuel s.top) × Live s f t
      at (zero, h, k) = let z = k.time in absurd (omega arith)
      at (suc f, h, k) = (f, omega arith, one_turn f m t k n q)

  pub standing : (a b : ℕ) → Live s (fuel s.top) (start s a b) → {m : Machine} → Comes check s a b m → length m.pairs ≤ 3 * s.top + 1
  standing a b l c = let k = comes_live a b l c in let h = k.1 in let z = k.2.time in omega arith
