-- Where no pair is left, cells of one key agree to every depth: so a yes makes the roots agree to every depth.
use Rattle.std.specs.Prelude.{◌≡◌, Bool, true, false, cond, List, [], ◌∷◌, ◌++◌, ℕ, zero, suc, ◌+◌, ◌<◌, ◌≤◌, eqb}
use Rattle.std.proofs.Math.Path.{refl, sym}
use Rattle.std.proofs.Common.{ap, ◌∙◌, arith, eqb-true, ne_eqb}
use Rattle.std.proofs.lemmas.Bool.{eqb-false}
use Rattle.terms.specs.View.{View, free, con, nod, Shape, arity_of}
use Rattle.unification.specs.Machine.{Act, clash, merge, args}
use Rattle.unification.specs.Trees.{Same, Agree}
use Rattle.unification.specs.Seen.{Seen, put, put_here, apply, All, all_map}
use Rattle.unification.specs.Weight.{Merged, same, left, right}
use Rattle.unification.proofs.Weight.{merged, merge_ends}
use Rattle.unification.specs.Cases.{key, Case, skips, binds, binds', joins, parts}
use Rattle.unification.specs.Agreement.{Follows, Inv, Good, GoodSeen}

key_put : (classes : ℕ → ℕ) (v : ℕ) (x y : View) → key classes (put v x y) ≡ put v (key classes x) (key classes y)
unfolding key put
key_put classes v x (free w) = go (eqb w v)
  where
    go : (p : Bool) → key classes (cond p x (free w)) ≡ cond p (key classes x) (free w)
    go true = refl
    go false = refl
key_put classes v x (con c) = refl
key_put classes v x (nod n) = refl

put_self : (classes : ℕ → ℕ) (v : ℕ) (x : View) → (x ≡ free v → ⊥) → put v (key classes x) (key classes x) ≡ key classes x
unfolding key put
put_self classes v (free w) f = rw (ne_eqb w v (λ e. f (ap free e)))
put_self classes v (con c) f = refl
put_self classes v (nod n) f = refl

-- the keys after a join
ren : ℕ → ℕ → View → View
ren p q (free v) = free v
ren p q (con c) = con c
ren p q (nod c) = nod (merge p q c)

key_ren : (classes : ℕ → ℕ) (p q : ℕ) (x : View) → key (λ k. merge p q (classes k)) x ≡ ren p q (key classes x)
unfolding key ren
key_ren classes p q (free v) = refl
key_ren classes p q (con v) = refl
key_ren classes p q (nod v) = refl

args_at : (R : ℕ → ℕ → Type 0) (sh : Shape) (n m : ℕ) (S : List (ℕ × ℕ)) (a k : ℕ) → All R (args sh n m a k ++ S)
    → (j : ℕ) → k ≤ j → j < k + a → R (sh.arg n j) (sh.arg m j)
unfolding args
args_at R sh n m S zero k h j p q = absurd (omega arith)
args_at R sh n m S (suc a) k h j p q = go (eqb j k) refl (λ u. args_at R sh n m S a (suc k) h.1 j u (omega arith))
  where
    go : (x : Bool) → eqb j k ≡ x → (suc k ≤ j → R (sh.arg n j) (sh.arg m j)) → R (sh.arg n j) (sh.arg m j)
    go true e f = rw (eqb-true j k e) h.0
    go false e f = f (omega (arith, eqb-false j k e))

args_rest : (R : ℕ → ℕ → Type 0) (sh : Shape) (n m : ℕ) (S : List (ℕ × ℕ)) (a k : ℕ) → All R (args sh n m a k ++ S) → All R S
unfolding args
args_rest R sh n m S zero k h = h
args_rest R sh n m S (suc a) k h = args_rest R sh n m S a (suc k) h.1

module _ (sh : Shape) (look : ℕ → View) (classes : ℕ → ℕ) (S : List (ℕ × ℕ)) (a b : ℕ) where
  skip_follows : key classes (look a) ≡ key classes (look b) → (i j : ℕ) → Follows look classes ((a, b) ∷ S) i j → Follows look classes S i j
  skip_follows e i j f g h = f g (ap g e, h)

  bind_follows : (v : ℕ) (x : View) → put v (key classes x) (key classes (look a)) ≡ put v (key classes x) (key classes (look b))
      → (i j : ℕ) → Follows look classes ((a, b) ∷ S) i j → Follows (λ i. put v x (look i)) classes S i j
  bind_follows v x e i j f g h =
      simp key_put (f (λ y. g (put v (key classes x) y)) (ap g e, all_map _ _ (λ i j t. simp key_put at t) S h))

  -- the two sides of a binding come to one key
  meet : (v : ℕ) (x : View) → look a ≡ free v → look b ≡ x → (x ≡ free v → ⊥)
      → put v (key classes x) (key classes (look a)) ≡ put v (key classes x) (key classes (look b))
  unfolding key
  meet v x p r f = rw (p, r) (put_here v (key classes x) (free v) refl ∙ sym (put_self classes v x f))

  join_follows : (n m : ℕ) → look a ≡ nod n → look b ≡ nod m → (i j : ℕ) → Follows look classes ((a, b) ∷ S) i j
      → Follows look (λ k. merge (classes n) (classes m) (classes k)) (args sh n m (arity_of sh n) 0 ++ S) i j
  unfolding key ren
  join_follows n m p r i j f g h =
      simp key_ren (f (λ y. g (ren (classes n) (classes m) y)) (
        rw (p, r) (ap (λ c. g (nod c)) (merge_ends (classes n) (classes m))),
        all_map _ _ (λ i j t. simp key_ren at t) S (args_rest _ sh n m S _ 0 h),
      ))

  join_inv : (n m : ℕ) → look a ≡ nod n → look b ≡ nod m → sh.fun n ≡ sh.fun m → Inv sh look classes ((a, b) ∷ S)
      → Inv sh look (λ k. merge (classes n) (classes m) (classes k)) (args sh n m (arity_of sh n) 0 ++ S)
  join_inv n m p r e I n' m' c = go (merged (classes n) (classes m) (classes n') (classes m') c)
    where
      To : ℕ → ℕ → Type 0
      To i j = (k : ℕ) → k < arity_of sh i
          → Follows look (λ k. merge (classes n) (classes m) (classes k)) (args sh n m (arity_of sh n) 0 ++ S) (sh.arg i k) (sh.arg j k)

      old : (i j : ℕ) → classes i ≡ classes j → To i j
      old i j q k l = join_follows n m p r _ _ ((I i j q).1 k l)

      new : To n m
      new k l g h = args_at _ sh n m S _ 0 h k (omega arith) (omega arith)

      go : Merged (classes n) (classes m) (classes n') (classes m') → (sh.fun n' ≡ sh.fun m') × To n' m'
      go (same q) = ((I n' m' q).0, old n' m' q)
      go (left q t) = (
        cc ((I n' n q).0, (I m' m t).0),
        λ k l g h.
            old n' n q k l g h ∙ new k (rw ((I n' n q).0, arity_of) at l) g h ∙ old m m' (sym t) k (rw ((I n' n q).0 ∙ e, arity_of) at l) g h,
      )
      go (right q t) = (
        cc ((I n' m q).0, (I m' n t).0),
        λ k l g h.
            old n' m q k l g h ∙ sym (new k (rw ((I n' m q).0 ∙ sym e, arity_of) at l) g h) ∙ old n m' (sym t) k (rw ((I n' m q).0 ∙ sym e, arity_of) at l) g h,
      )

lift : (sh : Shape) (r t : ℕ) (look look' : ℕ → View) (classes : ℕ → ℕ) (S S' : List (ℕ × ℕ))
    → ((i j : ℕ) → Follows look classes S i j → Follows look' classes S' i j) → Good sh r t look classes S → Good sh r t look' classes S'
lift sh r t look look' classes S S' f I = ((λ n m c. ((I.0 n m c).0, λ k l. f _ _ ((I.0 n m c).1 k l))), f r t I.1)

pub good_step : (sh : Shape) (r t : ℕ) (s : Seen) (a b : ℕ) (u : Act) → Case sh s.classes (s.look a) (s.look b) u → (u ≡ clash → ⊥)
    → Good sh r t s.look s.classes ((a, b) ∷ s.pairs) → GoodSeen sh r t (apply sh s u)
unfolding apply
good_step sh r t s a b u (skips e) z I = lift sh r t s.look _ s.classes ((a, b) ∷ s.pairs) s.pairs (skip_follows sh s.look s.classes s.pairs a b e) I
good_step sh r t s a b u (binds v x p q f) z I =
    lift sh r t s.look _ s.classes ((a, b) ∷ s.pairs) s.pairs (bind_follows sh s.look s.classes s.pairs a b v x (meet sh s.look s.classes s.pairs a b v x p q f)) I
good_step sh r t s a b u (binds' v x p q f) z I =
    lift sh r t s.look _ s.classes ((a, b) ∷ s.pairs) s.pairs (bind_follows sh s.look s.classes s.pairs a b v x (sym (meet sh s.look s.classes s.pairs b a v x q p f))) I
good_step sh r t s a b u (joins n m p q e f) z I =
    (join_inv sh s.look s.classes s.pairs a b n m p q e I.0, join_follows sh s.look s.classes s.pairs a b n m p q r t I.1)
good_step sh r t s a b u (parts x) z I = absurd (z refl)

-- at the start every node is a class of its own
pub good_start : (sh : Shape) (r t : ℕ) (look : ℕ → View) → Good sh r t look (λ n. n) ((r, t) ∷ [])
good_start sh r t look = ((λ n m c. (ap sh.fun c, λ k l g h. rw c refl)), λ g h. h.0)

same_key : (sh : Shape) (classes : ℕ → ℕ) (R : ℕ → ℕ → Type 0)
    → ((n m : ℕ) → classes n ≡ classes m → (sh.fun n ≡ sh.fun m) × ((k : ℕ) → k < arity_of sh n → R (sh.arg n k) (sh.arg m k)))
    → (x y : View) → key classes x ≡ key classes y → Same sh R x y
unfolding key
same_key sh classes R f (free v) (free w) e = cc
same_key sh classes R f (free v) (con w) e = cc
same_key sh classes R f (free v) (nod w) e = cc
same_key sh classes R f (con v) (free w) e = cc
same_key sh classes R f (con v) (con w) e = cc
same_key sh classes R f (con v) (nod w) e = cc
same_key sh classes R f (nod v) (free w) e = cc
same_key sh classes R f (nod v) (con w) e = cc
same_key sh classes R f (nod v) (nod w) e = f v w (cc)

pub agree : (sh : Shape) (look : ℕ → View) (classes : ℕ → ℕ) → Inv sh look classes [] → (d i j : ℕ)
    → key classes (look i) ≡ key classes (look j) → Agree sh look d i j
agree sh look classes I zero i j e = tt
agree sh look classes I (suc d) i j e =
    same_key sh classes (Agree sh look d) (λ n m c. ((I n m c).0, λ k l. agree sh look classes I d _ _ ((I n m c).1 k l (λ x. x) tt))) (look i) (look j) e

-- a yes: the roots agree to every depth
pub yes_agrees : (sh : Shape) (r t : ℕ) (look : ℕ → View) (classes : ℕ → ℕ) → Good sh r t look classes [] → (d : ℕ) → Agree sh look d r t
yes_agrees sh r t look classes I d = agree sh look classes I.0 d r t (I.1 (λ x. x) tt)
