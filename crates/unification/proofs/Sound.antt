-- Each act keeps every solution in trees, finite or endless; so a clash means that there is none.
use Rattle.std.specs.Prelude.{◌≡◌, Bool, cond, ℕ, ◌<◌}
use Rattle.std.proofs.Math.Path.{refl, sym, ap}
use Rattle.std.proofs.Common.{◌∙◌, arith, eqb-true}
use Rattle.std.proofs.Math.Bool.{true, false}
use Rattle.std.proofs.Math.Dec.{eqb}
use Rattle.terms.specs.View.{View, free, con, nod, Shape, arity_of}
use Rattle.unification.specs.Machine.{Act, clash}
use Rattle.unification.specs.Trees.{Label, Has, Solves, Equal}
use Rattle.unification.specs.Seen.{Seen, pushed, put, apply, All}
use Rattle.unification.proofs.Seen.{all_args}
use Rattle.unification.specs.Cases.{Apart, cn, nc, nn, Case, skips, binds, binds', joins, parts}
use Rattle.unification.specs.Cases

module _ (D : Type 0) (label : D → Label) (sub : D → ℕ → D) (P : ℕ → Type 0) (sh : Shape) (σ : ℕ → D) where
  -- σ agrees with what is shown, and makes the cells of each pair equal
  abbrev pub Keeps : Seen → Type 0
  Keeps s = Solves D label sub P sh σ s.look × All (Equal D label sub P sh σ) s.pairs

  has_put : (d : D) (v : ℕ) (x y : View) → Has D label sub P sh σ d y → (d ≡ σ v → Has D label sub P sh σ d x) → Has D label sub P sh σ d (put v x y)
  unfolding put
  has_put d v x (free w) h f = go (eqb w v) refl
    where
      go : (p : Bool) → eqb w v ≡ p → Has D label sub P sh σ d (cond p x (free w))
      go true e = f (h ∙ ap σ (eqb-true w v e))
      go false e = h
  has_put d v x (con c) h f = h
  has_put d v x (nod n) h f = h

  no_tree : (d : D) (x y : View) → Apart sh x y → Has D label sub P sh σ d x → Has D label sub P sh σ d y → ⊥
  no_tree d x y (Cases.cc c e f) p q = f (cc)
  no_tree d x y (cn c n) p q = let z : ◌≡◌ {A = ℕ} 0 1 = cc (p, q.0) in omega arith
  no_tree d x y (nc n c) p q = let z : ◌≡◌ {A = ℕ} 0 1 = cc (p.0, q) in omega arith
  no_tree d x y (nn n m f) p q = f (cc (p.0, q.0))

  -- a cell of σ that equals a bound variable has the tree of the other side
  other_tree : (look : ℕ → View) (a b i v : ℕ) (x : View) → look a ≡ free v → look b ≡ x → Equal D label sub P sh σ a b → Solves D label sub P sh σ look → σ i ≡ σ v → Has D label sub P sh σ (σ i) x
  other_tree look a b i v x p r q k e =
      let av : σ a ≡ σ v = rw p at (k a q.0) in
      let ib : σ i ≡ σ b = cc q.2 in
      rw ib (rw r at (k b q.1))

  arg_equal : (look : ℕ → View) (a b n m : ℕ) → look a ≡ nod n → look b ≡ nod m → sh.fun n ≡ sh.fun m → Equal D label sub P sh σ a b → Solves D label sub P sh σ look → (j : ℕ) → j < arity_of sh n → Equal D label sub P sh σ (sh.arg n j) (sh.arg m j)
  arg_equal look a b n m p r e q k j l =
      let ha : Has D label sub P sh σ (σ a) (nod n) = rw p at (k a q.0) in
      let hb : Has D label sub P sh σ (σ b) (nod m) = rw r at (k b q.1) in
      let l' : j < arity_of sh m = rw (← e, arity_of) l in
      ((ha.1 j l).0, (hb.1 j l').0, cc ((ha.1 j l).1, (hb.1 j l').1, q.2))

  pub sound : (s : Seen) (a b : ℕ) (u : Act) → Case sh s.classes (s.look a) (s.look b) u → (u ≡ clash → ⊥) → Keeps (pushed a b s) → Keeps (apply sh s u)
  unfolding apply
  sound s a b u (skips e) n k = (k.0, k.1.1)
  sound s a b u (binds v x p r f) n k =
      ((λ i pi. has_put (σ i) v x (s.look i) (k.0 i pi) (other_tree s.look a b i v x p r k.1.0 k.0)), k.1.1)
  sound s a b u (binds' v x p r f) n k =
      let q = k.1.0 in
      ((λ i pi. has_put (σ i) v x (s.look i) (k.0 i pi) (other_tree s.look b a i v x r p (q.1, q.0, sym q.2) k.0)), k.1.1)
  sound s a b u (joins n m p r e f) z k =
      (k.0, all_args _ sh n m s.pairs _ 0 (λ j h l. arg_equal s.look a b n m p r e k.1.0 k.0 j (omega arith)) k.1.1)
  sound s a b u (parts x) n k = absurd (n refl)

  pub no_solution : (s : Seen) (a b : ℕ) → Apart sh (s.look a) (s.look b) → Keeps (pushed a b s) → ⊥
  no_solution s a b x k = let q = k.1.0 in no_tree (σ a) (s.look a) (s.look b) x (k.0 a q.0) (rw q.2 (k.0 b q.1))
