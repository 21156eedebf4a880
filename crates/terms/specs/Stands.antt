-- The term that a cell stands for, by what each followed cell shows and by the shapes of nodes.
use Rattle.std.specs.Prelude.{◌≡◌, ℕ, zero, suc, ◌+◌, ◌<◌}
use Rattle.std.proofs.Common.{sym, ap, ap₂, ◌∙◌, arith}
use Rattle.terms.specs.View.{Constant, View, free, con, nod, Shape}
use Rattle.terms.specs.Term.{Term, variable, constant, compound, Terms, one, more, many, nth, term_ind, terms_ext}

module _ (sh : Shape) (look : ℕ → View) where
  abbrev mutual
    -- cell i stands for t: an unbound Var for itself, an atom or number for itself, a node for the compound of its name and its arguments' terms
    pub Stands : Term → ℕ → Type 0
    Stands (variable v) i = look i ≡ free v
    Stands (constant c) i = look i ≡ con c
    Stands (compound f ts) i = (n : ℕ) × (look i ≡ nod n) × (sh.fun n ≡ (f, many ts)) × StandArgs ts n 0

    -- the arguments of node n from number k on stand for ts
    pub StandArgs : Terms → ℕ → ℕ → Type 0
    StandArgs (one t) n k = Stands t (sh.arg n k)
    StandArgs (more t ts) n k = Stands t (sh.arg n k) × StandArgs ts n (suc k)

  -- ---- a node's arguments by number
  args_from : (ts : Terms) (n k : ℕ) → StandArgs ts n k → (j : ℕ) → j < many ts → Stands (nth ts j) (sh.arg n (k + j))
  args_from (one t) n k h j l = let e : k + j ≡ k = omega arith in rw e h
  args_from (more t ts) n k h zero l = let e : k + 0 ≡ k = omega arith in rw e h.0
  args_from (more t ts) n k h (suc j) l = let e : k + suc j ≡ suc k + j = omega arith in rw e (args_from ts n (suc k) h.1 j (omega arith))

  pub stands_arg : (ts : Terms) (n : ℕ) → StandArgs ts n 0 → (j : ℕ) → j < many ts → Stands (nth ts j) (sh.arg n j)
  stands_arg ts n h j l = let e : 0 + j ≡ j = omega arith in rw e at (args_from ts n 0 h j l)

  args_to : (ts : Terms) (n k : ℕ) → ((j : ℕ) → j < many ts → Stands (nth ts j) (sh.arg n (k + j))) → StandArgs ts n k
  args_to (one t) n k h = let e : k + 0 ≡ k = omega arith in rw e at (h 0 (omega arith))
  args_to (more t ts) n k h =
      let e : k + 0 ≡ k = omega arith in
      (rw e at (h 0 (omega arith)), args_to ts n (suc k) (λ j l. let e : k + suc j ≡ suc k + j = omega arith in rw e at (h (suc j) (omega arith))))

  pub stands_args : (ts : Terms) (n : ℕ) → ((j : ℕ) → j < many ts → Stands (nth ts j) (sh.arg n j)) → StandArgs ts n 0
  stands_args ts n h = args_to ts n 0 (λ j l. let e : 0 + j ≡ j = omega arith in rw e (h j l))

  -- ---- the term depends on what the cell shows alone, and there is one at most
  pub stands_same : (t : Term) (i j : ℕ) → look i ≡ look j → Stands t i → Stands t j
  stands_same (variable v) i j e h = sym e ∙ h
  stands_same (constant c) i j e h = sym e ∙ h
  stands_same (compound f ts) i j e h = (h.0, sym e ∙ h.1, h.2, h.3)

  pub stands_once : (t u : Term) (i : ℕ) → Stands t i → Stands u i → t ≡ u
  stands_once = term_ind (λ t. (u : Term) (i : ℕ) → Stands t i → Stands u i → t ≡ u) variables constants compounds
    where
      variables : (v : ℕ) (u : Term) (i : ℕ) → look i ≡ free v → Stands u i → variable v ≡ u
      variables v (variable w) i p q = cc
      variables v (constant c) i p q = let z : ◌≡◌ {A = ℕ} 0 1 = cc in absurd (omega arith)
      variables v (compound f us) i p q = let z : ◌≡◌ {A = ℕ} 0 1 = cc in absurd (omega arith)

      constants : (c : Constant) (u : Term) (i : ℕ) → look i ≡ con c → Stands u i → constant c ≡ u
      constants c (variable w) i p q = let z : ◌≡◌ {A = ℕ} 0 1 = cc in absurd (omega arith)
      constants c (constant d) i p q = cc
      constants c (compound f us) i p q = let z : ◌≡◌ {A = ℕ} 0 1 = cc in absurd (omega arith)

      compounds : (f : ℕ) (ts : Terms) → ((k : ℕ) → k < many ts → (u : Term) (i : ℕ) → Stands (nth ts k) i → Stands u i → nth ts k ≡ u) → (u : Term) (i : ℕ) → Stands (compound f ts) i → Stands u i → compound f ts ≡ u
      compounds f ts h (variable w) i p q = let z : ◌≡◌ {A = ℕ} 0 1 = cc in absurd (omega arith)
      compounds f ts h (constant d) i p q = let z : ◌≡◌ {A = ℕ} 0 1 = cc in absurd (omega arith)
      compounds f ts h (compound g us) i p q =
          let n : q.0 ≡ p.0 = cc in
          let e : ◌≡◌ {A = ℕ × ℕ} (f, many ts) (g, many us) = sym p.2 ∙ ap sh.fun (sym n) ∙ q.2 in
          let m : many ts ≡ many us = ap (λ x. x.1) e in
          ap₂ compound (ap (λ x. x.0) e) (terms_ext ts us m (λ k l. h k l (nth us k) (sh.arg p.0 k) (stands_arg ts p.0 p.3 k l) (rw n at (stands_arg us q.0 q.3 k (omega arith)))))
