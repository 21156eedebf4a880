-- The edges as a walk takes them: a Str leads to its functor cell, and this to each argument, so that a header's arguments are passed once however many Str cells name it. The links find the same cycles as the edges and reach the same cells, and functor cells besides.
use Rattle.std.specs.Prelude.{◌≡◌, Bool, List, ◌⊎◌, ℕ, ◌+◌, ◌<◌, ◌≤◌, eqb}
use Rattle.std.proofs.Math.Path.{refl, sym, ap}
use Rattle.std.proofs.Common.{◌∙◌, ⊎_elim}
use Rattle.std.proofs.Math.Bool.{true, false, cond}
use Rattle.std.proofs.Math.Logic.{inl, inr}
use native.Mathlib.Omega.{arith}
use borrow.Author.Tests.{eq-eqb, ne_eqb}
use Rattle.cell.specs.declared.Kind.{Kind}
use Rattle.cell.specs.declared.Kind.TheVariants.{Var, Str, Lis, Atom, Fixnum, Bad}
use Rattle.store.specs.Store.{kind_at, term_at, keeps, WellFormed}
use Rattle.store.specs.Steps.{term_used, term_plain}
use Rattle.cycle.specs.Graph.{Edge, bound, arg, first, second, Reaches, here, over, Reach, Accessible, acc, Acc, join, one, spread, acc_ind}
use Rattle.cycle.specs.Kids.{arity_kind, arity_at, no_arguments, pair_edge, edge_kid, kid_term, run_used, str_used, str_atom, lis_terms, atom_arity}

-- how many links a cell of this kind has, at i
unfoldable pub links_kind : ℕ → Kind → ℕ
links_kind i (Var v) = cond (eqb v i) 0 1
links_kind i (Str f) = 1
links_kind i (Lis l) = 2
links_kind i (Atom n a) = a
links_kind i (Fixnum z) = 0
links_kind i Bad = 0

-- how many links the cell at i has: one for a bound Var or a Str, two for a Lis, one for each argument of a functor cell
unfoldable pub links : List ℕ → ℕ → ℕ
links s i = links_kind i (kind_at s i)

-- where its link of number k goes
unfoldable pub link_kind : ℕ → ℕ → Kind → ℕ
link_kind i k (Var v) = v
link_kind i k (Str f) = f
link_kind i k (Lis l) = l + k
link_kind i k (Atom n a) = i + 1 + k
link_kind i k (Fixnum z) = 0
link_kind i k Bad = 0

-- where the link of number k goes
unfoldable pub link : List ℕ → ℕ → ℕ → ℕ
link s i k = link_kind i k (kind_at s i)

-- a link leads from i to j
abbrev pub Link : List ℕ → ℕ → ℕ → Type 0
Link s i j = (k : ℕ) × (k < links s i) × (j ≡ link s i k)

-- the links of the cell at i from the one of number k on go to the cells from next on, up to end
pub record Span (s : List ℕ) (i k next end : ℕ) : Type 0 where
  pub some : k ≤ links s i
  pub from : next ≡ link s i 0 + k
  pub to : end ≡ link s i 0 + links s i

-- ---- links of a cell go to neighbours
pub link_next : (s : List ℕ) (i k : ℕ) → k < links s i → link s i k ≡ link s i 0 + k
unfolding links links_kind link link_kind
link_next s i k = go (kind_at s i)
  where
    flag : (b : Bool) → k < cond b 0 1 → k ≡ 0
    flag true h = absurd (omega arith)
    flag false h = omega arith

    go : (q : Kind) → k < links_kind i q → link_kind i k q ≡ link_kind i 0 q + k
    go (Var v) h = let z = flag (eqb v i) h in omega arith
    go (Str f) h = omega arith
    go (Lis m) h = omega arith
    go (Atom n a) h = omega arith
    go (Fixnum z) h = absurd (omega arith)
    go Bad h = absurd (omega arith)

-- ---- links of a well-formed store go to used cells
module _ (s : List ℕ) (top : ℕ) (wf : WellFormed s top) (i : ℕ) (l : 1 ≤ i) (h : i < top) where
  pub link_used : (k : ℕ) → k < links s i → (1 ≤ link s i k) × (link s i k < top)
  unfolding links links_kind link link_kind keeps
  link_used k = go (kind_at s i) refl (wf.keep i l h)
    where
      go : (q : Kind) → kind_at s i ≡ q → keeps s top i q ≡ true → k < links_kind i q → (1 ≤ link_kind i k q) × (link_kind i k q < top)
      go (Var v) e t d = term_used s top v t
      go (Str f) e t d = str_used s top wf i l h f e
      go (Lis m) e t d =
          let b = lis_terms s top wf i l h m e in
          let u = term_used s top m b.0 in
          let w = term_used s top (m + 1) b.1 in
          (omega arith, omega arith)
      go (Atom n a) e t d = let r = atom_arity s i n a e in let u = run_used s top wf i l h in (omega arith, omega arith)
      go (Fixnum z) e t d = absurd (omega arith)
      go Bad e t d = absurd (omega arith)

  -- fewer links than used cells
  pub links_lt : links s i < top
  unfolding links links_kind
  links_lt = go (kind_at s i) refl
    where
      flag : (b : Bool) → cond b 0 1 < top
      flag true = omega arith
      flag false = omega arith

      go : (q : Kind) → kind_at s i ≡ q → links_kind i q < top
      go (Var v) e = flag (eqb v i)
      go (Str f) e = omega arith
      go (Lis m) e =
          let b = lis_terms s top wf i l h m e in
          let u = term_used s top m b.0 in
          let w = term_used s top (m + 1) b.1 in
          omega arith
      go (Atom n a) e = let r = atom_arity s i n a e in let u = run_used s top wf i l h in omega arith
      go (Fixnum z) e = omega arith
      go Bad e = omega arith

  pub links_end : link s i 0 + links s i ≤ top
  unfolding links links_kind link link_kind keeps
  links_end = go (kind_at s i) refl (wf.keep i l h)
    where
      flag : (v : ℕ) (b : Bool) → v < top → v + cond b 0 1 ≤ top
      flag v true u = omega arith
      flag v false u = omega arith

      go : (q : Kind) → kind_at s i ≡ q → keeps s top i q ≡ true → link_kind i 0 q + links_kind i q ≤ top
      go (Var v) e t = flag v (eqb v i) (term_used s top v t).1
      go (Str f) e t = let u = str_used s top wf i l h f e in omega arith
      go (Lis m) e t = let u = term_used s top (m + 1) (lis_terms s top wf i l h m e).1 in omega arith
      go (Atom n a) e t = let r = atom_arity s i n a e in let u = run_used s top wf i l h in omega arith
      go (Fixnum z) e t = omega arith
      go Bad e t = omega arith

-- ---- the link of each kind
module _ (s : List ℕ) (i : ℕ) where
  link_var : (v : ℕ) → kind_at s i ≡ Var v → (v ≡ i → ⊥) → Link s i v
  unfolding links links_kind link link_kind
  link_var v e n = (0, rw (e, ne_eqb v i n) (omega arith), rw e)

  pub link_str : (f : ℕ) → kind_at s i ≡ Str f → Link s i f
  unfolding links links_kind link link_kind
  link_str f e = (0, rw e (omega arith), rw e)

  link_atom : (k : ℕ) → k < arity_at s i → Link s i (i + 1 + k)
  unfolding links links_kind link link_kind arity_at arity_kind
  link_atom k h = go (kind_at s i) refl h
    where
      go : (q : Kind) → kind_at s i ≡ q → k < arity_kind q → Link s i (i + 1 + k)
      go (Var v) e d = absurd (omega arith)
      go (Str f) e d = absurd (omega arith)
      go (Lis m) e d = absurd (omega arith)
      go (Atom n a) e d = (k, rw e d, rw e)
      go (Fixnum z) e d = absurd (omega arith)
      go Bad e d = absurd (omega arith)

  link_first : (m : ℕ) → kind_at s i ≡ Lis m → Link s i m
  unfolding links links_kind link link_kind
  link_first m e = (0, rw e (omega arith), rw e (omega arith))

  link_second : (m : ℕ) → kind_at s i ≡ Lis m → Link s i (m + 1)
  unfolding links links_kind link link_kind
  link_second m e = (1, rw e (omega arith), rw e)

-- ---- from links to edges: where every path of links ends, every path of edges ends
module _ (s : List ℕ) where
  pub acc_edges : {i : ℕ} → Accessible (Link s) i → Acc s i
  acc_edges a = (acc_ind Both both a).0
    where
      -- with the arguments of a functor cell
      Both : ℕ → Type 0
      Both i = Acc s i × ((k : ℕ) → k < arity_at s i → Acc s (i + 1 + k))

      both : (i : ℕ) → ((j : ℕ) → Link s i j → Both j) → Both i
      both i f = (acc (λ j e. at e), λ k h. (f (i + 1 + k) (link_atom s i k h)).0)
        where
          at : {j : ℕ} → Edge s i j → Acc s j
          at (bound {v = v} e n) = (f v (link_var s i v e n)).0
          at (arg g n a k e d h) = let r = atom_arity s g n a d in (f g (link_str s i g e)).1 k (omega arith)
          at (first {l = m} e) = (f m (link_first s i m e)).0
          at (second m e) = (f (m + 1) (link_second s i m e)).0

  edge_links : {i j : ℕ} → Edge s i j → Reaches (Link s) i j
  edge_links {i} (bound {v = v} e n) = one (link_var s i v e n)
  edge_links {i} (arg g n a k e d h) = let r = atom_arity s g n a d in over (link_str s i g e) (one (link_atom s g k (omega arith)))
  edge_links {i} (first {l = m} e) = one (link_first s i m e)
  edge_links {i} (second m e) = one (link_second s i m e)

  -- what is reached by edges is reached by links
  pub reach_links : {i j : ℕ} → Reach s i j → Reaches (Link s) i j
  reach_links here = here
  reach_links (over e r) = join (edge_links e) (reach_links r)

-- ---- from edges to links, for cells that stand for terms
module _ (s : List ℕ) (top : ℕ) (wf : WellFormed s top) where
  term_edge : (i j : ℕ) → term_at s top i ≡ true → Edge s i j → term_at s top j ≡ true
  term_edge i j t e =
      let u = term_used s top i t in
      let k = edge_kid s e in
      rw k.2 (kid_term s top wf i u.0 u.1 k.0 k.1)

  -- a link is an edge, or goes from a Str to its functor cell
  link_cases : (i j : ℕ) → term_at s top i ≡ true → Link s i j → Edge s i j ⊎ (kind_at s i ≡ Str j)
  unfolding links links_kind link link_kind arity_kind
  link_cases i j t (k, d, z) = go (kind_at s i) refl d z
    where
      go : (q : Kind) → kind_at s i ≡ q → k < links_kind i q → j ≡ link_kind i k q → Edge s i j ⊎ (kind_at s i ≡ Str j)
      go (Var v) e d z = inl (rw z (bound e (λ y. let w : k < 0 = rw (eq-eqb v i y) at d in omega arith)))
      go (Str f) e d z = inr (e ∙ ap Str (sym z))
      go (Lis m) e d z = inl (rw z (pair_edge s i m k e d))
      go (Atom n a) e d z =
          let b = term_plain s top i t in
          let y : a ≡ 0 = sym (ap arity_kind e) ∙ no_arguments (kind_at s i) b in
          absurd (omega arith)
      go (Fixnum y) e d z = absurd (omega arith)
      go Bad e d z = absurd (omega arith)

  -- and from the functor cell to an argument of the Str
  through : (i f j : ℕ) → term_at s top i ≡ true → kind_at s i ≡ Str f → Link s f j → Edge s i j
  unfolding links links_kind link link_kind
  through i f j t e (k, d, z) =
      let u = term_used s top i t in
      let a = str_atom s top wf i u.0 u.1 f e in
      let w : k < arity_at s f = rw a.1 at d in
      rw (z, a.1) (arg f a.0 (arity_at s f) k e a.1 w)

  pub acc_links : {i : ℕ} → Acc s i → term_at s top i ≡ true → Accessible (Link s) i
  acc_links = acc_ind (λ (i : ℕ). term_at s top i ≡ true → Accessible (Link s) i) step
    where
      step : (i : ℕ) → ((j : ℕ) → Edge s i j → term_at s top j ≡ true → Accessible (Link s) j) → term_at s top i ≡ true → Accessible (Link s) i
      step i f t = acc (λ j l. by j (link_cases i j t l))
        where
          by : (j : ℕ) → Edge s i j ⊎ (kind_at s i ≡ Str j) → Accessible (Link s) j
          by j (inl e) = f j e (term_edge i j t e)
          by j (inr q) = acc (λ x l. let e = through i j x t q l in f x e (term_edge i x t e))

  -- what is reached by links is reached by edges, or is the functor cell of a Str that is
  pub links_reach : {i j : ℕ} → term_at s top i ≡ true → Reaches (Link s) i j → Reach s i j ⊎ ((x : ℕ) × Reach s i x × (kind_at s x ≡ Str j))
  links_reach {i} t r = spread (λ (x : ℕ). Reach s i x ⊎ ((y : ℕ) × Reach s i y × (kind_at s y ≡ Str x))) r step (inl here)
    where
      reach_term : (x : ℕ) → Reach s i x → term_at s top x ≡ true
      reach_term x p = spread (λ (x : ℕ). term_at s top x ≡ true) p term_edge t

      step : (x z : ℕ) → Reach s i x ⊎ ((y : ℕ) × Reach s i y × (kind_at s y ≡ Str x)) → Link s x z → Reach s i z ⊎ ((y : ℕ) × Reach s i y × (kind_at s y ≡ Str z))
      step x z (inl p) l = ⊎_elim (λ e. inl (join p (one e))) (λ q. inr (x, p, q)) (link_cases x z (reach_term x p) l)
      step x z (inr (y, p, q)) l = inl (join p (one (through y x z (reach_term y p) q l)))
