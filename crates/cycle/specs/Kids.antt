-- The edges of a cell by number: how many there are, and where each goes. And the runs that a cell names.
use Rattle.std.specs.Prelude.{◌≡◌, cond, not, ◌&&◌, List, eqb, leb}
use Rattle.std.proofs.Math.Path.{refl, ap, subst}
use Rattle.std.proofs.Common.{sym, ◌∙◌}
use Rattle.std.proofs.Math.Bool.{true, and-eq-true_iff}
use Rattle.std.proofs.lemmas.Bool.{false≢true}
use Prim.Native.Nat.{ℕ, zero, suc, ◌+◌, ◌<◌, ◌≤◌}
use native.Mathlib.Omega.{arith}
use Rattle.std.proofs.Math.Dec.{ltb}
use borrow.Author.Tests.{eq-eqb, ne_eqb, ltb-true, ltb-false, leb-true, lt-ltb, le-leb, not-true}
use Rattle.cell.specs.declared.Kind.{Kind}
use Rattle.cell.specs.declared.Kind.TheVariants.{Var, Str, Lis, Atom, Fixnum, Bad}
use Rattle.store.specs.All.{all_from, all_holds}
use Rattle.store.specs.Store.{kind_at, is_header, is_atom, no_header, term_at, atom_at, run_at, keeps, WellFormed}
use Rattle.store.specs.Steps.{term_used}
use Rattle.cycle.specs.Graph.{Edge, bound, arg, first, second, Acc, acc}

-- the arity of an Atom; 0 for any other kind
unfoldable pub arity_kind : Kind → ℕ
arity_kind (Var v) = 0
arity_kind (Str v) = 0
arity_kind (Lis v) = 0
arity_kind (Atom n a) = a
arity_kind (Fixnum z) = 0
arity_kind Bad = 0

-- an Atom with arguments is a header, and nothing else is
pub header_arity : (k : Kind) → is_header k ≡ ltb 0 (arity_kind k)
unfolding is_header arity_kind
header_arity (Var v) = refl
header_arity (Str v) = refl
header_arity (Lis v) = refl
header_arity (Atom n a) = refl
header_arity (Fixnum z) = refl
header_arity Bad = refl

pub no_arguments : (k : Kind) → not (is_header k) ≡ true → arity_kind k ≡ 0
no_arguments k h = let n = ltb-false 0 (arity_kind k) (sym (header_arity k) ∙ not-true (is_header k) h) in omega arith

-- how many cells stand behind the cell at f
unfoldable pub arity_at : List ℕ → ℕ → ℕ
arity_at s f = arity_kind (kind_at s f)

-- how many edges a cell of this kind has, at i
unfoldable pub deg_kind : List ℕ → ℕ → Kind → ℕ
deg_kind s i (Var v) = cond (eqb v i) 0 1
deg_kind s i (Str f) = arity_at s f
deg_kind s i (Lis l) = 2
deg_kind s i (Atom n a) = 0
deg_kind s i (Fixnum z) = 0
deg_kind s i Bad = 0

-- how many edges the cell at i has: one for a bound Var, one for each argument of a Str, two for a Lis
unfoldable pub deg : List ℕ → ℕ → ℕ
deg s i = deg_kind s i (kind_at s i)

-- where its edge of number k goes
unfoldable pub kid_kind : ℕ → Kind → ℕ
kid_kind k (Var v) = v
kid_kind k (Str f) = f + 1 + k
kid_kind k (Lis l) = l + k
kid_kind k (Atom n a) = 0
kid_kind k (Fixnum z) = 0
kid_kind k Bad = 0

-- where the edge of number k goes
unfoldable pub kid : List ℕ → ℕ → ℕ → ℕ
kid s i k = kid_kind k (kind_at s i)

-- the functor cell that a cell of this kind names
unfoldable pub head_kind : Kind → ℕ
head_kind (Var v) = 0
head_kind (Str f) = f
head_kind (Lis l) = 0
head_kind (Atom n a) = 0
head_kind (Fixnum z) = 0
head_kind Bad = 0

-- the functor cell that a Str names; 0 for any other cell
unfoldable pub head : List ℕ → ℕ → ℕ
head s i = head_kind (kind_at s i)

-- the first cell of the pair that a cell of this kind names
unfoldable pub pair_kind : Kind → ℕ
pair_kind (Var v) = 0
pair_kind (Str f) = 0
pair_kind (Lis l) = l
pair_kind (Atom n a) = 0
pair_kind (Fixnum z) = 0
pair_kind Bad = 0

-- the first cell of the pair that a Lis names; 0 for any other cell
unfoldable pub pair : List ℕ → ℕ → ℕ
pair s i = pair_kind (kind_at s i)

-- ---- the numbered edges are the edges
is_atom_lem : (k : Kind) → is_atom k ≡ true → (n : ℕ) × (k ≡ Atom n (arity_kind k))
unfolding is_atom arity_kind
is_atom_lem (Var v) h = absurd (false≢true h)
is_atom_lem (Str v) h = absurd (false≢true h)
is_atom_lem (Lis v) h = absurd (false≢true h)
is_atom_lem (Atom n a) h = (n, refl)
is_atom_lem (Fixnum z) h = absurd (false≢true h)
is_atom_lem Bad h = absurd (false≢true h)

arity_is : (k : Kind) (a : ℕ) → a < arity_kind k → (n : ℕ) × (k ≡ Atom n (arity_kind k))
unfolding arity_kind
arity_is (Var v) a h = absurd (omega arith)
arity_is (Str v) a h = absurd (omega arith)
arity_is (Lis v) a h = absurd (omega arith)
arity_is (Atom n b) a h = (n, refl)
arity_is (Fixnum z) a h = absurd (omega arith)
arity_is Bad a h = absurd (omega arith)

module _ (s : List ℕ) where
  pub pair_edge : (i l k : ℕ) → kind_at s i ≡ Lis l → k < 2 → Edge s i (l + k)
  pair_edge i l zero e h = let z : l ≡ l + 0 = omega arith in subst (Edge s i) z (first e)
  pair_edge i l (suc zero) e h = second l e
  pair_edge i l (suc (suc k)) e h = absurd (omega arith)

  pub kid_edge : (i k : ℕ) → k < deg s i → Edge s i (kid s i k)
  unfolding deg kid deg_kind kid_kind arity_at
  kid_edge i k = go (kind_at s i) refl
    where
      go : (q : Kind) → kind_at s i ≡ q → k < deg_kind s i q → Edge s i (kid_kind k q)
      go (Var v) e h = bound e (λ z. let w : k < 0 = rw (eq-eqb v i z) at h in omega arith)
      go (Str f) e h = let n = arity_is (kind_at s f) k h in arg f n.0 _ k e n.1 h
      go (Lis l) e h = pair_edge i l k e h
      go (Atom n a) e h = absurd (omega arith)
      go (Fixnum z) e h = absurd (omega arith)
      go Bad e h = absurd (omega arith)

  pub edge_kid : {i j : ℕ} → Edge s i j → (k : ℕ) × (k < deg s i) × (j ≡ kid s i k)
  unfolding deg kid deg_kind kid_kind arity_at arity_kind
  edge_kid {i} (bound {v = v} e n) = (0, rw (e, ne_eqb v i n) (omega arith), rw e)
  edge_kid (arg f n a k e d h) = (k, rw (e, d) h, rw e)
  edge_kid (first {l = l} e) = (0, rw e (omega arith), rw e (omega arith))
  edge_kid (second l e) = (1, rw e (omega arith), rw e)

  pub acc_all : (i : ℕ) → ((k : ℕ) → k < deg s i → Acc s (kid s i k)) → Acc s i
  acc_all i all = acc (λ j e. let n = edge_kid e in subst (Acc s) (sym n.2) (all n.0 n.1))

-- ---- the runs that cells name
module _ (s : List ℕ) (i : ℕ) where
  pub head_str : 1 ≤ head s i → kind_at s i ≡ Str (head s i)
  unfolding head head_kind
  head_str = go (kind_at s i) refl
    where
      go : (q : Kind) → kind_at s i ≡ q → 1 ≤ head_kind q → kind_at s i ≡ Str (head_kind q)
      go (Var v) e h = absurd (omega arith)
      go (Str f) e h = e
      go (Lis l) e h = absurd (omega arith)
      go (Atom n a) e h = absurd (omega arith)
      go (Fixnum z) e h = absurd (omega arith)
      go Bad e h = absurd (omega arith)

  pub str_head : (f : ℕ) → kind_at s i ≡ Str f → head s i ≡ f
  unfolding head head_kind
  str_head f e = ap head_kind e

  pub pair_lis : 1 ≤ pair s i → kind_at s i ≡ Lis (pair s i)
  unfolding pair pair_kind
  pair_lis = go (kind_at s i) refl
    where
      go : (q : Kind) → kind_at s i ≡ q → 1 ≤ pair_kind q → kind_at s i ≡ Lis (pair_kind q)
      go (Var v) e h = absurd (omega arith)
      go (Str f) e h = absurd (omega arith)
      go (Lis l) e h = e
      go (Atom n a) e h = absurd (omega arith)
      go (Fixnum z) e h = absurd (omega arith)
      go Bad e h = absurd (omega arith)

  pub lis_pair : (l : ℕ) → kind_at s i ≡ Lis l → pair s i ≡ l
  unfolding pair pair_kind
  lis_pair l e = ap pair_kind e

  pub atom_arity : (n a : ℕ) → kind_at s i ≡ Atom n a → arity_at s i ≡ a
  unfolding arity_at arity_kind
  atom_arity n a e = ap arity_kind e

-- ---- in a well-formed store each edge goes to a cell that stands for a term
module _ (s : List ℕ) (top : ℕ) (wf : WellFormed s top) where
  -- the cells behind a functor cell
  pub run_used : (f : ℕ) → 1 ≤ f → f < top → f + arity_at s f < top
  unfolding keeps arity_at arity_kind run_at
  run_used f l h = go (kind_at s f) (wf.keep f l h)
    where
      go : (q : Kind) → keeps s top f q ≡ true → f + arity_kind q < top
      go (Var v) e = omega arith
      go (Str v) e = omega arith
      go (Lis v) e = omega arith
      go (Atom n a) e = ltb-true (f + a) top ((and-eq-true_iff (ltb (f + a) top) (all_from (f + 1) a (no_header s))).0 e).0
      go (Fixnum z) e = omega arith
      go Bad e = omega arith

  pub run_term : (f k : ℕ) → 1 ≤ f → f < top → k < arity_at s f → term_at s top (f + 1 + k) ≡ true
  unfolding keeps arity_at arity_kind run_at term_at
  run_term f k l h d = go (kind_at s f) (wf.keep f l h) d (run_used f l h)
    where
      go : (q : Kind) → keeps s top f q ≡ true → k < arity_kind q → f + arity_kind q < top → term_at s top (f + 1 + k) ≡ true
      go (Var v) e d r = absurd (omega arith)
      go (Str v) e d r = absurd (omega arith)
      go (Lis v) e d r = absurd (omega arith)
      go (Atom n a) e d r =
          let b = ((and-eq-true_iff (ltb (f + a) top) (all_from (f + 1) a (no_header s))).0 e).1 in
          rw (le-leb 1 (f + 1 + k) (omega arith), lt-ltb (f + 1 + k) top (omega arith)) (all_holds (no_header s) a (f + 1) b (f + 1 + k) (omega arith) (omega arith))
      go (Fixnum z) e d r = absurd (omega arith)
      go Bad e d r = absurd (omega arith)

  atom_used : (f : ℕ) → atom_at s top f ≡ true → (1 ≤ f) × (f < top)
  unfolding atom_at
  atom_used f h =
      let a = ((and-eq-true_iff (leb 1 f && ltb f top) (is_atom (kind_at s f))).0 h).0 in
      let b = (and-eq-true_iff (leb 1 f) (ltb f top)).0 a in
      (leb-true 1 f b.0, ltb-true f top b.1)

  module _ (i : ℕ) (l : 1 ≤ i) (h : i < top) where
    pub str_used : (f : ℕ) → kind_at s i ≡ Str f → (1 ≤ f) × (f < top)
    unfolding keeps
    str_used f e = atom_used f (subst (λ (q : Kind). keeps s top i q ≡ true) e (wf.keep i l h))

    pub str_atom : (f : ℕ) → kind_at s i ≡ Str f → (n : ℕ) × (kind_at s f ≡ Atom n (arity_at s f))
    unfolding keeps atom_at arity_at
    str_atom f e = is_atom_lem (kind_at s f) ((and-eq-true_iff (leb 1 f && ltb f top) (is_atom (kind_at s f))).0 (subst (λ (q : Kind). keeps s top i q ≡ true) e (wf.keep i l h))).1

    pub lis_terms : (m : ℕ) → kind_at s i ≡ Lis m → (term_at s top m ≡ true) × (term_at s top (m + 1) ≡ true)
    unfolding keeps
    lis_terms m e = (and-eq-true_iff (term_at s top m) (term_at s top (m + 1))).0 (subst (λ (q : Kind). keeps s top i q ≡ true) e (wf.keep i l h))

    pub kid_term : (k : ℕ) → k < deg s i → term_at s top (kid s i k) ≡ true
    unfolding deg kid keeps deg_kind kid_kind
    kid_term k = go (kind_at s i) refl (wf.keep i l h)
      where
        go : (q : Kind) → kind_at s i ≡ q → keeps s top i q ≡ true → k < deg_kind s i q → term_at s top (kid_kind k q) ≡ true
        go (Var v) q e d = e
        go (Str f) q e d = let u = atom_used f e in run_term f k u.0 u.1 d
        go (Lis m) q e d = two k (lis_terms m q) d
          where
            two : (k : ℕ) → (term_at s top m ≡ true) × (term_at s top (m + 1) ≡ true) → k < 2 → term_at s top (m + k) ≡ true
            two zero b d = let z : m ≡ m + 0 = omega arith in subst (λ (x : ℕ). term_at s top x ≡ true) z b.0
            two (suc zero) b d = b.1
            two (suc (suc n)) b d = absurd (omega arith)
        go (Atom n a) q e d = absurd (omega arith)
        go (Fixnum z) q e d = absurd (omega arith)
        go Bad q e d = absurd (omega arith)

    pub kid_used : (k : ℕ) → k < deg s i → (1 ≤ kid s i k) × (kid s i k < top)
    kid_used k d = term_used s top (kid s i k) (kid_term k d)

    pub head_lt : head s i < top
    unfolding head head_kind keeps
    head_lt = go (kind_at s i) (wf.keep i l h)
      where
        go : (q : Kind) → keeps s top i q ≡ true → head_kind q < top
        go (Var v) e = omega arith
        go (Str f) e = (atom_used f e).1
        go (Lis m) e = omega arith
        go (Atom n a) e = omega arith
        go (Fixnum z) e = omega arith
        go Bad e = omega arith

    pub pair_lt : pair s i < top
    unfolding pair pair_kind
    pair_lt = go (kind_at s i) refl
      where
        go : (q : Kind) → kind_at s i ≡ q → pair_kind q < top
        go (Var v) e = omega arith
        go (Str f) e = omega arith
        go (Lis m) e = (term_used s top m (lis_terms m e).0).1
        go (Atom n a) e = omega arith
        go (Fixnum z) e = omega arith
        go Bad e = omega arith
