-- That what the code decides is what the rules of unification say, arm by arm.
use Rattle.std.proofs.Math.Path.{◌≡◌, refl, sym, ap, subst}
use Rattle.std.proofs.Common.{◌∙◌, arith}
use Rattle.std.specs.Prelude.{Bool, false, ◌&&◌, List, eqb, leb, ℤ}
use Rattle.std.proofs.Math.Bool.{true, false≢true, and-eq-true_iff}
use Prim.Native.Nat.{ℕ, zero, suc, ◌+◌, min, max, ◌<◌}
use Rattle.std.proofs.Math.Decide.{ℕ_discrete, dec_lt}
use Rattle.std.proofs.Math.Dec.{ltb}
use borrow.Author.Tests.{eqb-true, eq-eqb, ne_eqb, ltb-true}
use Rattle.cell.specs.declared.Kind.{Kind}
use Rattle.cell.specs.declared.Kind.TheVariants.{Var, Str, Lis, Atom, Fixnum, Bad}
use Rattle.store.specs.Store.{kind_at, atom_at, is_atom, keeps, step, step_kind}
use Rattle.store.specs.Steps.{term_plain}
use Rattle.cycle.specs.Kids.{arity_at, str_atom, lis_terms}
use Rattle.terms.specs.View.{Constant, atom, number, View, free, con, nod, Shape, str_view, view_kind, dot, fun_kind, behind, shape_of}
use Rattle.terms.specs.Shows.{flat}
use Rattle.unification.specs.Machine.{bind, rule}
use Rattle.unification.specs.Cases.{Apart, cc, cn, nc, nn}
use Rattle.unification.proofs.Cases.{higher_bound}
use Rattle.unification.specs.Nodes.{free_var}
use Rattle.unify.specs.declared.Act.{Act}
use Rattle.unify.specs.Decided.{Two, AtomCell, is_dot, atom_named, agreed, Binding, Nodes, Decided}

-- ---- reading an Atom cell
pub no_atom_lem : {cells : List ℕ} {f : ℕ} {k : Kind} → AtomCell cells f → k ≡ kind_at cells f → ((n a : ℕ) → k ≡ Atom n a → ⊥) → ⊥
no_atom_lem a e h = h _ _ (e ∙ a.is)

both : (x y : Bool) → (x && y) ≡ true → (x ≡ true) × (y ≡ true)
both x y e = (and-eq-true_iff x y).0 e

module _ {k : Kind} {n a : ℕ} (e : k ≡ Atom n a) where
  pub is_dot_lem : is_dot k ≡ true → (n ≡ dot.0) × (a ≡ dot.1)
  unfolding is_dot
  is_dot_lem h = let z = both (eqb n dot.0) (eqb a dot.1) (sym (ap is_dot e) ∙ h) in (eqb-true n dot.0 z.0, eqb-true a dot.1 z.1)

  pub not_dot : is_dot k ≡ false → n ≡ dot.0 → a ≡ dot.1 → ⊥
  unfolding is_dot
  not_dot h p q = false≢true (sym h ∙ rw (e, is_dot, eq-eqb n dot.0 p, eq-eqb a dot.1 q))

  module _ {m : ℕ} where
    pub atom_named_lem : n ≡ m → eqb a 0 ≡ atom_named m k
    unfolding atom_named
    atom_named_lem q = rw (e, atom_named, eq-eqb n m q)

    pub is_atom_lem : atom_named m k ≡ true → (n ≡ m) × (a ≡ 0)
    unfolding atom_named
    is_atom_lem h = let z = both (eqb n m) (eqb a 0) (sym (ap (atom_named m) e) ∙ h) in (eqb-true n m z.0, eqb-true a 0 z.1)

    pub not_atom : atom_named m k ≡ false → n ≡ m → a ≡ 0 → ⊥
    unfolding atom_named
    not_atom h p q = false≢true (sym h ∙ rw (e, atom_named, eq-eqb n m p, eq-eqb a 0 q))

-- ---- the Str that names an Atom cell, against another, against a pair and against a constant
apart_swap : {sh : Shape} {X Y : View} → Apart sh X Y → Apart sh Y X
apart_swap (cc c d n) = cc d c (λ e. n (sym e))
apart_swap (cn c n) = nc n c
apart_swap (nc n c) = cn c n
apart_swap (nn n m f) = nn m n (λ e. f (sym e))

module _ (cells : List ℕ) (s : ℕ) {n a : ℕ} (e : kind_at cells s ≡ Atom n a) where
  view_str : view_kind cells (Str s) ≡ str_view s (Atom n a)
  unfolding view_kind
  view_str = ap (str_view s) e

  -- of arity 0 it is its atom, else the node of its functor cell
  view_atom : a ≡ 0 → view_kind cells (Str s) ≡ con (atom n)
  unfolding str_view
  view_atom z = view_str ∙ ap (λ (x : ℕ). str_view s (Atom n x)) z

  view_node : (a ≡ 0 → ⊥) → (view_kind cells (Str s) ≡ nod s) × ((shape_of cells).fun s ≡ (n, a)) × (behind (kind_at cells s) ≡ 1)
  unfolding str_view fun_kind behind
  view_node z = (view_str ∙ by a z, ap fun_kind e ∙ fun a z, ap behind e ∙ run a z)
    where
      by : (a : ℕ) → (a ≡ 0 → ⊥) → str_view s (Atom n a) ≡ nod s
      by zero z = absurd (z refl)
      by (suc a) z = refl

      fun : (a : ℕ) → (a ≡ 0 → ⊥) → fun_kind (Atom n a) ≡ (n, a)
      fun zero z = absurd (z refl)
      fun (suc a) z = refl

      run : (a : ℕ) → (a ≡ 0 → ⊥) → behind (Atom n a) ≡ 1
      run zero z = absurd (z refl)
      run (suc a) z = refl

  -- against a node of another functor
  apart_node : (t : ℕ) {m b : ℕ} → (shape_of cells).fun t ≡ (m, b) → (n ≡ m → a ≡ b → ⊥) → Apart (shape_of cells) (view_kind cells (Str s)) (nod t)
  apart_node t {m} {b} f d =
      elim (ℕ_discrete a 0) [
        | yes z ↦ rw (view_atom z) (cn (atom n) t)
        | no z ↦ (let v = view_node z in rw v.0 (nn s t (λ q. let w : ◌≡◌ {A = ℕ × ℕ} (n, a) (m, b) = sym v.1 ∙ q ∙ f in d (ap (λ x. x.0) w) (ap (λ x. x.1) w))))
      ]

  -- against another constant
  apart_constant : (c : Constant) → (c ≡ atom n → a ≡ 0 → ⊥) → Apart (shape_of cells) (view_kind cells (Str s)) (con c)
  apart_constant c d =
      elim (ℕ_discrete a 0) [
        | yes z ↦ rw (view_atom z) (cc (atom n) c (λ q. d (sym q) z))
        | no z ↦ rw (view_node z).0 (nc s c)
      ]

module _ (cells : List ℕ) (s t : ℕ) {n a m b : ℕ} (e : kind_at cells s ≡ Atom n a) (g : kind_at cells t ≡ Atom m b) where
  pub functors_apart : (n ≡ m → a ≡ b → ⊥) → Apart (shape_of cells) (view_kind cells (Str s)) (view_kind cells (Str t))
  functors_apart d =
      elim (ℕ_discrete b 0) [
        | yes z ↦ rw (view_atom cells t g z) (apart_constant cells s e (atom m) (λ q y. d (sym (name_is m n q)) (y ∙ sym z)))
        | no z ↦ (let v = view_node cells t g z in rw v.0 (apart_node cells s e t v.1 d))
      ]
    where
      name_is : (m n : ℕ) → atom m ≡ atom n → m ≡ n
      name_is m n q = Prim.cc

  module _ (p : n ≡ m) (q : a ≡ b) where
    pub functors_atom : a ≡ 0 → view_kind cells (Str s) ≡ view_kind cells (Str t)
    functors_atom z = view_atom cells s e z ∙ ap (λ (x : ℕ). con (atom x)) p ∙ sym (view_atom cells t g (sym q ∙ z))

    pub functors_join : (a ≡ 0 → ⊥) → Nodes cells (view_kind cells (Str s)) (view_kind cells (Str t)) s t (s + 1) (t + 1) a
    functors_join z =
        let v = view_node cells s e z in
        let w = view_node cells t g (λ y. z (q ∙ y)) in
        record {
          left_node = v.0;
          right_node = w.0;
          alike = v.1 ∙ (λ i. (p i, q i)) ∙ sym w.1;
          arity_is = sym (ap (λ x. x.1) v.1);
          left_first = sym (ap (λ (x : ℕ). s + x) v.2);
          right_first = sym (ap (λ (x : ℕ). t + x) w.2);
        }

-- ---- two followed cells
module _ {cells : List ℕ} {a : ℕ} {j : Kind} {b : ℕ} {k : Kind} (t : Two cells a j b k) where
  pub swapped : Two cells b k a j
  swapped = record { top = t.top; store = t.store; left = t.right; right = t.left }

  -- the functor cell of a Str
  pub right_atom : {f : ℕ} → k ≡ Str f → AtomCell cells f
  unfolding keeps atom_at
  right_atom {f} e =
      let r = t.right in
      let h = t.store.high in
      let room = t.store.room in
      let is : kind_at cells b ≡ Str f = sym r.is ∙ e in
      let at = str_atom cells t.top t.store b r.low r.high f is in
      let kept : atom_at cells t.top f ≡ true = subst (λ (x : Kind). keeps cells t.top b x ≡ true) is (t.store.keep b r.low r.high) in
      let used = both (leb 1 f) (ltb f t.top) (both (leb 1 f && ltb f t.top) (is_atom (kind_at cells f)) kept).0 in
      let high = ltb-true f t.top used.1 in
      record { inside = omega arith; high = omega arith; name = at.0; arity = arity_at cells f; is = at.1 }

  -- the first cell of a pair
  pub right_pair : {l : ℕ} → k ≡ Lis l → (view_kind cells k ≡ nod l) × ((shape_of cells).fun l ≡ dot) × (behind (kind_at cells l) ≡ 0)
  unfolding view_kind
  right_pair {l} e =
      let r = t.right in
      let at = (lis_terms cells t.top t.store b r.low r.high l (sym r.is ∙ e)).0 in
      let p = flat (kind_at cells l) (term_plain cells t.top l at) in
      (ap (view_kind cells) e, p.0, p.1)

  -- an unbound Var names itself
  pub right_var : {v : ℕ} → k ≡ Var v → b ≡ v
  unfolding step step_kind
  right_var e = let r = t.right in sym r.stays ∙ ap (step_kind b) (sym r.is ∙ e)

  -- no cell is of no kind
  pub not_bad : k ≡ Bad → ⊥
  unfolding keeps
  not_bad e = let r = t.right in false≢true (subst (λ (x : Kind). keeps cells t.top b x ≡ true) (sym r.is ∙ e) (t.store.keep b r.low r.high))

  -- the other cell is an unbound Var, and this one is none
  rule_right : (v : ℕ) (X : View) → ((w : ℕ) → X ≡ free w → ⊥) → (sh : Shape) (classes : ℕ → ℕ) → rule sh classes X (free v) ≡ bind v X
  unfolding rule
  rule_right v (free w) n sh classes = absurd (n w refl)
  rule_right v (con c) n sh classes = refl
  rule_right v (nod m) n sh classes = refl

  pub bind_right : {v : ℕ} → ((w : ℕ) → j ≡ Var w → ⊥) → k ≡ Var v → Binding (view_kind cells j) (view_kind cells k) a b v a
  unfolding view_kind
  bind_right {v} n e =
      record {
        shows = view_kind cells j;
        rules = λ sh classes. ap (λ (x : Kind). rule sh classes (view_kind cells j) (view_kind cells x)) e ∙ rule_right v (view_kind cells j) (λ w q. n w (free_var cells t.top t.store j w q)) sh classes;
        from = sym (rw (ne_eqb a v (λ q. n v (t.left.is ∙ ap (kind_at cells) (q ∙ sym (right_var e)) ∙ sym t.right.is ∙ e))));
      }

-- ---- an unbound Var first
module _ {cells : List ℕ} {v b : ℕ} {k : Kind} (t : Two cells v (Var v) b k) where
  module _ {w : ℕ} (e : k ≡ Var w) where
    shown : (sh : Shape) (classes : ℕ → ℕ) → rule sh classes (view_kind cells (Var v)) (view_kind cells k) ≡ rule sh classes (free v) (free w)
    unfolding view_kind
    shown sh classes = ap (λ (x : Kind). rule sh classes (free v) (view_kind cells x)) e

    -- of two, the higher is bound
    pub vars_low : v < w → Binding (view_kind cells (Var v)) (view_kind cells k) v b w v
    vars_low h = record { shows = free v; rules = λ sh classes. shown sh classes ∙ (higher_bound sh classes v w h).0; from = sym (rw (ne_eqb v w (λ q. absurd (omega arith)))) }

    pub vars_high : w < v → Binding (view_kind cells (Var v)) (view_kind cells k) v b v w
    vars_high h = record { shows = free w; rules = λ sh classes. shown sh classes ∙ (higher_bound sh classes w v h).1; from = sym (rw (eq-eqb v v refl) (right_var t e)) }

    pub vars_higher : (v ≡ w → ⊥) → {high low : ℕ} → high ≡ max v w → low ≡ min v w → Binding (view_kind cells (Var v)) (view_kind cells k) v b high low
    vars_higher n {high} {low} p q =
        elim (dec_lt v w) [
          | yes h ↦ (let x : high ≡ w = omega arith in let y : low ≡ v = omega arith in rw (x, y) (vars_low h))
          | no h ↦ (let g : w < v = omega arith in let x : high ≡ v = omega arith in let y : low ≡ w = omega arith in rw (x, y) (vars_high g))
        ]

  -- any other cell
  pub var_other : ((w : ℕ) → k ≡ Var w → ⊥) → Binding (view_kind cells (Var v)) (view_kind cells k) v b v b
  unfolding view_kind rule
  var_other h = record { shows = view_kind cells k; rules = by (view_kind cells k) none; from = sym (rw (eq-eqb v v refl)) }
    where
      none : (w : ℕ) → view_kind cells k ≡ free w → ⊥
      none w q = h w (free_var cells t.top t.store k w q)

      by : (Y : View) → ((w : ℕ) → Y ≡ free w → ⊥) → (sh : Shape) (classes : ℕ → ℕ) → rule sh classes (free v) Y ≡ bind v Y
      by (free w) n sh classes = absurd (n w refl)
      by (con c) n sh classes = refl
      by (nod m) n sh classes = refl

-- ---- a Str first
module _ {cells : List ℕ} {a s b : ℕ} {k : Kind} (t : Two cells a (Str s) b k) where
  pub str_cell : AtomCell cells s
  str_cell = right_atom (swapped t) refl

  abbrev X : View
  X = view_kind cells (Str s)

  abbrev name : ℕ
  name = str_cell.name

  abbrev arity : ℕ
  arity = str_cell.arity

  pub str_pair : {l : ℕ} → k ≡ Lis l → is_dot (kind_at cells s) ≡ true → Nodes cells X (view_kind cells k) s l (s + 1) l dot.1
  str_pair e d =
      let p = right_pair t e in
      let q = is_dot_lem str_cell.is d in
      let two = q.1 in
      let v = view_node cells s str_cell.is (λ z. omega arith) in
      let f : (shape_of cells).fun s ≡ dot = v.1 ∙ (λ i. (q.0 i, q.1 i)) in
      record {
        left_node = v.0;
        right_node = p.0;
        alike = f ∙ sym p.1;
        arity_is = sym (ap (λ x. x.1) f);
        left_first = sym (ap (λ (x : ℕ). s + x) v.2);
        right_first = let z = p.2 in omega arith;
      }

  pub str_not_pair : {l : ℕ} → k ≡ Lis l → is_dot (kind_at cells s) ≡ false → Apart (shape_of cells) X (view_kind cells k)
  str_not_pair {l} e d =
      let p = right_pair t e in
      rw p.0 (apart_node cells s str_cell.is l p.1 (not_dot str_cell.is d))

  pub str_is_atom : {m x : ℕ} → k ≡ Atom m x → atom_named m (kind_at cells s) ≡ true → X ≡ view_kind cells k
  unfolding view_kind
  str_is_atom e d =
      let q = is_atom_lem str_cell.is d in
      view_atom cells s str_cell.is q.1 ∙ ap (λ (y : ℕ). con (atom y)) q.0 ∙ sym (ap (view_kind cells) e)

  -- against a constant that it is not
  against : (c : Constant) → view_kind cells k ≡ con c → (c ≡ atom name → arity ≡ 0 → ⊥) → Apart (shape_of cells) X (view_kind cells k)
  against c e d = rw e (apart_constant cells s str_cell.is c d)

  pub str_not_atom : {m x : ℕ} → k ≡ Atom m x → atom_named m (kind_at cells s) ≡ false → Apart (shape_of cells) X (view_kind cells k)
  unfolding view_kind
  str_not_atom {m} e d = against (atom m) (ap (view_kind cells) e) (λ q z. not_atom str_cell.is d (let y : m ≡ name = Prim.cc in sym y) z)

  pub str_number : {z : ℤ} → k ≡ Fixnum z → Apart (shape_of cells) X (view_kind cells k)
  unfolding view_kind
  str_number {z} e = against (number z) (ap (view_kind cells) e) (λ q y. let z : ◌≡◌ {A = ℕ} 0 1 = Prim.cc in omega arith)

  pub str_other : ((v : ℕ) → k ≡ Var v → ⊥) → ((f : ℕ) → k ≡ Str f → ⊥) → ((l : ℕ) → k ≡ Lis l → ⊥) → ((n a : ℕ) → k ≡ Atom n a → ⊥) → Apart (shape_of cells) X (view_kind cells k)
  str_other no_var no_str no_lis no_atom = by k refl
    where
      by : (q : Kind) → k ≡ q → Apart (shape_of cells) X (view_kind cells k)
      by (Var v) e = absurd (no_var v e)
      by (Str v) e = absurd (no_str v e)
      by (Lis v) e = absurd (no_lis v e)
      by (Atom n x) e = absurd (no_atom n x e)
      by (Fixnum z) e = str_number e
      by Bad e = absurd (not_bad t e)

-- a Str second: the two cells the other way round
module _ {cells : List ℕ} {a : ℕ} {j : Kind} {b : ℕ} {k : Kind} (t : Two cells a j b k) {s : ℕ} (e : k ≡ Str s) where
  abbrev pub turned : Two cells b (Str s) a j
  turned = subst (λ (x : Kind). Two cells b x a j) e (swapped t)

  pub turned_apart : Apart (shape_of cells) (view_kind cells (Str s)) (view_kind cells j) → Apart (shape_of cells) (view_kind cells j) (view_kind cells k)
  turned_apart p = subst (λ (x : Kind). Apart (shape_of cells) (view_kind cells j) (view_kind cells x)) (sym e) (apart_swap p)

-- ---- a Lis first
module _ {cells : List ℕ} {a l b : ℕ} {k : Kind} (t : Two cells a (Lis l) b k) where
  pair : (view_kind cells (Lis l) ≡ nod l) × ((shape_of cells).fun l ≡ dot) × (behind (kind_at cells l) ≡ 0)
  pair = right_pair (swapped t) refl

  pub lis_pair : {m : ℕ} → k ≡ Lis m → Nodes cells (view_kind cells (Lis l)) (view_kind cells k) l m l m dot.1
  lis_pair e =
      let p = right_pair t e in
      record {
        left_node = pair.0;
        right_node = p.0;
        alike = pair.1 ∙ sym p.1;
        arity_is = sym (ap (λ x. x.1) pair.1);
        left_first = let z = pair.2 in omega arith;
        right_first = let z = p.2 in omega arith;
      }

  module _ {s : ℕ} (e : k ≡ Str s) where
    pub lis_str : is_dot (kind_at cells s) ≡ true → Nodes cells (view_kind cells (Lis l)) (view_kind cells k) l s l (s + 1) dot.1
    lis_str d =
        let n = str_pair (turned t e) refl d in
        record {
          left_node = n.right_node;
          right_node = ap (view_kind cells) e ∙ n.left_node;
          alike = sym n.alike;
          arity_is = sym (ap (λ x. x.1) pair.1);
          left_first = n.right_first;
          right_first = n.left_first;
        }

    pub lis_not_str : is_dot (kind_at cells s) ≡ false → Apart (shape_of cells) (view_kind cells (Lis l)) (view_kind cells k)
    lis_not_str d = turned_apart t e (str_not_pair (turned t e) refl d)

  pub lis_other : ((v : ℕ) → k ≡ Var v → ⊥) → ((f : ℕ) → k ≡ Str f → ⊥) → ((m : ℕ) → k ≡ Lis m → ⊥) → Apart (shape_of cells) (view_kind cells (Lis l)) (view_kind cells k)
  unfolding view_kind
  lis_other no_var no_str no_lis = by k refl
    where
      by : (q : Kind) → k ≡ q → Apart (shape_of cells) (nod l) (view_kind cells q)
      by (Var v) e = absurd (no_var v e)
      by (Str v) e = absurd (no_str v e)
      by (Lis v) e = absurd (no_lis v e)
      by (Atom n x) e = nc l (atom n)
      by (Fixnum z) e = nc l (number z)
      by Bad e = absurd (not_bad t e)

-- ---- an atom first
module _ {cells : List ℕ} {a n x b : ℕ} {k : Kind} (t : Two cells a (Atom n x) b k) where
  pub atoms_same : {m y : ℕ} → k ≡ Atom m y → n ≡ m → view_kind cells (Atom n x) ≡ view_kind cells k
  unfolding view_kind
  atoms_same e q = ap (λ (i : ℕ). con (atom i)) q ∙ sym (ap (view_kind cells) e)

  pub atoms_apart : {m y : ℕ} → k ≡ Atom m y → (n ≡ m → ⊥) → Apart (shape_of cells) (view_kind cells (Atom n x)) (view_kind cells k)
  unfolding view_kind
  atoms_apart {m} e d = subst (λ (q : Kind). Apart (shape_of cells) (con (atom n)) (view_kind cells q)) (sym e) (cc (atom n) (atom m) (λ q. d (Prim.cc)))

  module _ {s : ℕ} (e : k ≡ Str s) where
    pub atom_str : atom_named n (kind_at cells s) ≡ true → view_kind cells (Atom n x) ≡ view_kind cells k
    atom_str d = sym (ap (view_kind cells) e ∙ str_is_atom (turned t e) refl d)

    pub atom_not_str : atom_named n (kind_at cells s) ≡ false → Apart (shape_of cells) (view_kind cells (Atom n x)) (view_kind cells k)
    atom_not_str d = turned_apart t e (str_not_atom (turned t e) refl d)

  pub atom_else : ((v : ℕ) → k ≡ Var v → ⊥) → ((f : ℕ) → k ≡ Str f → ⊥) → ((m y : ℕ) → k ≡ Atom m y → ⊥) → Apart (shape_of cells) (view_kind cells (Atom n x)) (view_kind cells k)
  unfolding view_kind
  atom_else no_var no_str no_atom = by k refl
    where
      by : (q : Kind) → k ≡ q → Apart (shape_of cells) (con (atom n)) (view_kind cells q)
      by (Var v) e = absurd (no_var v e)
      by (Str v) e = absurd (no_str v e)
      by (Lis v) e = cn (atom n) v
      by (Atom m y) e = absurd (no_atom m y e)
      by (Fixnum z) e = cc (atom n) (number z) (λ q. let y : ◌≡◌ {A = ℕ} 0 1 = Prim.cc in omega arith)
      by Bad e = absurd (not_bad t e)

-- ---- a number first
module _ {cells : List ℕ} {a : ℕ} {n : ℤ} {b : ℕ} {k : Kind} (t : Two cells a (Fixnum n) b k) where
  pub numbers_same : {m : ℤ} → k ≡ Fixnum m → n ≡ m → view_kind cells (Fixnum n) ≡ view_kind cells k
  unfolding view_kind
  numbers_same e q = ap (λ (i : ℤ). con (number i)) q ∙ sym (ap (view_kind cells) e)

  pub numbers_apart : {m : ℤ} → k ≡ Fixnum m → (n ≡ m → ⊥) → Apart (shape_of cells) (view_kind cells (Fixnum n)) (view_kind cells k)
  unfolding view_kind
  numbers_apart {m} e d = subst (λ (q : Kind). Apart (shape_of cells) (con (number n)) (view_kind cells q)) (sym e) (cc (number n) (number m) (λ q. d (Prim.cc)))

  pub number_else : ((v : ℕ) → k ≡ Var v → ⊥) → ((z : ℤ) → k ≡ Fixnum z → ⊥) → Apart (shape_of cells) (view_kind cells (Fixnum n)) (view_kind cells k)
  unfolding view_kind
  number_else no_var no_number = by k refl
    where
      by : (q : Kind) → k ≡ q → Apart (shape_of cells) (con (number n)) (view_kind cells q)
      by (Var v) e = absurd (no_var v e)
      by (Str s) e = apart_swap (str_number (turned t e) refl)
      by (Lis v) e = cn (number n) v
      by (Atom m y) e = cc (number n) (atom m) (λ q. let y : ◌≡◌ {A = ℕ} 0 1 = Prim.cc in omega arith)
      by (Fixnum z) e = absurd (no_number z e)
      by Bad e = absurd (not_bad t e)

-- ---- two constants
pub agree_lem : (cells : List ℕ) (a : ℕ) (j : Kind) (b : ℕ) (k : Kind) (same : Bool) (act : Act) → act ≡ agreed same → (same ≡ true → view_kind cells j ≡ view_kind cells k) → (same ≡ false → Apart (shape_of cells) (view_kind cells j) (view_kind cells k)) → Decided cells a j b k act
agree_lem cells a j b k true act e p q = subst (Decided cells a j b k) (sym e) (p refl)
agree_lem cells a j b k false act e p q = subst (Decided cells a j b k) (sym e) (q refl)

-- ---- by the kind of the first
module _ {cells : List ℕ} {a : ℕ} {j : Kind} {b : ℕ} {k : Kind} (t : Two cells a j b k) where
  pub of_kind : {q : Kind} → j ≡ q → Two cells a q b k
  of_kind e = subst (λ (x : Kind). Two cells a x b k) e t

  pub kind_is : {q : Kind} (r : Act) → j ≡ q → Decided cells a q b k r → Decided cells a j b k r
  kind_is r e d = subst (λ (x : Kind). Decided cells a x b k r) (sym e) d

  -- an unbound Var stands at its own place
  module _ {v : ℕ} (e : j ≡ Var v) where
    place : a ≡ v
    place = right_var (swapped t) e

    pub of_var : Two cells v (Var v) b k
    of_var = subst (λ (x : ℕ). Two cells x (Var v) b k) place (of_kind e)

    pub var_is : (r : Act) → Decided cells v (Var v) b k r → Decided cells a j b k r
    var_is r d = kind_is r e (subst (λ (x : ℕ). Decided cells x (Var v) b k r) (sym place) d)

  pub first_bad : j ≡ Bad → ⊥
  first_bad e = not_bad (swapped t) e
