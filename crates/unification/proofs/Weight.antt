-- How many pairs can ever stand: the pairs, and the arities of the nodes that name a class, keep one sum, which falls by one with each pair taken and starts at 3 x `top` + 1 at most.
use Rattle.std.specs.Prelude.{◌≡◌, Bool, List, [], ◌∷◌, length}
use Rattle.std.proofs.Math.Path.{refl, ap}
use Rattle.std.proofs.Common.{sym, ◌∙◌, length-append}
use Rattle.std.proofs.Math.Bool.{true, false, cond}
use Prim.Native.Nat.{ℕ, zero, suc, ◌+◌, ◌*◌, ◌<◌, ◌≤◌}
use native.Mathlib.Omega.{arith}
use Rattle.std.proofs.Math.Dec.{eqb}
use borrow.Author.Tests.{eqb-true, eq-eqb, ne_eqb}
use Rattle.cell.specs.declared.Kind.{Kind}
use Rattle.cell.specs.declared.Kind.TheVariants.{Var, Str, Lis, Atom, Fixnum, Bad}
use Rattle.cell.specs.Kinds.{kind_of, by_tag}
use Rattle.store.specs.Store.{kind_at, term_at, WellFormed}
use Rattle.store.specs.Steps.{term_plain}
use Rattle.cycle.specs.Sum.{sum_from, sum_same}
use Rattle.cycle.specs.Kids.{arity_kind, arity_at, no_arguments, run_used, run_term}
use Rattle.terms.specs.View.{nod, Shape, arity_of, fun_kind, look_at, shape_of}
use Rattle.unification.specs.Machine.{Act, merge, args}
use Rattle.unification.specs.Seen.{Seen, put_is, apply}
use Rattle.unification.specs.Cases.{Case, skips, binds, binds', joins, parts}
use Rattle.unification.specs.Nodes.{node_lt}
use Rattle.unification.specs.Sums.{sum_drop}
use Rattle.unification.specs.Weight.{Merged, Classed, weigh, weight, same, left, right}

-- what one name after a join tells of the names before it
pub merged : (p q c d : ℕ) → merge p q c ≡ merge p q d → Merged p q c d
unfolding merge
merged p q c d = go (eqb c q) (eqb d q) refl refl
  where
    go : (x y : Bool) → eqb c q ≡ x → eqb d q ≡ y → cond x p c ≡ cond y p d → Merged p q c d
    go true true e f h = same (eqb-true c q e ∙ sym (eqb-true d q f))
    go true false e f h = right (eqb-true c q e) (sym h)
    go false true e f h = left h (eqb-true d q f)
    go false false e f h = same h

pub merge_ends : (p q : ℕ) → merge p q p ≡ merge p q q
unfolding merge
merge_ends p q = go (eqb p q)
  where
    go : (x : Bool) → cond x p p ≡ cond (eqb q q) p q
    go true = rw (eq-eqb q q refl)
    go false = rw (eq-eqb q q refl)

pub length_args : (sh : Shape) (n m a k : ℕ) → length (args sh n m a k) ≡ a
unfolding args
length_args sh n m zero k = refl
length_args sh n m (suc a) k = ap suc (length_args sh n m a (suc k))

module _ (sh : Shape) (classes : ℕ → ℕ) (n m : ℕ) (apart : classes n ≡ classes m → ⊥) (qq : classes (classes m) ≡ classes m) where
  gone : weigh sh (λ k. merge (classes n) (classes m) (classes k)) (classes m) ≡ 0
  unfolding merge
  gone = rw (qq, eq-eqb (classes m) (classes m) refl, ne_eqb (classes n) (classes m) apart)

  kept : (k : ℕ) → (k ≡ classes m → ⊥) → classes (classes n) ≡ classes n → weigh sh (λ k. merge (classes n) (classes m) (classes k)) k ≡ weigh sh classes k
  unfolding merge
  kept k f pp = at (eqb (classes k) (classes m)) refl
    where
      at : (x : Bool) → eqb (classes k) (classes m) ≡ x → cond (eqb (cond x (classes n) (classes k)) k) (arity_of sh k) 0 ≡ weigh sh classes k
      at true e =
          let ek : classes k ≡ classes m = eqb-true (classes k) (classes m) e in
          rw (ne_eqb (classes n) k (λ z. apart (cc)), ne_eqb (classes k) k (λ z. f (cc)))
      at false e = refl

-- a join moves the weight of the class that loses its name to the pairs
pub level : (sh : Shape) (top : ℕ) (s : Seen) (a b : ℕ) (u : Act) → Case sh s.classes (s.look a) (s.look b) u → Classed sh top s → weight sh top (apply sh s u) ≡ weight sh top s
unfolding apply
level sh top s a b u (skips e) w = refl
level sh top s a b u (binds v x p r f) w = refl
level sh top s a b u (binds' v x p r f) w = refl
level sh top s a b u (joins n m p r e f) w =
    let hn = w.rep n (w.below a n p) in
    let hm = w.rep m (w.below b m r) in
    let lm = hm.0 in
    let drop : sum_from 0 top (weigh sh s.classes) ≡ sum_from 0 top (weigh sh (λ k. merge (s.classes n) (s.classes m) (s.classes k))) + weigh sh s.classes (s.classes m) =
    sum_drop (weigh sh s.classes) (weigh sh (λ k. merge (s.classes n) (s.classes m) (s.classes k))) (s.classes m) top 0 (omega arith) (omega arith)
    (gone sh s.classes n m f hm.1) (λ k z. kept sh s.classes n m f hm.1 k z hn.1) in
    let wm : weigh sh s.classes (s.classes m) ≡ arity_of sh n = rw (hm.1, eq-eqb (s.classes m) (s.classes m) refl) (ap (λ x. x.1) (w.funs (s.classes m) m hm.1 ∙ sym e)) in
    omega (arith, drop, wm, length-append (args sh n m (arity_of sh n) 0) s.pairs, length_args sh n m (arity_of sh n) 0)
level sh top s a b u (parts x) w = refl

-- ---- the classes stay named
module _ (top p q : ℕ) (classes : ℕ → ℕ) (rep : (n : ℕ) → n < top → (classes n < top) × (classes (classes n) ≡ classes n)) (f : p ≡ q → ⊥) (pl : p < top) (pp : classes p ≡ p) where
  rep_join : (k : ℕ) → k < top → (merge p q (classes k) < top) × (merge p q (classes (merge p q (classes k))) ≡ merge p q (classes k))
  unfolding merge
  rep_join k l = at (eqb (classes k) q) refl
    where
      at : (x : Bool) → eqb (classes k) q ≡ x → (cond x p (classes k) < top) × (cond (eqb (classes (cond x p (classes k))) q) p (classes (cond x p (classes k))) ≡ cond x p (classes k))
      at true e = (pl, rw (pp, ne_eqb p q f))
      at false e = ((rep k l).0, rw ((rep k l).1, e))

funs_join : (fun : ℕ → ℕ × ℕ) (classes : ℕ → ℕ) (n m : ℕ) → fun n ≡ fun m → ((i j : ℕ) → classes i ≡ classes j → fun i ≡ fun j) → (i j : ℕ) → merge (classes n) (classes m) (classes i) ≡ merge (classes n) (classes m) (classes j) → fun i ≡ fun j
funs_join fun classes n m e h i j z = at (merged (classes n) (classes m) (classes i) (classes j) z)
  where
    at : Merged (classes n) (classes m) (classes i) (classes j) → fun i ≡ fun j
    at (same q) = h i j q
    at (left q t) = cc (h i n q, h j m t)
    at (right q t) = cc (h i m q, h j n t)

pub classed_step : (sh : Shape) (top : ℕ) (s : Seen) (a b : ℕ) (u : Act) → Case sh s.classes (s.look a) (s.look b) u → Classed sh top s → Classed sh top (apply sh s u)
unfolding apply
classed_step sh top s a b u (skips e) w = w
classed_step sh top s a b u (binds v x p r f) w = record { below = λ i n. put_is v x (s.look i) (nod n) (n < top) (λ e. w.below b n (r ∙ e)) (w.below i n); rep = w.rep; funs = w.funs }
classed_step sh top s a b u (binds' v x p r f) w = record { below = λ i n. put_is v x (s.look i) (nod n) (n < top) (λ e. w.below a n (p ∙ e)) (w.below i n); rep = w.rep; funs = w.funs }
classed_step sh top s a b u (joins n m p r e f) w =
    record {
      below = w.below;
      rep = let hn = w.rep n (w.below a n p) in rep_join top (s.classes n) (s.classes m) s.classes w.rep f hn.0 hn.1;
      funs = funs_join sh.fun s.classes n m e w.funs;
    }
classed_step sh top s a b u (parts x) w = w

-- ---- at the start
-- a cell weighs 2, or a header's arity
weight_le : (k : Kind) → (fun_kind k).1 ≤ arity_kind k + 2
unfolding fun_kind arity_kind
weight_le (Var v) = omega arith
weight_le (Str v) = omega arith
weight_le (Lis v) = omega arith
weight_le (Atom n zero) = omega arith
weight_le (Atom n (suc a)) = omega arith
weight_le (Fixnum z) = omega arith
weight_le Bad = omega arith

module _ (s : List ℕ) (top : ℕ) (wf : WellFormed s top) where
  none_zero : arity_at s 0 ≡ 0
  unfolding arity_at arity_kind kind_of by_tag
  none_zero = ap (λ (w : ℕ). arity_kind (kind_of w)) wf.zeroth

  bare_term : (i : ℕ) → term_at s top i ≡ true → arity_at s i ≡ 0
  unfolding arity_at
  bare_term i t = no_arguments (kind_at s i) (term_plain s top i t)

  -- the cells behind a used cell are used, and are no headers
  behind_used : (f : ℕ) → f < top → f + arity_at s f < top
  behind_used zero h = omega (arith, none_zero)
  behind_used (suc f) h = run_used s top wf (suc f) (omega arith) h

  behind_bare : (f k : ℕ) → f < top → k < arity_at s f → arity_at s (f + 1 + k) ≡ 0
  behind_bare zero k h b = absurd (omega (arith, none_zero))
  behind_bare (suc f) k h b = bare_term (suc f + 1 + k) (run_term s top wf (suc f) k (omega arith) h b)

  cell_le : (t : ℕ) → arity_of (shape_of s) t ≤ arity_at s t + 2
  unfolding arity_at
  cell_le t = weight_le (kind_at s t)

  -- the next d cells are known to be no headers
  light : (n t d : ℕ) → t + n ≡ top → d ≤ n → ((k : ℕ) → k < d → arity_at s (t + k) ≡ 0) → sum_from t n (arity_of (shape_of s)) + d ≤ 3 * n
  unfolding sum_from
  light zero t d e l h = omega arith
  light (suc n) t (suc d) e l h =
      let z : arity_at s t ≡ 0 = let p : t + 0 ≡ t = omega arith in rw p at (h 0 (omega arith)) in
      let r = light n (suc t) d (omega arith) (omega arith) (λ k b. let p : t + suc k ≡ suc t + k = omega arith in rw p at (h (suc k) (omega arith))) in
      omega (arith, cell_le t)
  light (suc n) t zero e l h =
      let u = behind_used t (omega arith) in
      let r = light n (suc t) (arity_at s t) (omega arith) (omega arith) (λ k b. let p : t + 1 + k ≡ suc t + k = omega arith in rw p at (behind_bare t k (omega arith) b)) in
      omega (arith, cell_le t)

  -- the arities of all nodes come to three times the cells at most
  weighs : sum_from 0 top (arity_of (shape_of s)) ≤ 3 * top
  weighs = let r = light top 0 0 (omega arith) (omega arith) (λ k b. absurd (omega arith)) in omega arith

  module _ (a b : ℕ) where
    abbrev first : Seen
    first = record { look = look_at s top; classes = λ n. n; pairs = (a, b) ∷ [] }

    pub classed_start : Classed (shape_of s) top first
    classed_start = record { below = node_lt s top wf; rep = λ n l. (l, refl); funs = λ n m e. ap (shape_of s).fun e }

    pub weight_start : weight (shape_of s) top first ≤ 3 * top + 1
    weight_start =
        omega (arith, weighs, sum_same (weigh (shape_of s) (λ n. n)) (arity_of (shape_of s)) top 0 (λ k l h. rw (eq-eqb k k refl)))
