-- What following a cell asks of the work buffer, what it finds, and what it leaves: only shortcuts change.
use Rattle.std.specs.Prelude.{◌≡◌, refl, List, ◌++◌, ℕ, ◌+◌, ◌-◌, ◌<◌, ◌≤◌, length, get_or, take}
use Rattle.std.proofs.Common.{sym, ap, subst, ◌∙◌, append-nil, arith, length-drop, get_or-drop, get_or-take, get_or-append-add, length-take-le}
use Rattle.std.proofs.Math.ListN.{get_or-append}
use borrow.Rule.Slice.PartMut.{mid_of, put_mid}
use Rattle.cell.specs.declared.Kind.{Kind}
use Rattle.cell.specs.declared.Kind.TheVariants.{Var, Str, Lis, Atom, Fixnum, Bad}
use Rattle.cell.specs.Kinds.{kind_of}
use Rattle.store.specs.Store.{kind_at, step, step_kind, end_of, WellFormed}
use Rattle.terms.specs.View.{view_kind}
use Rattle.store.specs.Steps.{steps_fixed, step_used}
use Rattle.store.specs.WellFormed.{keeps_cells}
use Rattle.store.specs.Part.{mid_is, post_is}
use Rattle.chains.specs.Chains.{Hops, Hopped}
use Rattle.chains.specs.Hops.{chained, next_end}
use Rattle.unify.specs.Layout.{hops_of, pair_place}

-- a used cell of a well-formed store, and shortcuts that are true
pub record Follows (cells : List ℕ) (top : ℕ) (work : List ℕ) (i : ℕ) : Type 0 where
  pub store : WellFormed cells top
  pub hops : Hops cells top (hops_of top work)
  pub low : 1 ≤ i
  pub high : i < top
  pub wide : pair_place top 0 ≤ length work

-- the shortcuts are true still, and no other word has changed
pub record Followed (cells : List ℕ) (top : ℕ) (w w' : List ℕ) : Type 0 where
  pub hops : Hops cells top (hops_of top w')
  pub near : (j : ℕ) → j < top → get_or w' j 0 ≡ get_or w j 0
  pub far : (j : ℕ) → pair_place top 0 ≤ j → get_or w' j 0 ≡ get_or w j 0

pub followed_none : (cells : List ℕ) (top : ℕ) (w : List ℕ) → Hops cells top (hops_of top w) → Followed cells top w w
followed_none cells top w h = record { hops = h; near = λ j _. refl; far = λ j _. refl }

-- ---- what was left in the part behind the classes, said of the whole
module _ {cells : List ℕ} {top : ℕ} {work : List ℕ} {i : ℕ} (f : Follows cells top work i) where
  inside : top ≤ length work
  inside = let r = f.wide in omega arith

  abbrev mid : List ℕ
  mid = mid_of top (length work - top) work

  mid_hops : mid ≡ hops_of top work
  mid_hops = mid_is work top inside

  pub mid_asks : Hops cells top mid × (top ≤ length mid)
  mid_asks = let r = f.wide in (subst (Hops cells top) (sym mid_hops) f.hops, omega (arith, ap length mid_hops, length-drop top work))

  module _ {part : List ℕ} (h : Hopped cells top mid part) where
    abbrev new : List ℕ
    new = put_mid top (length work - top) work part

    is : new ≡ take top work ++ part
    is = ap (λ (r : List ℕ). take top work ++ r) (ap (λ (r : List ℕ). part ++ r) (post_is work top inside) ∙ append-nil part)

    front : length (take top work) ≡ top
    front = length-take-le top work inside

    low_words : (j : ℕ) → j < top → get_or new j 0 ≡ get_or work j 0
    low_words j b = let z = front in ap (λ (l : List ℕ). get_or l j 0) is ∙ get_or-append (take top work) part 0 j (omega arith) ∙ get_or-take top work j 0 b

    high_words : (k : ℕ) → get_or new (top + k) 0 ≡ get_or part k 0
    high_words k = ap (λ (l : List ℕ). get_or l (top + k) 0) is ∙ ap (λ (m : ℕ). get_or (take top work ++ part) (m + k) 0) (sym front) ∙ get_or-append-add (take top work) part k 0

    old_words : (k : ℕ) → get_or mid k 0 ≡ get_or work (top + k) 0
    old_words k = ap (λ (l : List ℕ). get_or l k 0) mid_hops ∙ get_or-drop top work k 0

    far_words : (j k : ℕ) → top + k ≡ j → top ≤ k → get_or new j 0 ≡ get_or work j 0
    far_words j k e b = ap (λ (x : ℕ). get_or new x 0) (sym e) ∙ high_words k ∙ h.rest k b ∙ old_words k ∙ ap (λ (x : ℕ). get_or work x 0) e

    pub followed_part : Followed cells top work new
    followed_part =
        record {
          hops = record { ahead = λ k l b n. let e : get_or (hops_of top new) k 0 ≡ get_or part k 0 = get_or-drop top new k 0 ∙ high_words k in rw e (h.hops.ahead k l b (λ z. n (e ∙ z))) };
          near = low_words;
          far = λ j b. far_words j (j - top) (omega arith) (omega arith);
        }

  -- ---- where following ends: there, or where following the next cell ends
  module _ {next : ℕ} (e : next ≡ step cells i) where
    pub end_here : next ≡ i → i ≡ end_of cells top i
    end_here q = sym (steps_fixed cells top i (sym e ∙ q))

    pub next_asks : Follows cells top work next
    next_asks =
        let u = step_used cells top (keeps_cells cells top f.store) i f.low f.high in
        record { store = f.store; hops = f.hops; low = omega arith; high = omega arith; wide = f.wide }

    pub end_next : {r : ℕ} → r ≡ end_of cells top next → r ≡ end_of cells top i
    end_next q = q ∙ ap (end_of cells top) e ∙ next_end cells top (chained cells top f.store) i f.low f.high

-- cells with one word come to one cell, or show the same
pub same_word : (cells : List ℕ) (top : ℕ) → WellFormed cells top → (x y : ℕ) → (1 ≤ x) × (x < top) → (1 ≤ y) × (y < top) → get_or cells x 0 ≡ get_or cells y 0 → view_kind cells (kind_at cells (end_of cells top x)) ≡ view_kind cells (kind_at cells (end_of cells top y))
unfolding step step_kind
same_word cells top wf x y hx hy e = by (kind_at cells x) refl (ap kind_of (sym e))
  where
    End : ℕ → ℕ
    End i = end_of cells top i

    next : (i : ℕ) → (1 ≤ i) × (i < top) → (v : ℕ) → kind_at cells i ≡ Var v → End i ≡ End v
    next i h v q = sym (next_end cells top (chained cells top wf) i h.0 h.1) ∙ ap (λ (k : Kind). end_of cells top (step_kind i k)) q

    stay : (i : ℕ) (k : Kind) → kind_at cells i ≡ k → step_kind i k ≡ i → kind_at cells (End i) ≡ k
    stay i k q z = ap (kind_at cells) (steps_fixed cells top i (ap (step_kind i) q ∙ z)) ∙ q

    both : (k : Kind) → kind_at cells x ≡ k → kind_at cells y ≡ k → step_kind x k ≡ x → step_kind y k ≡ y → view_kind cells (kind_at cells (End x)) ≡ view_kind cells (kind_at cells (End y))
    both k p q a b = ap (view_kind cells) (stay x k p a ∙ sym (stay y k q b))

    by : (k : Kind) → kind_at cells x ≡ k → kind_at cells y ≡ kind_at cells x → view_kind cells (kind_at cells (End x)) ≡ view_kind cells (kind_at cells (End y))
    by (Var v) p q = ap (λ (i : ℕ). view_kind cells (kind_at cells i)) (next x hx v p ∙ sym (next y hy v (q ∙ p)))
    by (Str v) p q = both (Str v) p (q ∙ p) refl refl
    by (Lis v) p q = both (Lis v) p (q ∙ p) refl refl
    by (Atom n a) p q = both (Atom n a) p (q ∙ p) refl refl
    by (Fixnum z) p q = both (Fixnum z) p (q ∙ p) refl refl
    by Bad p q = both Bad p (q ∙ p) refl refl
