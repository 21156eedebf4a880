-- Where the root stands for a finite term, its copy stands for that term with the variables replaced.
use Rattle.std.specs.Prelude.{◌≡◌, List, ℕ, zero, suc, ◌+◌, ◌<◌, ◌≤◌, get_or}
use Rattle.std.proofs.Math.Path.{refl, ap}
use Rattle.std.proofs.Common.{sym, ◌∙◌, arith}
use Rattle.cell.specs.declared.Kind.{Kind}
use Rattle.cell.specs.declared.Kind.TheVariants.{Var, Str, Lis, Atom, Fixnum, Bad}
use Rattle.cell.specs.Kinds.{kind_of}
use Rattle.store.specs.Store.{kind_at, step, step_kind, end_of}
use Rattle.store.specs.Steps.{steps_fixed}
use Rattle.cycle.specs.Kids.{arity_at}
use Rattle.chains.specs.Hops.{chained, next_end}
use Rattle.terms.specs.View.{Constant, atom, number, free, con, nod, str_view, view_kind, look_at, fun_kind, behind, shape_of}
use Rattle.terms.specs.Term.{Term, compound, Terms, one, more, many, nth, term_ind}
use Rattle.terms.specs.Stands.{stands_arg, stands_args}
use Rattle.terms.specs.Finite.{StandsAt}
use Rattle.terms.specs.Shows.{flat}
use Rattle.copy.specs.Inv.{Given, From, Match, End, Inv}
use Rattle.copy.specs.Steps.{used, functor}
use Rattle.copy.specs.Meaning.{Shown, renamed, renamed_all}
use Rattle.copy.specs.Same.{at, below, lis_from, end_is, shaped}
use Rattle.copy.specs.Formed.{no_head, pair_plain, formed}

-- ---- terms with variables replaced
module _ (r : ℕ → ℕ) where
  many_renamed : (ts : Terms) → many (renamed_all r ts) ≡ many ts
  many_renamed (one t) = refl
  many_renamed (more t ts) = ap suc (many_renamed ts)

  nth_renamed : (ts : Terms) (k : ℕ) → nth (renamed_all r ts) k ≡ renamed r (nth ts k)
  nth_renamed (one t) k = refl
  nth_renamed (more t ts) zero = refl
  nth_renamed (more t ts) (suc k) = nth_renamed ts k

-- ---- what an old cell x and a new cell q show, where F holds of what stands below
pub data Both (s : List ℕ) (top : ℕ) (c : List ℕ) (end : ℕ) (r : ℕ → ℕ) (F : ℕ → ℕ → Type 0) (q x : ℕ) : Type 0 where
  both_free : (v : ℕ) → look_at s top x ≡ free v → look_at c end q ≡ free (r v) → Both s top c end r F q x
  both_con : (k : Constant) → look_at s top x ≡ con k → look_at c end q ≡ con k → Both s top c end r F q x
  both_nod : (n m : ℕ) → look_at s top x ≡ nod n → look_at c end q ≡ nod m → (shape_of c).fun m ≡ (shape_of s).fun n → ((k : ℕ) → k < ((shape_of s).fun n).1 → F ((shape_of c).arg m k) ((shape_of s).arg n k)) → Both s top c end r F q x

module _ (s : List ℕ) (top : ℕ) (c : List ℕ) (end : ℕ) (r : ℕ → ℕ) (F : ℕ → ℕ → Type 0) (both : (q x : ℕ) → F q x → Both s top c end r F q x) where
  pub stands_both : (t : Term) (q x : ℕ) → F q x → StandsAt s top t x → StandsAt c end (renamed r t) q
  stands_both = term_ind (λ t. (q x : ℕ) → F q x → StandsAt s top t x → StandsAt c end (renamed r t) q) variables constants compounds
    where
      variables : (v : ℕ) (q x : ℕ) → F q x → look_at s top x ≡ free v → look_at c end q ≡ free (r v)
      variables v q x f h = go (both q x f)
        where
          go : Both s top c end r F q x → look_at c end q ≡ free (r v)
          go (both_free w e d) = let z : w ≡ v = cc in d ∙ ap (λ (y : ℕ). free (r y)) z
          go (both_con k e d) = let z : ◌≡◌ {A = ℕ} 0 1 = cc in absurd (omega arith)
          go (both_nod n m e d g b) = let z : ◌≡◌ {A = ℕ} 0 1 = cc in absurd (omega arith)

      constants : (k : Constant) (q x : ℕ) → F q x → look_at s top x ≡ con k → look_at c end q ≡ con k
      constants k q x f h = go (both q x f)
        where
          go : Both s top c end r F q x → look_at c end q ≡ con k
          go (both_free w e d) = let z : ◌≡◌ {A = ℕ} 0 1 = cc in absurd (omega arith)
          go (both_con j e d) = let z : j ≡ k = cc in d ∙ ap con z
          go (both_nod n m e d g b) = let z : ◌≡◌ {A = ℕ} 0 1 = cc in absurd (omega arith)

      compounds : (f : ℕ) (ts : Terms) → ((k : ℕ) → k < many ts → (q x : ℕ) → F q x → StandsAt s top (nth ts k) x → StandsAt c end (renamed r (nth ts k)) q) → (q x : ℕ) → F q x → StandsAt s top (compound f ts) x → StandsAt c end (renamed r (compound f ts)) q
      compounds f ts ih q x fr (n, e, g, args) = go (both q x fr)
        where
          go : Both s top c end r F q x → StandsAt c end (renamed r (compound f ts)) q
          go (both_free w a d) = let z : ◌≡◌ {A = ℕ} 0 1 = cc in absurd (omega arith)
          go (both_con k a d) = let z : ◌≡◌ {A = ℕ} 0 1 = cc in absurd (omega arith)
          go (both_nod o m a d h b) =
              let z : o ≡ n = cc in
              let g' : (shape_of s).fun o ≡ (f, many ts) = ap (shape_of s).fun z ∙ g in (
                m,
                d,
                h ∙ g' ∙ ap (λ (y : ℕ). (f, y)) (sym (many_renamed r ts)),
                stands_args (shape_of c) (look_at c end) (renamed_all r ts) m
                    (λ j l. let y = many_renamed r ts in let w : j < many ts = omega arith in
                    rw (nth_renamed r ts j) (ih j w ((shape_of c).arg m j) ((shape_of s).arg o j) (b j (omega (arith, ap (λ p. p.1) g'))) (rw z (stands_arg (shape_of s) (look_at s top) ts n args j w)))),
              )

-- ---- a cell and its copy
module _ {s : List ℕ} {top root : ℕ} (gv : Given s top root) {cells tables : List ℕ} {end : ℕ} (I : Inv s top root cells tables end end) where
  abbrev Fr : ℕ → ℕ → Type 0
  Fr = From s top root tables

  abbrev m : ℕ → ℕ
  m = (at gv I).variables

  look_old : (q x : ℕ) → Fr q x → look_at s top x ≡ view_kind s (kind_of (End s top root x))
  unfolding look_at
  look_old q x f = let u = used gv I q x f in ap (λ (w : ℕ). view_kind s (kind_of w)) (sym (end_is gv I x u.0 u.1))

  -- where following a new cell ends
  stays_at : (q : ℕ) → step cells q ≡ q → look_at cells end q ≡ view_kind cells (kind_at cells q)
  unfolding look_at
  stays_at q e = ap (λ (j : ℕ). view_kind cells (kind_at cells j)) (steps_fixed cells end q e)

  goes_to : (q h : ℕ) → top ≤ q → q < end → step cells q ≡ h → step cells h ≡ h → end_of cells end q ≡ h
  goes_to q h a b e d =
      let l = gv.wf.low in
      sym (next_end cells end (chained cells end (formed gv I)) q (omega arith) b) ∙ ap (end_of cells end) e ∙ steps_fixed cells end h d

  both : (q x : ℕ) → Fr q x → Both s top cells end m Fr q x
  unfolding Match Shown view_kind str_view look_at step step_kind fun_kind behind
  both q x f = go (kind_of (End s top root x)) refl (I.done q x f b.1) (shaped gv I q x f)
    where
      b : (top ≤ q) × (q < end)
      b = below gv I q x f

      old : (k : Kind) → kind_of (End s top root x) ≡ k → look_at s top x ≡ view_kind s k
      old k e = look_old q x f ∙ ap (view_kind s) e

      new : (k : Kind) → kind_at cells q ≡ k → step_kind q k ≡ q → look_at cells end q ≡ view_kind cells k
      new k e z = stays_at q (ap (step_kind q) e ∙ z) ∙ ap (view_kind cells) e

      structure : (g h n a : ℕ) → kind_of (End s top root x) ≡ Str g → kind_at cells q ≡ Str h → kind_at cells h ≡ kind_at s g → kind_at s g ≡ Atom n (arity_at s g) → arity_at s g ≡ a → ((k : ℕ) → k < arity_at s g → Fr (h + 1 + k) (g + 1 + k)) → Both s top cells end m Fr q x
      structure g h n zero e t w y z k =
          let is : kind_at s g ≡ Atom n zero = y ∙ ap (Atom n) z in
          both_con (atom n) (old (Str g) e ∙ ap (str_view g) is) (new (Str h) t refl ∙ ap (str_view h) (w ∙ is))
      structure g h n (suc a) e t w y z k =
          let is : kind_at s g ≡ Atom n (suc a) = y ∙ ap (Atom n) z in
          let many : ((shape_of s).fun g).1 ≡ suc a = ap (λ (q : Kind). (fun_kind q).1) is in
          both_nod g h (old (Str g) e ∙ ap (str_view g) is) (new (Str h) t refl ∙ ap (str_view h) (w ∙ is)) (ap fun_kind w)
          (λ j l. let p : (shape_of cells).arg h j ≡ h + 1 + j = ap (λ (q : Kind). h + behind q + j) (w ∙ is) in let o : (shape_of s).arg g j ≡ g + 1 + j = ap (λ (q : Kind). g + behind q + j) is in rw (p, o) (k j (omega arith)))

      go : (k : Kind) → kind_of (End s top root x) ≡ k → Match s top root tables (get_or cells q 0) (End s top root x) k → Shown s cells (at gv I) Fr q (End s top root x) k → Both s top cells end m Fr q x
      go (Var v) e _ (t, a, d) =
          both_free v (old (Var v) e) (ap (λ (j : ℕ). view_kind cells (kind_at cells j)) (goes_to q (m v) b.0 b.1 (ap (step_kind q) a) (ap (step_kind (m v)) d)) ∙ ap (view_kind cells) d)
      go (Str g) e (l, n, w) (t, a, d) = let y = functor gv g (I.str_reached_lem g l n) in structure g _ y.0 _ e t (ap kind_of a) y.1 refl d
      go (Lis g) e (l, n, w) (t, a, d) =
          let p = (pair_plain gv I g (I.lis_reached_lem g l n)).0 in
          let h = get_or tables (top + g) 0 in
          let y = flat (kind_at s g) p in
          let z = flat (kind_at cells h) (no_head gv I h g a p) in
          both_nod g h (old (Lis g) e) (new (Lis h) t refl) (z.0 ∙ sym y.0)
          (λ j i.
          let u : (shape_of cells).arg h j ≡ h + j = ap (λ (n : ℕ). h + n + j) z.1 ∙ drop_zero h j in
          let v : (shape_of s).arg g j ≡ g + j = ap (λ (n : ℕ). g + n + j) y.1 ∙ drop_zero g j in
          rw (u, v) (lis_from gv I g j l n (omega (arith, ap (λ r. r.1) y.0))))
        where
          drop_zero : (i j : ℕ) → i + 0 + j ≡ i + j
          drop_zero i j = omega arith
      go (Atom n a) e _ w = both_con (atom n) (old (Atom n a) e) (new (Atom n a) (ap kind_of w ∙ e) refl)
      go (Fixnum z) e _ w = both_con (number z) (old (Fixnum z) e) (new (Fixnum z) (ap kind_of w ∙ e) refl)
      go Bad e _ w = absurd w

  pub from_stands : (t : Term) (q x : ℕ) → Fr q x → StandsAt s top t x → StandsAt cells end (renamed m t) q
  from_stands = stands_both s top cells end m Fr both
