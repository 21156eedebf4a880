-- What each arm of a match on a cell's kind says of the cell's links and of the runs that it names.
use mathlib.Core.Path.{◌≡◌, refl, sym, ap, ◌∙◌}
use mathlib.Core.Bool.{Bool, true, false}
use mathlib.Core.List.{List}
use Prim.Native.Nat.{ℕ, ◌+◌}
use native.Mathlib.Omega.{arith}
use borrow.Author.Tests.{eq-eqb, ne_eqb, ltb-true, ltb-false}
use Rattle.cell.specs.declared.Kind.{Kind}
use Rattle.cell.specs.declared.Kind.TheVariants.{Var, Str, Lis, Atom, Fixnum, Bad}
use Rattle.store.specs.Store.{kind_at, header_at}
use Rattle.cycle.specs.Kids.{arity_kind, header_arity, arity_at, head_kind, head, pair_kind, pair}
use Rattle.cycle.specs.Most.{own_kind, own_room}
use Rattle.cycle.specs.Links.{links_kind, links, link_kind, link, Span}

-- ---- what a `_` arm is left with, beside an arm for Atom, beside those for Str and Lis, beside those for the first four, and beside those for Str, Lis and Atom
no_arity : (k : Kind) → ((n a : ℕ) → k ≡ Atom n a → ⊥) → 0 ≡ arity_kind k
unfolding arity_kind
no_arity (Var v) h = refl
no_arity (Str v) h = refl
no_arity (Lis v) h = refl
no_arity (Atom n a) h = absurd (h n a refl)
no_arity (Fixnum z) h = refl
no_arity Bad h = refl

no_name : (k : Kind) → ((v : ℕ) → k ≡ Str v → ⊥) → ((v : ℕ) → k ≡ Lis v → ⊥) → (0 ≡ head_kind k) × (0 ≡ pair_kind k)
unfolding head_kind pair_kind
no_name (Var v) f l = (refl, refl)
no_name (Str v) f l = absurd (f v refl)
no_name (Lis v) f l = absurd (l v refl)
no_name (Atom n a) f l = (refl, refl)
no_name (Fixnum z) f l = (refl, refl)
no_name Bad f l = (refl, refl)

no_link : (i : ℕ) (k : Kind) → ((v : ℕ) → k ≡ Var v → ⊥) → ((v : ℕ) → k ≡ Str v → ⊥) → ((v : ℕ) → k ≡ Lis v → ⊥) → ((n a : ℕ) → k ≡ Atom n a → ⊥) → (0 ≡ links_kind i k) × (0 ≡ link_kind i 0 k)
unfolding links_kind link_kind
no_link i (Var v) h f l a = absurd (h v refl)
no_link i (Str v) h f l a = absurd (f v refl)
no_link i (Lis v) h f l a = absurd (l v refl)
no_link i (Atom n x) h f l a = absurd (a n x refl)
no_link i (Fixnum z) h f l a = (refl, refl)
no_link i Bad h f l a = (refl, refl)

no_own : (s : List ℕ) (k : Kind) → ((v : ℕ) → k ≡ Str v → ⊥) → ((v : ℕ) → k ≡ Lis v → ⊥) → ((n a : ℕ) → k ≡ Atom n a → ⊥) → 0 ≡ own_kind s k
unfolding own_kind
no_own s (Var v) f l a = refl
no_own s (Str v) f l a = absurd (f v refl)
no_own s (Lis v) f l a = absurd (l v refl)
no_own s (Atom n x) f l a = absurd (a n x refl)
no_own s (Fixnum z) f l a = refl
no_own s Bad f l a = refl

-- ---- each arm's answer, for the kind q that was read at i
module _ (s : List ℕ) (i : ℕ) (q : Kind) (is : q ≡ kind_at s i) where
  pub arity_atom : (n a : ℕ) → q ≡ Atom n a → a ≡ arity_at s i
  unfolding arity_at arity_kind
  arity_atom n a e = ap arity_kind (sym e ∙ is)

  pub arity_none : ((n a : ℕ) → q ≡ Atom n a → ⊥) → 0 ≡ arity_at s i
  unfolding arity_at
  arity_none h = no_arity q h ∙ ap arity_kind is

  pub named_str : (f : ℕ) → q ≡ Str f → (f ≡ head s i) × (0 ≡ pair s i)
  unfolding head head_kind pair pair_kind
  named_str f e = (ap head_kind (sym e ∙ is), ap pair_kind (sym e ∙ is))

  pub named_lis : (l : ℕ) → q ≡ Lis l → (l ≡ pair s i) × (0 ≡ head s i)
  unfolding head head_kind pair pair_kind
  named_lis l e = (ap pair_kind (sym e ∙ is), ap head_kind (sym e ∙ is))

  pub named_none : ((v : ℕ) → q ≡ Str v → ⊥) → ((v : ℕ) → q ≡ Lis v → ⊥) → (0 ≡ head s i) × (0 ≡ pair s i)
  unfolding head pair
  named_none f l = let n = no_name q f l in (n.0 ∙ ap head_kind is, n.1 ∙ ap pair_kind is)

  module _ (next end : ℕ) where
    spans : next ≡ link s i 0 → end ≡ next + links s i → Span s i 0 next end
    spans e f = record { some = omega arith; from = omega arith; to = omega arith }

  pub links_free : (v : ℕ) → q ≡ Var v → v ≡ i → Span s i 0 v v
  unfolding links links_kind link link_kind
  links_free v e z = spans v v (ap (link_kind i 0) (sym e ∙ is)) (let n : links s i ≡ 0 = ap (links_kind i) (sym is ∙ e) ∙ rw (eq-eqb v i z) in omega arith)

  pub links_bound : (v : ℕ) → q ≡ Var v → (v ≡ i → ⊥) → Span s i 0 v (v + 1)
  unfolding links links_kind link link_kind
  links_bound v e z = spans v (v + 1) (ap (link_kind i 0) (sym e ∙ is)) (let n : links s i ≡ 1 = ap (links_kind i) (sym is ∙ e) ∙ rw (ne_eqb v i z) in omega arith)

  pub links_str : (f : ℕ) → q ≡ Str f → Span s i 0 f (f + 1)
  unfolding links links_kind link link_kind
  links_str f e = spans f (f + 1) (ap (link_kind i 0) (sym e ∙ is)) (let n = ap (links_kind i) (sym e ∙ is) in omega arith)

  pub links_lis : (l : ℕ) → q ≡ Lis l → Span s i 0 l (l + 2)
  unfolding links links_kind link link_kind
  links_lis l e = spans l (l + 2) (let f = ap (link_kind i 0) (sym e ∙ is) in omega arith) (let n = ap (links_kind i) (sym e ∙ is) in omega arith)

  pub links_atom : (n a : ℕ) → q ≡ Atom n a → Span s i 0 (i + 1) (i + 1 + a)
  unfolding links links_kind link link_kind
  links_atom n a e = spans (i + 1) (i + 1 + a) (let f = ap (link_kind i 0) (sym e ∙ is) in omega arith) (let n = ap (links_kind i) (sym e ∙ is) in omega arith)

  pub links_none : ((v : ℕ) → q ≡ Var v → ⊥) → ((v : ℕ) → q ≡ Str v → ⊥) → ((v : ℕ) → q ≡ Lis v → ⊥) → ((n a : ℕ) → q ≡ Atom n a → ⊥) → Span s i 0 0 0
  unfolding links link
  links_none h f l a = let n = no_link i q h f l a in spans 0 0 (n.1 ∙ ap (link_kind i 0) is) (let m = n.0 ∙ ap (links_kind i) is in omega arith)

  pub own_bare : (f : ℕ) → q ≡ Str f → {b : Bool} → b ≡ header_at s f → b ≡ false → 1 ≡ own_room s i
  unfolding own_room own_kind arity_at
  own_bare f e h n =
      let a = ltb-false 0 (arity_at s f) (sym (header_arity (kind_at s f)) ∙ sym h ∙ n) in
      sym (ap (own_kind s) (sym is ∙ e) ∙ rw (eq-eqb (arity_at s f) 0 (omega arith)))

  pub own_held : (f : ℕ) → q ≡ Str f → {b : Bool} → b ≡ header_at s f → b ≡ true → 0 ≡ own_room s i
  unfolding own_room own_kind arity_at
  own_held f e h y =
      let a = ltb-true 0 (arity_at s f) (sym (header_arity (kind_at s f)) ∙ sym h ∙ y) in
      sym (ap (own_kind s) (sym is ∙ e) ∙ rw (ne_eqb (arity_at s f) 0 (λ z. omega arith)))

  pub own_pair : (l : ℕ) → q ≡ Lis l → 2 ≡ own_room s i
  unfolding own_room own_kind
  own_pair l e = ap (own_kind s) (sym e ∙ is)

  pub own_plain : (n a : ℕ) → q ≡ Atom n a → a ≡ 0 → 0 ≡ own_room s i
  unfolding own_room own_kind
  own_plain n a e z = sym (ap (own_kind s) (sym is ∙ e) ∙ rw (eq-eqb a 0 z))

  pub own_run : (n a : ℕ) → q ≡ Atom n a → (a ≡ 0 → ⊥) → a + 1 ≡ own_room s i
  unfolding own_room own_kind
  own_run n a e z = sym (ap (own_kind s) (sym is ∙ e) ∙ rw (ne_eqb a 0 z))

  pub own_none : ((v : ℕ) → q ≡ Str v → ⊥) → ((v : ℕ) → q ≡ Lis v → ⊥) → ((n a : ℕ) → q ≡ Atom n a → ⊥) → 0 ≡ own_room s i
  unfolding own_room
  own_none f l a = no_own s q f l a ∙ ap (own_kind s) is
