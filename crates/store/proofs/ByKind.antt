-- What each arm of a match on a cell's kind tells: of a step from the cell, and of how it stands to its row.
use mathlib.Core.Path.{◌≡◌, refl, sym, ap, subst, ◌∙◌}
use mathlib.Core.Bool.{Bool, true, false, ◌&&◌, false≢true}
use mathlib.Core.List.{List}
use Prim.Native.Nat.{ℕ, ◌+◌, ◌*◌, ◌^◌, ◌<◌, ◌≤◌}
use lib.IntN.{ℤ}
use lib.Dec.{leb, ltb}
use borrow.Author.Tests.{ltb-true, le-leb, lt-ltb}
use native.Mathlib.Omega.{arith}
use Rattle.cell.specs.declared.Kind.{Kind}
use Rattle.cell.specs.declared.Kind.TheVariants.{Var, Str, Lis, Atom, Fixnum, Bad}
use Rattle.store.specs.All.{all_from}
use Rattle.store.specs.declared.Standing.{Standing}
use Rattle.store.specs.declared.Standing.TheVariants.{Breaks, Keeps, Turns, Heads}
use Rattle.store.specs.Turns.{turns_at, no_turn}
use Rattle.store.specs.Survey.{kept_of, Stands, StandsAt}
use prog.Memory.{up}
use Rattle.store.specs.Store.{limit, kind_at, is_header, no_header, term_at, atom_at, run_at, keeps, step, step_kind}

pub stays : (i : ℕ) (k : Kind) → ((v : ℕ) → k ≡ Var v → ⊥) → i ≡ step_kind i k
unfolding step_kind
stays i (Var v) h = absurd (h v refl)
stays i (Str v) h = refl
stays i (Lis v) h = refl
stays i (Atom n a) h = refl
stays i (Fixnum z) h = refl
stays i Bad h = refl

module _ (s : List ℕ) (i : ℕ) (k : Kind) (is : k ≡ kind_at s i) where
  pub step_stays : ((v : ℕ) → k ≡ Var v → ⊥) → i ≡ step s i
  unfolding step
  step_stays h = stays i k h ∙ ap (step_kind i) is

  pub step_goes : (v : ℕ) → k ≡ Var v → v ≡ step s i
  unfolding step step_kind
  step_goes v e = ap (step_kind i) (sym e ∙ is)

  -- each arm's answer, without the definition's text
  module _ (top : ℕ) where
    by : (j : Kind) → k ≡ j → (r : Standing) → Stands s top i j r → StandsAt s top i r
    by j e r = subst (λ (x : Kind). Stands s top i x r) (sym e ∙ is)

    pub kept_str : (f : ℕ) → k ≡ Str f → (b : Bool) → b ≡ atom_at s top f → (r : Standing) → r ≡ kept_of b → StandsAt s top i r
    unfolding kept_of Stands keeps is_header step_kind
    kept_str f e true q r z = by (Str f) e r (subst (Stands s top i (Str f)) (sym z) (sym q, refl, no_turn s i i (omega arith)))
    kept_str f e false q r z = by (Str f) e r (subst (Stands s top i (Str f)) (sym z) (sym q))

    pub kept_lis : (l : ℕ) → k ≡ Lis l → (b : Bool) → b ≡ (term_at s top l && term_at s top (l + 1)) → (r : Standing) → r ≡ kept_of b → StandsAt s top i r
    unfolding kept_of Stands keeps is_header step_kind
    kept_lis l e true q r z = by (Lis l) e r (subst (Stands s top i (Lis l)) (sym z) (sym q, refl, no_turn s i i (omega arith)))
    kept_lis l e false q r z = by (Lis l) e r (subst (Stands s top i (Lis l)) (sym z) (sym q))

    module _ (n a : ℕ) (e : k ≡ Atom n a) where
      pub atom_keeps : i < top → a ≡ 0 → StandsAt s top i Keeps
      unfolding Stands keeps is_header step_kind run_at all_from
      atom_keeps l z = by (Atom n a) e Keeps (rw (z, lt-ltb (i + 0) top (omega arith)) refl, rw z refl, no_turn s i i (omega arith))

      pub atom_heads : (a ≡ 0 → ⊥) → StandsAt s top i (Heads a)
      unfolding Stands keeps is_header step_kind
      atom_heads z = by (Atom n a) e (Heads a) (refl, rw (lt-ltb 0 a (omega arith)) refl, refl)

    pub fixnum_keeps : (z : ℤ) → k ≡ Fixnum z → StandsAt s top i Keeps
    unfolding Stands keeps is_header step_kind
    fixnum_keeps z e = by (Fixnum z) e Keeps (refl, refl, no_turn s i i (omega arith))

    pub bad_breaks : k ≡ Bad → StandsAt s top i Breaks
    unfolding Stands keeps
    bad_breaks e = by Bad e Breaks refl

-- a Var that names v
module _ (s : List ℕ) (i v : ℕ) (e : kind_at s i ≡ Var v) (top : ℕ) where
  var : (r : Standing) → Stands s top i (Var v) r → StandsAt s top i r
  var r = subst (λ (x : Kind). Stands s top i x r) (sym e)

  pub var_self : 1 ≤ i → i < top → v ≡ i → StandsAt s top i Keeps
  unfolding Stands keeps is_header step_kind term_at
  var_self a b q = var Keeps (rw (q, le-leb 1 i a, lt-ltb i top b, e) refl, refl, no_turn s i v (omega arith))

  module _ (b : Bool) (q : b ≡ term_at s top v) where
    pub var_breaks : b ≡ false → StandsAt s top i Breaks
    unfolding Stands keeps
    var_breaks f = var Breaks (sym q ∙ f)

    module _ (t : b ≡ true) where
      pub var_keeps : turns_at s i v ≡ false → StandsAt s top i Keeps
      unfolding Stands keeps is_header step_kind
      var_keeps h = var Keeps (sym q ∙ t, refl, h)

      pub var_turns : StandsAt s top i Turns
      unfolding Stands keeps is_header
      var_turns = var Turns (sym q ∙ t, refl)

pub and_left : (a b : Bool) → (a && b) ≡ true → a ≡ true
and_left true b h = refl
and_left false b h = h

pub and_right : (a b : Bool) → (a && b) ≡ true → b ≡ true
and_right true b h = h
and_right false b h = absurd (false≢true h)

pub and_both : (a b x y : Bool) → x ≡ a → x ≡ true → y ≡ b → y ≡ (a && b)
and_both a b x y p t q = rw (← p, t) q

pub and_none : (a b x : Bool) → x ≡ a → x ≡ false → false ≡ (a && b)
and_none a b x p f = rw (← p, f)

pub term_lt : (s : List ℕ) (top v : ℕ) → term_at s top v ≡ true → v < top
unfolding term_at
term_lt s top v h = ltb-true v top (and_right (leb 1 v) (ltb v top) (and_left (leb 1 v && ltb v top) (no_header s v) h))

-- a table of so many words is not too large for a type
pub set_fits : (n : ℕ) → n ≤ limit → up 8 (0 + n * 8) < 2 ^ 63
set_fits n l = omega arith
