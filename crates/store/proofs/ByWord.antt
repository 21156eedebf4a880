-- Headers and atoms by their words alone: an Atom's word is told by the bits above its arity, a header's by its place among the words.
use mathlib.Core.Path.{◌≡◌, refl, sym, ap, ◌∙◌}
use mathlib.Core.Bool.{false}
use Prim.Native.Nat.{ℕ, ◌+◌, ◌-◌, ◌/◌, ◌^◌, ◌<◌, ◌≤◌}
use native.Mathlib.Omega.{arith}
use native.Mathlib.Decide.{ℕ_discrete, dec_le}
use lib.Dec.{leb, eqb}
use borrow.Author.Tests.{lt-ltb, le-ltb, le-leb, lt-leb, eq-eqb, ne_eqb}
use Rattle.cell.specs.declared.Kind.{Kind}
use Rattle.cell.specs.Word.{arity_of}
use Rattle.cell.specs.Kinds.{kind_of}
use Rattle.cell.specs.Rows.{kind_cases, atom_bits, row_bits}
use Rattle.store.specs.Store.{is_header, is_atom}

module _ (w : ℕ) where
  pub atom_word_lem : eqb (w / 2 ^ 40) (2 ^ 20) ≡ is_atom (kind_of w)
  unfolding is_atom
  atom_word_lem =
      elim (ℕ_discrete (w / 2 ^ 40) (2 ^ 20)) [
        | yes e ↦ eq-eqb _ _ e ∙ ap is_atom (atom_bits w e)
        | no n ↦ ne_eqb _ _ n ∙ kind_cases (λ (k : Kind). false ≡ is_atom k) w refl (λ _. refl) (λ _. refl) (λ _. refl) (λ r s. absurd (n (row_bits w r s))) (λ _. refl)
      ]

  -- the arity of a word with an Atom's bits
  arity_low : w / 2 ^ 40 ≡ 2 ^ 20 → w < 2 ^ 60 + 2 ^ 32 → arity_of w ≤ 0
  arity_low e h = let q : w / 2 ^ 32 ≡ 2 ^ 28 = omega arith in omega arith

  arity_high : 2 ^ 60 + 2 ^ 32 ≤ w → w < 2 ^ 60 + 2 ^ 40 → 0 < arity_of w
  arity_high l h =
      let a : 2 ^ 28 + 1 ≤ w / 2 ^ 32 = omega arith in
      let b : w / 2 ^ 32 < 2 ^ 28 + 2 ^ 8 = omega arith in
      omega arith

  no_header_lem : (w / 2 ^ 40 ≡ 2 ^ 20 → arity_of w ≤ 0) → false ≡ is_header (kind_of w)
  unfolding is_header
  no_header_lem h = kind_cases (λ (k : Kind). false ≡ is_header k) w refl (λ _. refl) (λ _. refl) (λ _. refl) (λ r s. sym (le-ltb 0 (arity_of w) (h (row_bits w r s)))) (λ _. refl)

  pub header_low : w < 2 ^ 60 + 2 ^ 32 → leb (2 ^ 60 + 2 ^ 32) w ≡ is_header (kind_of w)
  header_low h = lt-leb (2 ^ 60 + 2 ^ 32) w h ∙ no_header_lem (λ e. arity_low e h)

  pub header_word : 2 ^ 60 + 2 ^ 32 ≤ w → leb w (2 ^ 60 + 2 ^ 40 - 1) ≡ is_header (kind_of w)
  unfolding is_header
  header_word l =
      elim (dec_le w (2 ^ 60 + 2 ^ 40 - 1)) [
        | yes h ↦ le-leb _ _ h ∙ sym (lt-ltb 0 (arity_of w) (arity_high l (omega arith))) ∙ ap is_header (atom_bits w (omega arith))
        | no h ↦ lt-leb w (2 ^ 60 + 2 ^ 40 - 1) (omega arith) ∙ no_header_lem (λ e. absurd (omega arith))
      ]
