-- Laws of `kind_of`: what each row of the table comes to with its tests answered, and a case for each row.
use Rattle.std.specs.Prelude.{◌≡◌, refl, Bool, false, cond, ℕ, ◌+◌, ◌-◌, ◌*◌, ◌/◌, ◌%◌, ◌^◌, ◌<◌, ◌≤◌, ℤ}
use Rattle.std.proofs.Common.{sym, ap, ap₂, ◌∙◌, arith}
use Rattle.std.proofs.Math.Bool.{true}
use Rattle.std.proofs.Math.Decide.{ℕ_discrete}
use Rattle.std.proofs.Math.Dec.{eqb}
use borrow.Author.Tests.{eqb-true, ne_eqb}
use Rattle.cell.specs.declared.Kind.{Kind}
use Rattle.cell.specs.declared.Kind.TheVariants.{Var, Str, Lis, Atom, Fixnum, Bad}
use Rattle.cell.specs.Word.{tag_of, forward_of, mark_of, value_of, name_of, arity_of, spare_of, arity_bits, rebuilt}
use Rattle.cell.specs.Fixnum.{to_number}
use Rattle.cell.specs.Kinds.{by_tag, kind_of}

-- a row's tests on the bits and the tag
pub record Row (t w : ℕ) : Type 0 where
  pub forward : forward_of w ≡ 0
  pub mark : mark_of w ≡ 0
  pub tag : tag_of w ≡ t

-- both bits are clear where the three together are four times the tag
pub row_of : (t w : ℕ) → 4 * tag_of w + 2 * forward_of w + mark_of w ≡ 4 * t → Row t w
row_of t w e = let p = parts (tag_of w) (forward_of w) (mark_of w) (omega arith) (omega arith) e in record { forward = p.0; mark = p.1; tag = p.2 }
  where
    parts : (q f m : ℕ) → f < 2 → m < 2 → 4 * q + 2 * f + m ≡ 4 * t → (f ≡ 0) × (m ≡ 0) × (q ≡ t)
    parts q f m hf hm e = (omega arith, omega arith, omega arith)

module _ {t w : ℕ} (r : Row t w) where
  tagged : kind_of w ≡ by_tag t w
  unfolding kind_of
  tagged = rw (r.forward, r.mark, r.tag)

pub is_var : (w : ℕ) → Row 1 w → (v : ℕ) → v ≡ value_of w → Var v ≡ kind_of w
unfolding by_tag
is_var w r v e = ap Var e ∙ sym (tagged r)

pub is_str : (w : ℕ) → Row 2 w → (v : ℕ) → v ≡ value_of w → Str v ≡ kind_of w
unfolding by_tag
is_str w r v e = ap Str e ∙ sym (tagged r)

pub is_lis : (w : ℕ) → Row 3 w → (v : ℕ) → v ≡ value_of w → Lis v ≡ kind_of w
unfolding by_tag
is_lis w r v e = ap Lis e ∙ sym (tagged r)

pub is_atom_lem : (w : ℕ) → Row 4 w → (n a : ℕ) → spare_of w ≡ 0 → n ≡ name_of w → a ≡ arity_of w → Atom n a ≡ kind_of w
unfolding by_tag
is_atom_lem w r n a s en ea = ap₂ Atom en ea ∙ sym (tagged r ∙ rw s)

pub is_spare : (w : ℕ) → Row 4 w → (s : ℕ) → s ≡ spare_of w → (s ≡ 0 → ⊥) → Bad ≡ kind_of w
unfolding by_tag
is_spare w r s e n = sym (tagged r ∙ rw (← e, ne_eqb s 0 n))

pub is_fixnum : (w : ℕ) → Row 5 w → (z : ℤ) → z ≡ to_number (value_of w) → Fixnum z ≡ kind_of w
unfolding by_tag
is_fixnum w r z e = ap Fixnum e ∙ sym (tagged r)

pub is_none : (w n : ℕ) → n ≡ 4 * tag_of w + 2 * forward_of w + mark_of w → (n ≡ 4 → ⊥) → (n ≡ 8 → ⊥) → (n ≡ 12 → ⊥) → (n ≡ 16 → ⊥) → (n ≡ 20 → ⊥) → Bad ≡ kind_of w
unfolding kind_of by_tag
is_none w n e n1 n2 n3 n4 n5 =
    elim (ℕ_discrete (forward_of w) 0) [
      | no f ↦ rw (ne_eqb (forward_of w) 0 f)
      | yes f ↦ elim (ℕ_discrete (mark_of w) 0) [
        | no m ↦ rw (f, ne_eqb (mark_of w) 0 m)
        | yes m ↦ rw (f, m, ne_eqb (tag_of w) 1 (λ t. n1 (omega arith)), ne_eqb (tag_of w) 2 (λ t. n2 (omega arith)), ne_eqb (tag_of w) 3 (λ t. n3 (omega arith)), ne_eqb (tag_of w) 4 (λ t. n4 (omega arith)), ne_eqb (tag_of w) 5 (λ t. n5 (omega arith)))
      ]
    ]

-- ---- what holds of each row under its tests, and of Bad, holds of a word's kind
cond_cases : {A : Type 0} (P : A → Type 0) (b : Bool) (x y : A) → (b ≡ true → P x) → (b ≡ false → P y) → P (cond b x y)
cond_cases P true x y f g = f refl
cond_cases P false x y f g = g refl

module _ (P : Kind → Type 0) (w : ℕ) where
  pub kind_cases : P Bad → (Row 1 w → P (Var (value_of w))) → (Row 2 w → P (Str (value_of w))) → (Row 3 w → P (Lis (value_of w))) → (Row 4 w → spare_of w ≡ 0 → P (Atom (name_of w) (arity_of w))) → (Row 5 w → P (Fixnum (to_number (value_of w)))) → P (kind_of w)
  unfolding kind_of by_tag
  kind_cases bad v s l a n =
      cond_cases P (eqb (forward_of w) 0) _ _
      (λ ef. cond_cases P (eqb (mark_of w) 0) _ _
      (λ em.
      let row : (t : ℕ) → eqb (tag_of w) t ≡ true → Row t w =
      λ t et. record { forward = eqb-true _ _ ef; mark = eqb-true _ _ em; tag = eqb-true _ _ et } in
      cond_cases P (eqb (tag_of w) 1) _ _ (λ e. v (row 1 e))
      (λ _. cond_cases P (eqb (tag_of w) 2) _ _ (λ e. s (row 2 e))
      (λ _. cond_cases P (eqb (tag_of w) 3) _ _ (λ e. l (row 3 e))
      (λ _. cond_cases P (eqb (tag_of w) 4) _ _ (λ e. cond_cases P (eqb (spare_of w) 0) _ _ (λ z. a (row 4 e) (eqb-true _ _ z)) (λ _. bad))
      (λ _. cond_cases P (eqb (tag_of w) 5) _ _ (λ e. n (row 5 e)) (λ _. bad))))))
      (λ _. bad))
      (λ _. bad)

-- ---- an Atom by its bits above the arity alone
pub atom_bits : (w : ℕ) → w / 2 ^ (32 + arity_bits) ≡ 2 ^ (26 - arity_bits) * 4 → Atom (name_of w) (arity_of w) ≡ kind_of w
atom_bits w e = is_atom_lem w (omega arith) _ _ (omega arith) refl refl

pub row_bits : (w : ℕ) → Row 4 w → spare_of w ≡ 0 → w / 2 ^ (32 + arity_bits) ≡ 2 ^ (26 - arity_bits) * 4
row_bits w r s =
    let low : 4 * 2 ^ 58 ≤ w = omega arith in
    let high : w < 4 * 2 ^ 58 + 2 ^ 56 = omega (arith, rebuilt w) in
    one (w / 2 ^ 40) (omega arith) (omega arith) s
  where
    one : (q : ℕ) → 2 ^ 20 ≤ q → q < 2 ^ 20 + 2 ^ 16 → q % 2 ^ 16 ≡ 0 → q ≡ 2 ^ 20
    one q a b e = omega arith
