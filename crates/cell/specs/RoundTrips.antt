-- From a kind to its word and back, from a word to its kind and back, and from a number to its cell and back; three example words.
use Rattle.std.specs.Prelude.{◌≡◌, refl, Bool, true, false, cond, ℕ, ◌+◌, ◌*◌, ◌/◌, ◌-◌, ◌^◌, ◌<◌, ℤ, pos, negsuc, Ok, Err}
use Rattle.std.proofs.Common.{sym, ap, subst, ◌∙◌, arith}
use Rattle.std.proofs.lemmas.Bool.{false≢true}
use Rattle.cell.specs.declared.Kind.{Kind}
use Rattle.cell.specs.declared.Kind.TheVariants.{Var, Str, Lis, Atom, Fixnum, Bad}
use Rattle.cell.specs.declared.Refusal.TheVariants.{Number}
use Rattle.cell.specs.Answers.{number_cell}
use Rattle.cell.specs.Word.{value_of, name_of, arity_of, spare_of, arity_bits, word_of, rebuilt}
use Rattle.cell.specs.Fixnum.{to_number, of_number, in_range, number_back, value_back, value_lt, number_in}
use Rattle.cell.specs.Kinds.{by_tag, kind_of, word_of_kind, Proper}
use Rattle.cell.specs.Rows.{is_var, is_str, is_lis, is_atom_lem, is_fixnum, Row, kind_cases}

-- an atom's fields: in two steps, which `omega` needs
module _ (n a : ℕ) (hn : n < 2 ^ 32) (ha : a < 2 ^ arity_bits) where
  abbrev atom_word : ℕ
  atom_word = word_of 4 0 0 (a * 2 ^ 32 + n)

  arity_back : a ≡ arity_of atom_word
  arity_back =
      let e : atom_word / 2 ^ 32 ≡ 2 ^ 28 + a = omega arith in
      rw e (omega arith)

  spare_back : spare_of atom_word ≡ 0
  spare_back =
      let e : atom_word / 2 ^ (32 + arity_bits) ≡ 2 ^ 20 = omega arith in
      rw e

-- a kind whose numbers fit is read back from its word
pub kind_back : (k : Kind) → Proper k → kind_of (word_of_kind k) ≡ k
unfolding Proper word_of_kind
kind_back (Var v) h = sym (is_var _ (omega arith) v (omega arith))
kind_back (Str v) h = sym (is_str _ (omega arith) v (omega arith))
kind_back (Lis v) h = sym (is_lis _ (omega arith) v (omega arith))
kind_back (Atom n a) h = sym (is_atom_lem _ (omega arith) n a (spare_back n a h.0 h.1) (omega arith) (arity_back n a h.0 h.1))
kind_back (Fixnum z) h =
    let l = value_lt z h in
    sym (is_fixnum _ (omega arith) z (sym (number_back z h) ∙ ap to_number (omega arith)))
kind_back Bad h = absurd h

-- a word that keeps to a row is built again from its kind
pub word_back : (w : ℕ) → (kind_of w ≡ Bad → ⊥) → word_of_kind (kind_of w) ≡ w
unfolding word_of_kind
word_back w =
    kind_cases (λ (k : Kind). (k ≡ Bad → ⊥) → word_of_kind k ≡ w) w (λ n. absurd (n refl))
    (λ r _. at r) (λ r _. at r) (λ r _. at r)
    (λ r s _. let e : value_of w ≡ arity_of w * 2 ^ 32 + name_of w = omega arith in sym (ap (word_of 4 0 0) e) ∙ at r)
    (λ r _. ap (word_of 5 0 0) (value_back (value_of w) (omega arith)) ∙ at r)
  where
    at : {t : ℕ} → Row t w → word_of t 0 0 (value_of w) ≡ w
    at r = omega (arith, rebuilt w)

-- the numbers of a word's kind fit their places
pub kind_proper : (w : ℕ) → (kind_of w ≡ Bad → ⊥) → Proper (kind_of w)
unfolding Proper
kind_proper w =
    kind_cases (λ (k : Kind). (k ≡ Bad → ⊥) → Proper k) w (λ n. n refl)
    (λ r _. omega arith) (λ r _. omega arith) (λ r _. omega arith)
    (λ r s _. omega arith)
    (λ r _. number_in (value_of w) (omega arith))

-- ---- example words
var_three : kind_of 0x0400000000000003 ≡ Var 3
unfolding kind_of by_tag
var_three = refl

f_two : kind_of 0x1000000200000066 ≡ Atom 102 2
unfolding kind_of by_tag
f_two = refl

minus_one : kind_of 0x14FFFFFFFFFFFFFF ≡ Fixnum (negsuc 0)
unfolding kind_of by_tag to_number
minus_one = refl

-- ---- numbers
-- the cell that is made of a number reads as that number
pub number_read : (z : ℤ) (w : ℕ) → number_cell z ≡ Ok w → kind_of w ≡ Fixnum z
unfolding number_cell word_of_kind Proper
number_read z w = go (in_range z) refl
  where
    go : (b : Bool) → in_range z ≡ b → cond b (Ok (word_of 5 0 0 (of_number z))) (Err Number) ≡ Ok w → kind_of w ≡ Fixnum z
    go true r e = let q : word_of 5 0 0 (of_number z) ≡ w = cc in ap kind_of (sym q) ∙ kind_back (Fixnum z) r
    go false r e = let q : true ≡ false = cc in absurd (false≢true (sym q))

-- a Fixnum cell is made again from its number
pub number_again : (w : ℕ) (z : ℤ) → kind_of w ≡ Fixnum z → number_cell z ≡ Ok w
unfolding number_cell word_of_kind Proper
number_again w z e =
    let n : kind_of w ≡ Bad → ⊥ = λ b. (let q : true ≡ false = cc in false≢true (sym q)) in
    rw (subst Proper e (kind_proper w n)) (ap Ok (ap word_of_kind (sym e) ∙ word_back w n))

-- both ends of the range, and one past each
most : number_cell (pos (2 ^ 55 - 1)) ≡ Ok 0x147FFFFFFFFFFFFF
unfolding number_cell of_number
most = refl

past_most : number_cell (pos (2 ^ 55)) ≡ Err Number
unfolding number_cell
past_most = refl

least : number_cell (negsuc (2 ^ 55 - 1)) ≡ Ok 0x1480000000000000
unfolding number_cell of_number
least = refl

past_least : number_cell (negsuc (2 ^ 55)) ≡ Err Number
unfolding number_cell
past_least = refl
