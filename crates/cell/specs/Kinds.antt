-- What a word says: the table of kinds, of words with bits 56 and 57 clear; Bad for any other word. And the word of a kind.
use Rattle.std.specs.Prelude.{◌≡◌, true, cond, ℕ, ◌+◌, ◌*◌, ◌^◌, ◌<◌, eqb}
use Rattle.cell.specs.declared.Kind.{Kind}
use Rattle.cell.specs.declared.Kind.TheVariants.{Var, Str, Lis, Atom, Fixnum, Bad}
use Rattle.cell.specs.Word.{tag_of, forward_of, mark_of, value_of, name_of, arity_of, spare_of, arity_bits, word_of}
use Rattle.cell.specs.Fixnum.{to_number, of_number, in_range}

-- the row of the table, by the tag
unfoldable pub by_tag : ℕ → ℕ → Kind
by_tag t w =
    cond (eqb t 1) (Var (value_of w))
    (cond (eqb t 2) (Str (value_of w))
    (cond (eqb t 3) (Lis (value_of w))
    (cond (eqb t 4) (cond (eqb (spare_of w) 0) (Atom (name_of w) (arity_of w)) Bad)
    (cond (eqb t 5) (Fixnum (to_number (value_of w))) Bad))))

-- what a word says
unfoldable pub kind_of : ℕ → Kind
kind_of w = cond (eqb (forward_of w) 0) (cond (eqb (mark_of w) 0) (by_tag (tag_of w) w) Bad) Bad

-- the word of a kind; 0 for Bad
unfoldable pub word_of_kind : Kind → ℕ
word_of_kind (Var v) = word_of 1 0 0 v
word_of_kind (Str v) = word_of 2 0 0 v
word_of_kind (Lis v) = word_of 3 0 0 v
word_of_kind (Atom n a) = word_of 4 0 0 (a * 2 ^ 32 + n)
word_of_kind (Fixnum z) = word_of 5 0 0 (of_number z)
word_of_kind Bad = 0

-- the numbers of a kind fit their places; Bad has none that do
unfoldable pub Proper : Kind → Type 0
Proper (Var v) = v < 2 ^ 56
Proper (Str v) = v < 2 ^ 56
Proper (Lis v) = v < 2 ^ 56
Proper (Atom n a) = (n < 2 ^ 32) × (a < 2 ^ arity_bits)
Proper (Fixnum z) = in_range z ≡ true
Proper Bad = ⊥
