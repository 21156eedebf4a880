-- The layout of a 64-bit cell in plain arithmetic: value in bits 0 to 55, mark bit 56, forwarding bit 57, tag 58 to 63; of an Atom's value the name in bits 0 to 31, then the arity, then bits that are zero.
use Rattle.std.specs.Prelude.{◌≡◌, ℕ, ◌+◌, ◌-◌, ◌*◌, ◌/◌, ◌%◌, ◌^◌, ◌<◌}
use Rattle.std.proofs.Common.{arith}

-- bits 58 to 63
abbrev pub tag_of : ℕ → ℕ
tag_of w = w / 2 ^ 58

-- bit 57
abbrev pub forward_of : ℕ → ℕ
forward_of w = w / 2 ^ 57 % 2

-- bit 56
abbrev pub mark_of : ℕ → ℕ
mark_of w = w / 2 ^ 56 % 2

-- bits 0 to 55
abbrev pub value_of : ℕ → ℕ
value_of w = w % 2 ^ 56

-- an Atom's name, bits 0 to 31
abbrev pub name_of : ℕ → ℕ
name_of w = w % 2 ^ 32

-- how many bits an arity has
abbrev pub arity_bits : ℕ
arity_bits = 8

-- an Atom's arity, the bits above its name
abbrev pub arity_of : ℕ → ℕ
arity_of w = w / 2 ^ 32 % 2 ^ arity_bits

-- the bits of an Atom's value above its arity
abbrev pub spare_of : ℕ → ℕ
spare_of w = w / 2 ^ (32 + arity_bits) % 2 ^ (24 - arity_bits)

-- the word with these parts
abbrev pub word_of : ℕ → ℕ → ℕ → ℕ → ℕ
word_of tag forward mark value = tag * 2 ^ 58 + forward * 2 ^ 57 + mark * 2 ^ 56 + value

-- the word of a Var that names cell i; at cell i itself it is an unbound one
abbrev pub var_word : ℕ → ℕ
var_word i = word_of 1 0 0 i

-- ---- a word is built again from its parts, and each part is read back
pub rebuilt : (w : ℕ) → word_of (tag_of w) (forward_of w) (mark_of w) (value_of w) ≡ w
rebuilt w = omega arith

module _ (t f m v : ℕ) (hf : f < 2) (hm : m < 2) (hv : v < 2 ^ 56) where
  pub tag_built : tag_of (word_of t f m v) ≡ t
  tag_built = omega arith

  pub forward_built : forward_of (word_of t f m v) ≡ f
  forward_built = omega arith

  pub mark_built : mark_of (word_of t f m v) ≡ m
  mark_built = omega arith

  pub value_built : value_of (word_of t f m v) ≡ v
  value_built = omega arith
