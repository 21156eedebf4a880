-- How many pairs can ever stand: the pairs, and the arities of the nodes that name a class, keep one sum, which falls by one with each pair taken and starts at 3 x `top` + 1 at most.
-- The theorems stand in proofs/Weight.antt.
use Rattle.std.specs.Prelude.{◌≡◌, length}
use Rattle.std.proofs.Math.Bool.{cond}
use Prim.Native.Nat.{ℕ, ◌+◌, ◌<◌}
use Rattle.std.proofs.Math.Dec.{eqb}
use Rattle.cycle.specs.Sum.{sum_from}
use Rattle.terms.specs.View.{nod, Shape, arity_of}
use Rattle.unification.specs.Seen.{Seen}

-- ---- classes
pub data Merged (p q c d : ℕ) : Type 0 where
  same : c ≡ d → Merged p q c d
  left : c ≡ p → d ≡ q → Merged p q c d
  right : c ≡ q → d ≡ p → Merged p q c d

-- nodes lie below top, a class is named by one of its nodes, and the nodes of a class have one functor
pub record Classed (sh : Shape) (top : ℕ) (s : Seen) : Type 0 where
  pub below : (i n : ℕ) → s.look i ≡ nod n → n < top
  pub rep : (n : ℕ) → n < top → (s.classes n < top) × (s.classes (s.classes n) ≡ s.classes n)
  pub funs : (n m : ℕ) → s.classes n ≡ s.classes m → sh.fun n ≡ sh.fun m

-- ---- the sum
-- a node that names a class weighs its arity
abbrev pub weigh : Shape → (ℕ → ℕ) → ℕ → ℕ
weigh sh classes n = cond (eqb (classes n) n) (arity_of sh n) 0

abbrev pub weight : Shape → ℕ → Seen → ℕ
weight sh top s = length s.pairs + sum_from 0 top (weigh sh s.classes)
