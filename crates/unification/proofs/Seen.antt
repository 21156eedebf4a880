-- What a machine shows, without its words: the view of each cell, the classes and the pairs; and what each act does to it. The laws of unification are proved of this.
use Rattle.std.specs.Prelude.{List, ◌++◌, ℕ, zero, suc, ◌+◌, ◌<◌, ◌≤◌}
use Rattle.std.proofs.Common.{arith}
use Rattle.terms.specs.View.{Shape}
use Rattle.unification.specs.Machine.{args}
use Rattle.unification.specs.Seen.{All}

-- all pairs of the arguments of two nodes
pub all_args : (R : ℕ → ℕ → Type 0) (sh : Shape) (n m : ℕ) (S : List (ℕ × ℕ)) (a k : ℕ) → ((j : ℕ) → k ≤ j → j < k + a → R (sh.arg n j) (sh.arg m j)) → All R S → All R (args sh n m a k ++ S)
unfolding args
all_args R sh n m S zero k f h = h
all_args R sh n m S (suc a) k f h =
    (f k (omega arith) (omega arith), all_args R sh n m S a (suc k) (λ j p q. f j (omega arith) (omega arith)) h)
