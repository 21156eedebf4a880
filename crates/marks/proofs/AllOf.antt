-- A test of each number of a range, and of each word of a part of a list, in the words of the definitions.
use Rattle.std.proofs.Common.{◌≡◌, refl, Bool, ℕ, zero, suc, ◌+◌, ◌≤◌, List, length, get_or, take, drop, add-one, arith}
use Rattle.std.specs.List.{list_all, range_with_len}
use Rattle.std.proofs.Math.Seq.{drop-cons}
use Rattle.store.specs.All.{all_from}

pub all_range : (p : ℕ → Bool) (n from : ℕ) → list_all p (range_with_len from n) ≡ all_from from n p
unfolding all_from
all_range p zero from = refl
all_range p (suc n) from = rw (← all_range p n (suc from), add-one)

pub all_part : (p : ℕ → Bool) (s : List ℕ) (n from : ℕ) → from + n ≤ length s → list_all p (take n (drop from s)) ≡ all_from from n (λ i. p (get_or s i 0))
unfolding all_from
all_part p s zero from h = refl
all_part p s (suc n) from h = rw (drop-cons s from 0 (omega arith), all_part p s n (suc from) (omega arith))
