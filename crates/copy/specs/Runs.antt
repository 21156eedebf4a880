-- A run of cells copied, word by word.
use Rattle.std.specs.Prelude.{◌≡◌, refl, List, ℕ, zero, suc, ◌+◌, ◌<◌, ◌≤◌, length, get_or, set}
use Rattle.std.proofs.Common.{◌∙◌, arith, length-set, get_or-set_same, get_or-set_other}
use Rattle.copy.specs.Rules.{copy_run}

pub run_length : (n : ℕ) (c : List ℕ) (b to : ℕ) → length (copy_run n c b to) ≡ length c
unfolding copy_run
run_length zero c b to = refl
run_length (suc n) c b to = run_length n (set c to (get_or c b 0)) (suc b) (suc to) ∙ length-set c to (get_or c b 0)

pub run_before : (n : ℕ) (c : List ℕ) (b to j : ℕ) → j < to → get_or (copy_run n c b to) j 0 ≡ get_or c j 0
unfolding copy_run
run_before zero c b to j h = refl
run_before (suc n) c b to j h = run_before n (set c to (get_or c b 0)) (suc b) (suc to) j (omega arith) ∙ get_or-set_other c to j (get_or c b 0) 0 (λ z. omega arith)

pub run_after : (n : ℕ) (c : List ℕ) (b to j : ℕ) → to + n ≤ j → get_or (copy_run n c b to) j 0 ≡ get_or c j 0
unfolding copy_run
run_after zero c b to j h = refl
run_after (suc n) c b to j h = run_after n (set c to (get_or c b 0)) (suc b) (suc to) j (omega arith) ∙ get_or-set_other c to j (get_or c b 0) 0 (λ z. omega arith)

pub run_at : (n : ℕ) (c : List ℕ) (b to k : ℕ) → b + n ≤ to → to + n ≤ length c → k < n → get_or (copy_run n c b to) (to + k) 0 ≡ get_or c (b + k) 0
unfolding copy_run
run_at zero c b to k l u h = absurd (omega arith)
run_at (suc n) c b to zero l u h =
    let z : to + 0 ≡ to = omega arith in
    let y : b + 0 ≡ b = omega arith in
    rw (z, y) (run_before n (set c to (get_or c b 0)) (suc b) (suc to) to (omega arith) ∙ get_or-set_same c to (get_or c b 0) 0 (omega arith))
run_at (suc n) c b to (suc k) l u h =
    let z : to + suc k ≡ suc to + k = omega arith in
    let y : b + suc k ≡ suc b + k = omega arith in
    let e = length-set c to (get_or c b 0) in
    rw (z, y) (run_at n (set c to (get_or c b 0)) (suc b) (suc to) k (omega arith) (omega arith) (omega arith) ∙ get_or-set_other c to (suc b + k) (get_or c b 0) 0 (λ q. omega arith))
