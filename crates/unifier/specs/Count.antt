-- The unbound Vars of a store, counted as the places that pass the test; they are at most as many as the used cells.
use Rattle.std.specs.Prelude.{◌≡◌, refl, Bool, cond, List, ℕ, zero, suc, ◌+◌, ◌≤◌}
use Rattle.std.specs.List.{count_by, range_with_len}
use Rattle.std.proofs.Common.{arith, ◌∙◌, ap, add-one}
use Rattle.std.proofs.lemmas.List.Sums.{sum_by-cons, count_by-le-length}
use Rattle.std.proofs.lemmas.List.FromFn.{length-range_with_len}
use Rattle.trail.specs.Rules.{unbound_at}
use Rattle.cycle.specs.Sum.{sum_from, sum_last}
use Rattle.unification.specs.Calls.{free_at, unbound}

module _ (cells : List ℕ) where
  counted : (n from : ℕ) → count_by (unbound_at cells) (range_with_len from n) ≡ sum_from from n (free_at cells)
  unfolding sum_from
  counted zero from = refl
  counted (suc n) from = sum_by-cons (free_at cells) from (range_with_len (from + 1) n) ∙ rw add-one (ap (λ k. free_at cells from + k) (counted n (suc from)))

  module _ (top : ℕ) where
    -- all places below top
    pub unbound_counted : count_by (unbound_at cells) (range_with_len 0 top) ≡ unbound cells top
    unfolding unbound
    unbound_counted = counted top 0

    pub unbound_within : unbound cells top ≤ top
    unbound_within = omega (arith, unbound_counted, count_by-le-length (unbound_at cells) (range_with_len 0 top), length-range_with_len 0 top)

    -- ---- the loop that counts: one cell more, which counts where it is an unbound Var
    pub unbound_more : (b : Bool) → unbound_at cells top ≡ b → unbound cells (top + 1) ≡ unbound cells top + cond b 1 0
    unfolding unbound
    unbound_more b e = let z : 0 + top ≡ top = omega arith in rw (add-one top, sum_last (free_at cells) top 0, z) (ap (λ x. sum_from 0 top (free_at cells) + cond {A = ℕ} x 1 0) e)

  -- none yet
  pub unbound_none : unbound cells 0 ≡ 0
  unfolding unbound sum_from
  unbound_none = refl
