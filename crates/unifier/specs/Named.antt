-- The cells that the trail's entries from a place to another name, as the slice of these entries: what the test of each says.
use Rattle.std.specs.Prelude.{◌≡◌, refl, Bool, ◌&&◌, List, ℕ, zero, suc, ◌+◌, ◌-◌, ◌<◌, ◌≤◌, length, get_or, take, drop}
use Rattle.std.specs.List.{All, list_all, slice_range}
use Rattle.std.proofs.Common.{ap, arith, length-take}
use Rattle.std.proofs.Math.Seq.{drop-cons}
use Rattle.std.proofs.lemmas.List.{get_or-take, get_or-drop}
use Rattle.std.proofs.lemmas.List.Elements.{All-from_get_or}
use Rattle.store.specs.All.{all_from}
use Rattle.store.specs.Store.{kind_at}
use Rattle.marks.specs.Unbind.{Names}
use Rattle.unification.specs.Flat.{flat_kind, bound_flat}

module _ (trail : List ℕ) where
  list_from : (p : ℕ → Bool) (n from : ℕ) → from + n ≤ length trail → list_all p (take n (drop from trail)) ≡ all_from from n (λ i. p (get_or trail i 0))
  unfolding all_from
  list_from p zero from h = refl
  list_from p (suc n) from h = rw (drop-cons trail from 0 (omega arith)) (ap (λ b. p (get_or trail from 0) && b) (list_from p n (suc from) (omega arith)))

  module _ {from to below : ℕ} (n : Names trail from to below) where
    pub named_below : All (λ e. e < below) (slice_range trail from to)
    named_below = All-from_get_or (λ e. e < below) (slice_range trail from to) 0 (λ i h. let l = n.there in let r : i < to - from = omega (arith, length-take (to - from) (drop from trail)) in rw (get_or-take (to - from) (drop from trail) i 0 r, get_or-drop from trail i 0) (n.small (from + i) (omega arith) (omega arith)))

    pub named_flat : (cells : List ℕ) → list_all (λ e. flat_kind (kind_at cells e)) (slice_range trail from to) ≡ bound_flat cells trail from to
    unfolding bound_flat
    named_flat cells = let l = n.there in let o = n.order in list_from (λ e. flat_kind (kind_at cells e)) (to - from) from (omega arith)
