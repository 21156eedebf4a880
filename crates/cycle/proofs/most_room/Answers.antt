-- `cycle::most_room` meets its contract: it sums what is counted at each used cell.
use Rattle.std.proofs.Common.{rules, ◌≡◌, refl, ap, ◌∙◌, ℕ, ◌+◌, ◌-◌, arith}
use Rattle.std.specs.List.{sum_by, range_with_len}
use Rattle.std.proofs.lemmas.Iterator.{YieldsList-from_range, YieldsList-from_map}
use Rattle.std.proofs.lemmas.Iterator.Consumers.{sum_by_from_yields_List, fits_by_from_yields_list}
use Rattle.store.specs.WellFormed.{parts}
use Rattle.cycle.specs.Most.{own_room, own_all, own_fits}
use Rattle.cycle.proofs.most_room.Goals as goal
use Rattle.cycle.proofs.most_room.Goals.{After-sum}

pub sum-requires-clause-fits : goal.sum-requires-clause-fits
sum-requires-clause-fits c =
    fits_by_from_yields_list _ _ c.map.result _
    (YieldsList-from_map _ (own_room c.args.store.cells.words.now) (YieldsList-from_range 1 _ _ c.map.ensures.source refl) c.map.ensures.closure (λ x r q k. search rules))
    (omega (arith, own_fits _ _ (parts _ _ c.args.store.whole)))

summed : (c : After-sum) → let s = c.args.store.cells in c.sum.result ≡ sum_by (own_room s.words.now) (range_with_len 1 (s.top - 1))
summed c =
    sum_by_from_yields_List _ _ c.map.result _ c.sum.ensures.ran
    (YieldsList-from_map _ (own_room c.args.store.cells.words.now) (YieldsList-from_range 1 _ _ c.map.ensures.source refl) c.map.ensures.closure (λ x r q k. search rules))

pub overflow_add-result : goal.overflow_add-result
overflow_add-result c = omega (arith, summed c, own_fits _ _ (parts _ _ c.args.store.whole))

pub returns : goal.returns
returns c = ap (λ (n : ℕ). 1 + n) (summed c) ∙ own_all _ _
