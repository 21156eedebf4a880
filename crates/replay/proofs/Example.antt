-- The striking rule on two small histories.
use Rattle.std.specs.Prelude.{◌≡◌, refl, true, [], ◌∷◌}
use Rattle.cell.specs.declared.Refusal.TheVariants.{Mark}
use Rattle.trail.specs.State.{Outcome, done, failed, refused}
use Rattle.replay.specs.History.{Call, append, mark, unify, copy, cut, rollback, Event, start, ◌▸◌, sets, strike_back, write, logbook, unstruck}

abbrev said : Call → Outcome → Event
said c o = record { call = c; outcome = o }

-- a rollback strikes itself, the failed call, the inner mark and the append; the mark that it went back to stays
struck_between : unstruck (logbook (start ▸ said mark (done 1) ▸ said (append (7 ∷ [])) (done 1) ▸ said mark (done 2) ▸ said (unify true 1 2) failed ▸ said (rollback 1) (done 0) ▸ said (append (9 ∷ [])) (done 1)))
    ≡ start ▸ said mark (done 1) ▸ said (append (9 ∷ [])) (done 1)
unfolding sets strike_back write logbook unstruck
struck_between = refl

-- a mark's number is given again after a cut: the rollback goes back to the later mark 1, and the earlier one and the cut stay
number_again : unstruck (logbook (start ▸ said mark (done 1) ▸ said (cut 0) (done 0) ▸ said mark (done 1) ▸ said (copy 1) (done 1) ▸ said (rollback 1) (done 0) ▸ said (rollback 2) (refused Mark)))
    ≡ start ▸ said mark (done 1) ▸ said (cut 0) (done 0) ▸ said mark (done 1)
unfolding sets strike_back write logbook unstruck
number_again = refl
