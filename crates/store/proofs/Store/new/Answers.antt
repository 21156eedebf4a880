-- `store::Store::new` meets its contract: the definition's tests in its order, the first that fails deciding.
use mathlib.Core.Path.{◌∙◌, sym, refl}
use mathlib.Core.Logic.{⊎_elim}
use native.Mathlib.Omega.{arith}
use Rattle.store.specs.Turns.{below_none}
use Rattle.store.specs.WellFormed.{no_low, no_high, no_room, no_zeroth, no_zeros, the_used}
use Rattle.store.proofs.Store.new.Goals as goal
use Rattle.store.proofs.Store.new.Goals.{else-words-eq0-via-then-words-eq0+then-zero_from+else-good_from, else-words-eq0-via-then-words-eq0+else-zero_from, else-words-eq0-via-else-words-eq0}

pub returns-then-top-lt1-clause-err : goal.returns-then-top-lt1-clause-err
returns-then-top-lt1-clause-err c = (refl, sym (⊎_elim (λ h. no_low _ _ h) (⊎_elim (λ h. no_high _ _ h.0 h.1) (λ h. no_room _ _ h.0 h.1 h.2)) c.then-top-lt1.either))

pub good_from-requires : goal.good_from-requires
good_from-requires c = (omega arith, λ k. k, below_none _)

pub invariant_of-result : goal.invariant_of-result
invariant_of-result c =
    record { whole = sym (the_used _ _ (omega arith) (omega arith) (omega arith) c.if-words-eq0.true (sym c.zero_from.ensures ∙ c.if-zero_from.true)) ∙ sym c.good_from.ensures ∙ c.if-good_from.true }

pub returns-else-words-eq0-clause-err : goal.returns-else-words-eq0-clause-err
returns-else-words-eq0-clause-err c = (
  refl,
  elim c.else-words-eq0.branch [
    | else-words-eq0-via-then-words-eq0+then-zero_from+else-good_from w ↦ sym (the_used _ _ (omega arith) (omega arith) (omega arith) w.if-words-eq0.true (sym w.zero_from.ensures ∙ w.if-zero_from.true)) ∙ sym w.good_from.ensures ∙ w.if-good_from.false
    | else-words-eq0-via-then-words-eq0+else-zero_from w ↦ sym (no_zeros _ _ (omega arith) (omega arith) (omega arith) w.if-words-eq0.true (sym w.zero_from.ensures ∙ w.if-zero_from.false))
    | else-words-eq0-via-else-words-eq0 w ↦ sym (no_zeroth _ _ (omega arith) (omega arith) (omega arith) w.if-words-eq0.false)
  ],
)
