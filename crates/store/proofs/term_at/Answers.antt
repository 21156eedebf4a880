-- `store::term_at` meets its contract: the definition's three tests.
use mathlib.Core.Path.{ap}
use mathlib.Core.Bool.{not}
use mathlib.Core.Logic.{⊎_elim}
use borrow.Author.Tests.{lt-leb, le-leb, le-ltb, lt-ltb}
use Rattle.store.specs.Store.{term_at}
use Rattle.store.proofs.term_at.Goals as goal

pub returns-then-i-lt1 : goal.returns-then-i-lt1
unfolding term_at
returns-then-i-lt1 c =
    ⊎_elim (λ h. rw (lt-leb 1 _ h)) (λ h. rw (le-leb 1 _ h.0, le-ltb _ _ h.1)) c.then-i-lt1.either

pub returns : goal.returns
unfolding term_at
returns c = rw (le-leb 1 _ c.if-i-lt1.false, lt-ltb _ _ c.if-top-i.false) (ap not c.header_at.ensures)
