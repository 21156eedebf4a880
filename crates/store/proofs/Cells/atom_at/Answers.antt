-- `store::Cells::atom_at` meets its contract: the definition's three tests.
use mathlib.Core.Logic.{⊎_elim}
use borrow.Author.Tests.{lt-leb, le-leb, le-ltb, lt-ltb}
use Rattle.store.specs.Store.{atom_at}
use Rattle.store.proofs.Cells.atom_at.Goals as goal

pub returns-then-f-lt1 : goal.returns-then-f-lt1
unfolding atom_at
returns-then-f-lt1 c =
    ⊎_elim (λ h. rw (lt-leb 1 _ h)) (λ h. rw (le-leb 1 _ h.0, le-ltb _ _ h.1)) c.then-f-lt1.either

pub returns : goal.returns
unfolding atom_at
returns c = rw (le-leb 1 _ c.if-f-lt1.false, lt-ltb _ _ c.if-self-f.false) c.is_atom.ensures
