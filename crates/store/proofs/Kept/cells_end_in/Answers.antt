-- `store::Kept::cells_end_in` meets its contract: no cell is noted in a table of zeros.
use mathlib.Core.Path.{sym, subst}
use Rattle.store.specs.Walk.{Known, known_none}
use Rattle.store.proofs.ByKind.{set_fits}
use Rattle.store.proofs.Kept.cells_end_in.Goals as goal

pub new-known-requires : goal.new-known-requires
new-known-requires g c = set_fits _ c.requires.3

pub turns_end-requires : goal.turns_end-requires
turns_end-requires g c =
    let p = c.requires in
    (set_fits _ p.3, (p.0, p.1, subst (Known _ _) (sym c.new-known.ensures) (known_none _ _ _ p.2), p.2, p.3))
