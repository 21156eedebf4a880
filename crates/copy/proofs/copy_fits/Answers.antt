-- `copy::copy_fits` meets its contract: room for the most that a copy can need is room for this one.
use mathlib.Core.Path.{◌∙◌}
use borrow.Author.Tests.{le-leb}
use Rattle.store.specs.WellFormed.{parts}
use Rattle.cycle.proofs.Most.{most_enough}
use Rattle.copy.specs.Copying.{fewer_fit}
use Rattle.copy.proofs.copy_fits.Goals as goal

pub returns-then-most_room-free : goal.returns-then-most_room-free
returns-then-most_room-free c =
    fewer_fit _ _ _ _ c.most_room.ensures (le-leb _ _ c.if-most_room-free.true) (most_enough _ _ (parts _ _ c.args.store.whole) c.args.root) ∙ c.free_cells-free.ensures.1 _
