-- `classes::join` meets its contract: the higher name is hung below the lower.
use native.Mathlib.Omega.{arith}
use Rattle.classes.specs.Classes.{join_names}
use Rattle.classes.proofs.join.Goals as goal

pub returns : goal.returns
returns c = let p = c.requires in join_names _ _ _ _ p.0 p.1 p.2 p.3 p.4 _ _ (omega arith) (omega arith) p.5
