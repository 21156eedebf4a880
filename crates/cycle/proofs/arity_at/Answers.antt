-- `cycle::arity_at` meets its contract, arm by arm.
use Rattle.cycle.proofs.ByKind.{arity_atom, arity_none}
use Rattle.cycle.proofs.arity_at.Goals as goal

pub returns-in-Atom : goal.returns-in-Atom
returns-in-Atom c = arity_atom _ _ _ c.kind_at.ensures _ _ c.in-Atom.is

pub returns-in_default : goal.returns-in_default
returns-in_default c = arity_none _ _ _ c.kind_at.ensures c.in_default.not-Atom
