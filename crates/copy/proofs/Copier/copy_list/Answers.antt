-- `copy::Copier::copy_list` meets its contract: the pair is added or noted, and the cell names it.
use Rattle.cell.specs.Kinds.{Proper}
use native.Mathlib.Omega.{arith}
use Rattle.copy.specs.Arms.{act_lis}
use Rattle.copy.proofs.Copier.copy_list.Goals as goal

pub word-requires : goal.word-requires
unfolding Proper
word-requires c = let l = c.add_run.ensures.small in omega arith

pub returns-clause-state : goal.returns-clause-state
returns-clause-state c = act_lis _ _ _ _ _ _ _ _ _ _ c.put_at.ensures _ c.add_run.ensures.state c.word.ensures
