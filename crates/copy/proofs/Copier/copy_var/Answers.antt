-- `copy::Copier::copy_var` meets its contract: the home is added or noted, and the cell names it.
use mathlib.Core.Path.{ap, ◌∙◌}
use Prim.Native.Nat.{ℕ}
use Rattle.cell.specs.Kinds.{word_of_kind}
use Rattle.cell.specs.declared.Kind.TheVariants.{Var}
use Rattle.cell.specs.Kinds.{Proper}
use native.Mathlib.Omega.{arith}
use Rattle.copy.specs.Arms.{act_var}
use Rattle.copy.proofs.Copier.copy_var.Goals as goal

pub word-requires : goal.word-requires
unfolding Proper
word-requires c = let l = c.reinstantiate_var-h.ensures.small in omega arith

pub returns-clause-state : goal.returns-clause-state
returns-clause-state c =
    let h = c.reinstantiate_var-h.ensures in
    act_var _ _ _ _ _ _ _ _ _ _ c.put_at.ensures _ h.state (c.word.ensures ∙ ap (λ (y : ℕ). word_of_kind (Var y)) h.noted)
