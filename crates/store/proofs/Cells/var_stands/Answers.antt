-- `store::Cells::var_stands` meets its contract: what the Var names, and whether the way turns there.
use mathlib.Core.Path.{◌∙◌, sym}
use native.Mathlib.Omega.{arith}
use Rattle.store.proofs.ByKind.{var_self, var_breaks, var_keeps, var_turns, term_lt}
use Rattle.store.proofs.Cells.var_stands.Goals as goal

pub returns-then-v-i : goal.returns-then-v-i
returns-then-v-i c = let p = c.requires in var_self _ _ _ p.2 _ p.0 p.1 c.if-v-i.true

pub returns-then-not-term_at : goal.returns-then-not-term_at
returns-then-not-term_at c = var_breaks _ _ _ c.requires.2 _ _ c.term_at.ensures c.if-not-term_at.true

pub turns_at-requires : goal.turns_at-requires
turns_at-requires c = let l = term_lt _ _ _ (sym c.term_at.ensures ∙ c.if-not-term_at.false) in omega arith

pub returns-then-turns_at : goal.returns-then-turns_at
returns-then-turns_at c =
    var_turns _ _ _ c.requires.2 _ _ c.term_at.ensures c.if-not-term_at.false

pub returns-else-turns_at : goal.returns-else-turns_at
returns-else-turns_at c =
    var_keeps _ _ _ c.requires.2 _ _ c.term_at.ensures c.if-not-term_at.false (sym c.turns_at.ensures ∙ c.if-turns_at.false)
