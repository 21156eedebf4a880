-- `unify::unify_functors` meets its contract, by the tests of the two functors.
use borrow.Author.Rules.{rules}
use Rattle.unify.specs.Arms.{functors_apart, functors_atom, functors_join}
use Rattle.unify.proofs.unify_functors.Goals as goal

pub returns-then-ne : goal.returns-then-ne
returns-then-ne c = λ a b. functors_apart _ _ _ c.get_name_and_arity-f.ensures c.get_name_and_arity-g.ensures (λ p q. search rules)

pub returns-then-f-eq0 : goal.returns-then-f-eq0
returns-then-f-eq0 c = λ a b. functors_atom _ _ _ c.get_name_and_arity-f.ensures c.get_name_and_arity-g.ensures (search rules) (search rules) c.if-f-eq0.true

pub returns : goal.returns
returns c = λ a b. functors_join _ _ _ c.get_name_and_arity-f.ensures c.get_name_and_arity-g.ensures (search rules) (search rules) c.if-f-eq0.false
