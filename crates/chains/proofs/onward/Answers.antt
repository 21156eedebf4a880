-- `chains::onward` meets its contract: what is remembered is further along, and so is a step.
use borrow.Author.Rules.{rules}
use Rattle.chains.specs.Chains.{goes}
use Rattle.chains.specs.Hops.{onward_step}
use Rattle.chains.proofs.onward.Goals as goal

pub returns-in-0 : goal.returns-in-0
returns-in-0 c = onward_step _ _ c.step_of.ensures

pub returns-in_default : goal.returns-in_default
returns-in_default c = let p = c.requires in goes (p.1.ahead _ p.2 p.3 (search rules))
