-- `marks::trail_left` meets its contract: what the library says of all used entries, in the words of the definition.
use Rattle.std.proofs.Common.{◌∙◌, arith, rules, ltb}
use borrow.Author.Tests.{tests}
use Rattle.std.proofs.lemmas.Iterator.{YieldsList-from_slice}
use Rattle.std.proofs.lemmas.Iterator.Search.{all_from_yields_List}
use Rattle.marks.specs.Left.{trail_left}
use Rattle.marks.proofs.AllOf.{all_part}
use Rattle.marks.proofs.trail_left.Goals as goal

pub returns : goal.returns
unfolding trail_left
returns c = let a = c.args in all_from_yields_List (λ e. ltb e a.t) _ _ _ c.all.ensures.ran (YieldsList-from_slice _ c.iter.ensures.rest) (λ x b q k. search (rules, tests)) ∙ all_part _ _ _ 0 (omega arith)
