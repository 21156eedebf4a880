-- `marks::cells_left` meets its contract: what the library says of all used cells, in the words of the definition.
use Rattle.std.proofs.Common.{◌∙◌, refl, rules}
use borrow.Author.Tests.{tests}
use Rattle.std.proofs.lemmas.Iterator.{YieldsList-from_range}
use Rattle.std.proofs.lemmas.Iterator.Search.{all_from_yields_List}
use Rattle.marks.specs.Left.{keeps_left, cells_left}
use Rattle.marks.proofs.AllOf.{all_range}
use Rattle.marks.proofs.cells_left.Goals as goal

pub returns : goal.returns
unfolding cells_left
returns c = let a = c.args in all_from_yields_List (keeps_left a.cells.words.now a.freed.now a.cells.top) _ _ _ c.all.ensures.ran (YieldsList-from_range 1 a.cells.top _ refl refl) (λ x b q k. search (rules, tests)) ∙ all_range _ _ _
