-- `store::Cells::good_from` meets its contract. The loop's invariant, `Surveying`: what is left of the latest header's arguments and of the cells decides, and no way turns at those before while `turns` is false.
use Rattle.store.specs.Survey.{Surveying}
use Rattle.store.proofs.Cells.good_from.Given as goal

abbrev pub invariant-loop-i : goal.invariant-loop-i
invariant-loop-i l = Surveying l.self.words.now l.from l.self.top l.turns l.last l.i
