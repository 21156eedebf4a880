-- `unify::Machine::next_act` meets its contract: the cells are followed, and the rules are asked.
use mathlib.Core.Path.{ap}
use Rattle.unify.specs.Looking.{same_words_lem, two_ends}
use Rattle.unify.proofs.Machine.next_act.Goals as goal

pub returns-then-self-x-clause-looked : goal.returns-then-self-x-clause-looked
returns-then-self-x-clause-looked c = let p = c.requires in same_words_lem p.0 (ap (λ q. q.0) p.1) (ap (λ q. q.1) p.1) c.if-self-x.true

pub unify_cells-requires : goal.unify_cells-requires
unify_cells-requires c =
    let p = c.requires in
    let e = c.end_of-a.ensures in
    let f = c.end_of-b.ensures in
    let l = e.lent in
    let m = f.lent in
    let g = rw (l.1, l.0.7) at f.end.0 in
    let i = rw (m.1, l.1) at c.read.ensures in
    let j = rw (m.1, l.1) at c.read-2.ensures in
    rw (m.1, l.1) (two_ends p.0 (ap (λ q. q.0) p.1) (ap (λ q. q.1) p.1) e.end.0 g i.0 i.1 j.0 j.1)
