-- `unify::Machine::unify_pair` meets its contract, by what the pair asks for.
use mathlib.Core.Path.{refl, sym, subst}
use mathlib.Core.Bool.{true}
use Prim.Native.Nat.{suc}
use Rattle.unify.specs.Going.{Held, holds, Went, ready_looks, went_skip, went_clash, bind_asks, went_bind, join_asks, went_join}
use Rattle.unify.proofs.Machine.unify_pair.Goals as goal

pub next_act-requires : goal.next_act-requires
next_act-requires c = (ready_looks c.requires.0, c.requires.1)

pub bind-requires : goal.bind-requires
bind-requires c =
    let n = c.next_act.ensures in
    let l = n.lent in
    rw (l.1, l.2, l.3) (bind_asks l.0.6 n.looked c.in-Bind.is c.requires.0)

pub join-requires : goal.join-requires
join-requires c =
    let n = c.next_act.ensures in
    let l = n.lent in
    rw (l.0.7, n.pairs) (join_asks l.0.6 n.looked c.in-Join.is c.requires.0)

pub returns-in-Clash-clause-went : goal.returns-in-Clash-clause-went
returns-in-Clash-clause-went c =
    let n = c.next_act.ensures in
    let l = n.lent in
    rw (l.1, l.2, l.3, n.pairs) (went_clash l.0.6 n.looked c.in-Clash.is)

pub returns-in-Skip-clause-went : goal.returns-in-Skip-clause-went
returns-in-Skip-clause-went c =
    let n = c.next_act.ensures in
    let l = n.lent in
    rw (l.1, l.2, l.3, n.pairs) (went_skip l.0.6 n.looked c.in-Skip.is)

pub returns-in-Bind-clause-went : goal.returns-in-Bind-clause-went
returns-in-Bind-clause-went c =
    let n = c.next_act.ensures in
    let l = n.lent in
    let a = c.args.self.now in
    subst (λ (h : Held). Went a.top (holds a.cells.now a.trail.now a.work.now (suc a.pairs) a.trailed.now) true h) (sym c.bind.ensures.bound)
    (rw (l.1, l.2, l.3, n.pairs) (went_bind l.0.6 n.looked c.in-Bind.is refl refl))

pub returns-in-Join-clause-went : goal.returns-in-Join-clause-went
returns-in-Join-clause-went c =
    let n = c.next_act.ensures in
    let l = n.lent in
    let j = c.join.ensures in
    let m = rw (l.0.7, n.pairs) at j.met in
    rw (j.lent.1, j.lent.2, j.lent.3, l.1, l.2, l.3) (went_join l.0.6 n.looked c.in-Join.is j.lent.0.6 m)
