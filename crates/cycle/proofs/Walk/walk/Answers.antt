use Rattle.std.proofs.Common.{◌<◌, ◌≤◌, arith}
use Rattle.store.specs.Store.{limit, WellFormed}
use Rattle.store.specs.WellFormed.{parts}
use Rattle.cycle.proofs.Walking.{Sized, landed, room_for, from_start}
use Rattle.cycle.proofs.Going.{Step, started, summed_all, inside, taken, over_done, over_back, down, less_down, up, less_up, ended}
use Rattle.cycle.proofs.Walk.walk.Goals as goal
use Rattle.cycle.proofs.Walk.walk.Goals.{Start, In-loop-sp, In-Some, In-White}

-- the tables have a place for every used cell
sized : {g : _} (c : Start g) → Sized c.args.store.cells.top g.row.N c.args.self.now.colours
sized c = record { enough = c.requires.2; few = c.requires.3; col_long = omega arith }

-- in a turn
formed : {g : _} (c : In-loop-sp g) → WellFormed c.args.store.cells.words.now c.args.store.cells.top
formed c = parts _ _ c.args.store.whole

-- the next link is taken
step : {g : _} (c : In-Some g) → Step c.loop-sp.left.start c.loop-sp.left.end c.in-Some.next c.next.new.self.start c.next.new.self.end
step c = let t = c.in-Some.ensures.steps in record { more = omega arith; leads = t.1.1; past = t.1.2; same = t.0 }

-- it goes to a used cell, which has a colour
lands : {g : _} (c : In-Some g) → (1 ≤ c.in-Some.next) × (c.in-Some.next < c.args.store.cells.top)
lands c = landed (taken (parts _ _ c.args.store.whole) c.loop-sp.invariant c.loop-sp-test.true (step c))

-- a cell not met before has room on the path
deeper : {g : _} (c : In-White g) → (c.loop-sp.sp < g.row.N) × (c.loop-sp.left.end ≤ limit)
deeper {g} c =
    let w = parts _ _ c.args.store.whole in
    let i = inside w c.loop-sp.invariant c.loop-sp-test.true in
    let h = w.high in
    (room_for (taken w c.loop-sp.invariant c.loop-sp-test.true (step (goal.at.In-White g c).In-Some)) c.in-White.is, omega arith)

pub loop-sp-init : goal.loop-sp-init
loop-sp-init g c = let p = c.requires in started p.4 (sized (goal.at.loop-sp-init g c).Start) _ p.1 p.5 _ (omega arith) (parts _ _ c.args.store.whole) p.0 c.links_of-left.ensures c.len-links.ensures.value

pub loop-sp-smaller : goal.loop-sp-smaller
loop-sp-smaller g c = let t = c.in_default.ensures.steps in less_up (parts _ _ c.args.store.whole) c.loop-sp.invariant c.loop-sp-test.true (omega arith)

pub loop-sp-preserved : goal.loop-sp-preserved
loop-sp-preserved g c = let t = c.in_default.ensures.steps in up (parts _ _ c.args.store.whole) c.loop-sp.invariant c.loop-sp-test.true (omega arith)

pub bounds : goal.bounds
bounds g c = let u = lands (goal.at.bounds g c).In-Some in omega arith

pub bounds-self-next : goal.bounds-self-next
bounds-self-next g c = let u = lands (goal.at.bounds-self-next g c).In-Some in omega arith

pub overflow_cast-self-in-White : goal.overflow_cast-self-in-White
overflow_cast-self-in-White g c =
    let u = lands (goal.at.overflow_cast-self-in-White g c).In-Some in
    let e = step (goal.at.overflow_cast-self-in-White g c).In-Some in
    let ep = e.past in
    omega arith

pub overflow_cast-self-in-White-2 : goal.overflow_cast-self-in-White-2
overflow_cast-self-in-White-2 g c =
    let d = deeper (goal.at.overflow_cast-self-in-White-2 g c).In-White in
    let e = step (goal.at.overflow_cast-self-in-White-2 g c).In-Some in
    let es = e.same in
    omega arith

pub bounds-self-sp : goal.bounds-self-sp
bounds-self-sp g c = let d = deeper (goal.at.bounds-self-sp g c).In-White in omega arith

pub links_of-left-requires-in-White : goal.links_of-left-requires-in-White
links_of-left-requires-in-White g c = lands (goal.at.links_of-left-requires-in-White g c).In-Some

-- each cell met adds less than the limit
pub overflow_add-links : goal.overflow_add-links
overflow_add-links g c =
    let k = down (parts _ _ c.args.store.whole) c.loop-sp.invariant c.loop-sp-test.true (step (goal.at.overflow_add-links g c).In-Some) c.in-White.is c.links_of-left-in-White.ensures c.len-links-in-White.ensures.value in
    let f = k.few in
    omega arith

pub loop-sp-smaller-in-White : goal.loop-sp-smaller-in-White
loop-sp-smaller-in-White g c = less_down (parts _ _ c.args.store.whole) c.loop-sp.invariant c.loop-sp-test.true (step (goal.at.loop-sp-smaller-in-White g c).In-Some) c.in-White.is c.links_of-left-in-White.ensures

pub loop-sp-preserved-in-White : goal.loop-sp-preserved-in-White
loop-sp-preserved-in-White g c = down (parts _ _ c.args.store.whole) c.loop-sp.invariant c.loop-sp-test.true (step (goal.at.loop-sp-preserved-in-White g c).In-Some) c.in-White.is c.links_of-left-in-White.ensures c.len-links-in-White.ensures.value

pub loop-sp-preserved-in-Grey : goal.loop-sp-preserved-in-Grey
loop-sp-preserved-in-Grey g c = over_back (parts _ _ c.args.store.whole) c.loop-sp.invariant c.loop-sp-test.true (step (goal.at.loop-sp-preserved-in-Grey g c).In-Some) c.in-Grey.is

pub loop-sp-preserved-in-Black : goal.loop-sp-preserved-in-Black
loop-sp-preserved-in-Black g c = over_done (parts _ _ c.args.store.whole) c.loop-sp.invariant c.loop-sp-test.true (step (goal.at.loop-sp-preserved-in-Black g c).In-Some) c.in-Black.is

pub returns : goal.returns
returns g c =
    let p = c.requires in
    let v = c.loop-sp.invariant in
    let z = sized (goal.at.returns g c).Start in
    (from_start p.4 z _ p.1 p.5 (ended v (omega arith)), summed_all p.4 z _ p.1 p.5 _ _ p.0 c.links_of-left.ensures c.len-links.ensures.value v.summed)
