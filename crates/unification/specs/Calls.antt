-- What plain and checked unification answer and leave, of any state, any work buffer and any roots.
use Rattle.std.specs.Prelude.{Bool, true, false, not, cond, List, ℕ, ◌-◌, leb, length, Ok, Err}
use Rattle.cell.specs.declared.Refusal.TheVariants.{Root, Work, TrailRoom, Cycle}
use Rattle.store.specs.Store.{term_at}
use Rattle.trail.specs.Rules.{unbound_at}
use Rattle.trail.specs.State.{State, state_of, Outcome, done, failed, refused, check_of, need, ◌then◌, Answer}
use Rattle.cycle.specs.Sum.{sum_from}
use Rattle.cycle.specs.Verdict.{cyclic_at}
use Rattle.chains.specs.Work.{work_need, cleared}
use Rattle.unification.specs.Machine.{Machine, Ending, yes, clashes, occurs, late, unified}

-- 1 for an unbound Var at i
abbrev pub free_at : List ℕ → ℕ → ℕ
free_at cells i = cond (unbound_at cells i) 1 0

-- how many of the used cells are unbound Vars
unfoldable pub unbound : List ℕ → ℕ → ℕ
unbound cells top = sum_from 0 top (free_at cells)

-- refusals 1 and 2, then 3 of either root, 4, and 5
unfoldable pub plain_check : State → List ℕ → ℕ → ℕ → Answer
plain_check s work a b =
    check_of s
    then need (term_at s.cells s.top a) Root
    then need (term_at s.cells s.top b) Root
    then need (leb (work_need s.top) (length work)) Work
    then need (leb (unbound s.cells s.top) (length s.trail - s.trailed)) TrailRoom

-- the same, then 6 of either root
unfoldable pub checked_check : State → List ℕ → ℕ → ℕ → Answer
checked_check s work a b =
    plain_check s work a b
    then need (not (cyclic_at s.cells s.top a)) Cycle
    then need (not (cyclic_at s.cells s.top b)) Cycle

-- what a call answers, with the state and the work words after it
abbrev pub Result : Type 0
Result = Outcome × State × List ℕ

-- the state that a run leaves: its cells, its trail and the trail's count
abbrev pub left_by : State → Machine → State
left_by s m = state_of m.cells s.top m.trail m.trailed s.marks s.marked

-- after yes what the run leaves, after "no unifier" the state as at entry; and the work words 0 that a call may use
unfoldable pub answered : State → List ℕ → Ending → Result
answered s work (yes m) = (done 0, left_by s m, cleared (work_need s.top) work)
answered s work clashes = (failed, s, cleared (work_need s.top) work)
answered s work occurs = (failed, s, cleared (work_need s.top) work)
answered s work late = (failed, s, cleared (work_need s.top) work)

-- a refusal changes nothing
abbrev pub unless_refused : Answer → State → List ℕ → Result → Result
unless_refused (Ok tt) s work r = r
unless_refused (Err e) s work r = (refused e, s, work)

-- unify plainly
unfoldable pub plainly : State → List ℕ → ℕ → ℕ → Result
plainly s work a b = unless_refused (plain_check s work a b) s work (answered s work (unified false s a b))

-- unify checked
unfoldable pub checkedly : State → List ℕ → ℕ → ℕ → Result
checkedly s work a b = unless_refused (checked_check s work a b) s work (answered s work (unified true s a b))

-- the refusals of a call: of a checked one 6 too
abbrev pub check_by : Bool → State → List ℕ → ℕ → ℕ → Answer
check_by false = plain_check
check_by true = checked_check

-- a call: checked or plain
abbrev pub call_by : Bool → State → List ℕ → ℕ → ℕ → Result
call_by false = plainly
call_by true = checkedly
