-- A run worked out by computation, and by the promise: with a cut, a failed unification, refused calls, two rollbacks, copies and both kinds of unification; and with a mark's number given again after the cut.
use Rattle.std.specs.Prelude.{◌≡◌, refl, true, false, List, [], ◌∷◌, ◌++◌, map, ℕ, replicate}
use Rattle.std.proofs.Common.{arith}
use Rattle.cell.specs.Kinds.{kind_of, by_tag, word_of_kind}
use Rattle.cell.specs.declared.Kind.{Kind}
use Rattle.cell.specs.declared.Kind.TheVariants.{Var, Str, Atom}
use Rattle.cell.specs.declared.Refusal.TheVariants.{Work, Words, Mark}
use Rattle.store.specs.All.{all_from}
use Rattle.store.specs.Zeros.{zeroed}
use Rattle.store.specs.Store.{is_header, is_atom, term_at, atom_at, run_at, keeps, step, step_kind, steps, ends_at, zero_from, cells_keep, cells_end, well_formed}
use Rattle.trail.specs.Rules.{names_bound, entry_new, trail_used, trail_good, top_before, trail_before, rises, mark_good, marks_good}
use Rattle.trail.specs.State.{State, state_of, done, failed, refused, check_of}
use Rattle.append.specs.Laid.{front, laid}
use Rattle.append.specs.Calls.{appending}
use Rattle.marks.specs.Unbind.{unbind}
use Rattle.marks.specs.Calls.{marking, cutting, roll_check, rolling}
use Rattle.cycle.specs.Some.{some_below}
use Rattle.cycle.specs.Sum.{sum_from}
use Rattle.cycle.specs.Kids.{arity_kind, arity_at, deg_kind, deg, kid_kind, kid, head_kind, head, pair_kind, pair}
use Rattle.cycle.specs.Verdict.{paths, cyclic_at}
use Rattle.cycle.specs.Room.{reaches, str_reached, lis_reached, run_room, room_from, room_by, room_of}
use Rattle.terms.specs.View.{str_view, view_kind}
use Rattle.chains.specs.Work.{cleared}
use Rattle.unification.specs.Machine.{rule, act_of, is_compound, stopped, unified}
use Rattle.unification.specs.Machine as Machine
use Rattle.unification.specs.Calls.{unbound, plain_check, checked_check, plainly, checkedly}
use Rattle.unification.specs.Calls as Unify
use Rattle.copy.specs.Rules.{copied, scan, scanned, act, homed, put, copy_run, end_word, end_kind}
use Rattle.copy.specs.Rules as Rules
use Rattle.copy.specs.Calls.{copying}
use Rattle.replay.specs.History.{Call, append, mark, unify, copy, cut, rollback, Trace, start, ◌▸◌, calls, sets, Line, line, strike_back, write, logbook, unstruck}
use Rattle.histories.specs.Calls.{Lent, lent, Lengths, calling, after, answered}
use Rattle.histories.specs.Demand3.{rest}
use Rattle.histories.proofs.Demand3.{demand_3}

-- the words of these kinds
abbrev words : List Kind → List ℕ
words = map word_of_kind

-- ten cells, three trail entries and two marks are lent, and 72 work words: enough for six used cells
abbrev lengths : Lengths
lengths = record { cells = 10; trail = 3; marks = 4 }

-- the logbook of a run: each call, what it answers, and whether it is struck
abbrev book : Trace Line
book =
    start
    -- X and Y, and Y = X past mark 1
    ▸ line (append (words (Var 1 ∷ Var 2 ∷ []))) (done 1) false
    ▸ line mark (done 1) false
    ▸ line (unify false 1 2) (done 0) false
    ▸ line mark (done 2) false
    -- g(X): X = g(X) fails; after a copy of g(X) the work buffer is too short to unify; and a Var that names no cell is no word to append
    ▸ line (append (words (Str 4 ∷ Atom 103 1 ∷ Var 1 ∷ []))) (done 3) true
    ▸ line (unify true 1 3) failed true
    ▸ line (copy 3) (done 6) true
    ▸ line (unify false 6 3) (refused Work) true
    ▸ line (append (words (Var 99 ∷ []))) (refused Words) true
    ▸ line (rollback 2) (done 0) true
    -- a; then no mark stands, and the next has number 1 again
    ▸ line (append (words (Atom 97 0 ∷ []))) (done 3) false
    ▸ line (cut 0) (done 0) false
    ▸ line mark (done 1) false
    -- Y = a binds X, and that is undone; Y = X, which came before this mark 1, is not
    ▸ line (unify true 3 2) (done 0) true
    ▸ line (rollback 2) (refused Mark) true
    ▸ line (rollback 1) (done 0) true
    -- a copy of Y, a new unbound variable; and Y = a again
    ▸ line (copy 2) (done 4) false
    ▸ line (unify true 2 3) (done 0) false

-- the calls of a logbook, struck or not
abbrev asked : Trace Line → Trace Call
asked start = start
asked (h ▸ l) = asked h ▸ l.event.call

-- the cells, trail and marks that the run leaves
abbrev left : State
left = state_of (0 ∷ words (Atom 97 0 ∷ Var 1 ∷ Atom 97 0 ∷ Var 4 ∷ []) ++ replicate 5 0) 5 (2 ∷ 1 ∷ 0 ∷ []) 2 (4 ∷ 1 ∷ 0 ∷ 0 ∷ []) 1

-- the run, with a work buffer of nines, and the replay of what is not struck, with one of sevens; computed
worked : ◌≡◌ {A = Trace Line × Lent × Lent}
    (logbook (answered lengths (replicate 72 9) (asked book)), after lengths (replicate 72 9) (asked book), after lengths (replicate 72 7) (calls (unstruck book)))
    (book, lent left (replicate 72 0), lent left (replicate 60 0 ++ replicate 12 7))
unfolding sets strike_back write logbook unstruck calls calling after answered word_of_kind kind_of by_tag all_from is_header is_atom term_at atom_at run_at keeps step step_kind steps ends_at zero_from cells_keep cells_end well_formed names_bound entry_new trail_used trail_good top_before trail_before rises mark_good marks_good check_of zeroed front laid appending unbind marking cutting roll_check rolling some_below sum_from arity_kind arity_at deg_kind deg kid_kind kid head_kind head pair_kind pair paths cyclic_at reaches str_reached lis_reached run_room room_from room_by room_of str_view view_kind rule act_of is_compound stopped Machine.run unified unbound cleared plain_check checked_check Unify.answered plainly checkedly copying copied scan scanned act Rules.run homed put copy_run end_word end_kind
worked = refl

-- the same by the promise
promised : (after lengths (replicate 72 7) (calls (rest lengths (replicate 72 9) (asked book)))).state ≡ (after lengths (replicate 72 9) (asked book)).state
promised = (demand_3 lengths (omega arith) (replicate 72 9) (asked book)).same (replicate 72 7) refl
