-- The bench heaps that are unified, computed by the definitions alone: a table of calls, and their results.
use Rattle.std.specs.Prelude.{◌≡◌, refl, Bool, true, false, cond, List, [], ◌∷◌, map, ℕ, ◌+◌, pos, length, replicate}
use Rattle.cell.specs.Kinds.{kind_of, by_tag, word_of_kind}
use Rattle.cell.specs.Fixnum.{to_number, of_number}
use Rattle.cell.specs.declared.Kind.{Kind}
use Rattle.cell.specs.declared.Kind.TheVariants.{Var, Str, Lis, Atom, Fixnum}
use Rattle.cell.specs.declared.Refusal.TheVariants.{Cycle}
use Rattle.store.specs.All.{all_from}
use Rattle.store.specs.Store.{is_header, is_atom, term_at, atom_at, run_at, keeps, step, step_kind, steps, ends_at, zero_from, cells_keep, cells_end, well_formed}
use Rattle.trail.specs.Rules.{names_bound, entry_new, trail_used, trail_good, top_before, trail_before, rises, mark_good, marks_good}
use Rattle.trail.specs.State.{State, state_of, Outcome, done, failed, refused, check_of}
use Rattle.cycle.specs.Some.{some_below}
use Rattle.cycle.specs.Sum.{sum_from}
use Rattle.cycle.specs.Kids.{arity_kind, arity_at, deg_kind, deg, kid_kind, kid}
use Rattle.cycle.specs.Verdict.{paths, cyclic_at}
use Rattle.cycle.specs.Room.{reaches}
use Rattle.terms.specs.View.{str_view, view_kind, fun_kind, behind}
use Rattle.unification.specs.Machine.{same_number, same_constant, same_fun, rule, merge, args, act_of, is_compound, stopped, run, unified}
use Rattle.chains.specs.Work.{work_need, cleared}
use Rattle.unification.specs.Calls.{Result, unbound, plain_check, checked_check, answered, plainly, checkedly}

-- cell 0, and a cell of each kind given
abbrev heap : List Kind → List ℕ
heap ks = 0 ∷ map word_of_kind ks

-- a store of these cells, with room for three entries
abbrev store : List Kind → State
store ks = state_of (heap ks) (length (heap ks)) (replicate 3 0) 0 [] 0

-- a call with as many work words as it takes, and one more; checked where the first is true
abbrev called : Bool × State × ℕ × ℕ → Result
called c = cond c.0 checkedly plainly c.1 (replicate (work_need c.1.top + 1) 5) c.2 c.3

-- the answer, the cells, the trail and its count
abbrev told : Result → Outcome × List ℕ × List ℕ × ℕ
told r = (r.0, r.1.cells, r.1.trail, r.1.trailed)

-- g(X)
abbrev B : List Kind
B = Str 2 ∷ Atom 103 1 ∷ Var 3 ∷ []

abbrev bound_b : List Kind
bound_b = Str 2 ∷ Atom 103 1 ∷ Str 2 ∷ []

-- f(X, a), f(7, Y)
abbrev two : List Kind
two = Str 2 ∷ Atom 102 2 ∷ Var 3 ∷ Atom 97 0 ∷ Str 6 ∷ Atom 102 2 ∷ Fixnum (pos 7) ∷ Var 8 ∷ []

-- '.'(a, []) as a Str, and as a Lis
abbrev lists : List Kind
lists = Str 2 ∷ Atom 46 2 ∷ Atom 97 0 ∷ Atom 1114112 0 ∷ Lis 6 ∷ Atom 97 0 ∷ Atom 1114112 0 ∷ []

-- a, as a Str of arity 0, and as an atom
abbrev names : List Kind
names = Str 2 ∷ Atom 97 0 ∷ Atom 97 0 ∷ []

abbrev calls : List (Bool × State × ℕ × ℕ)
calls =
    -- P1; then P3
    (false, store B, 1, 3)
    ∷ (true, (called (false, store B, 1, 3)).1, 1, 3)
    -- P4
    ∷ (true, store B, 1, 3)
    -- P6, in both orders
    ∷ (false, store (Var 1 ∷ Var 2 ∷ []), 1, 2)
    ∷ (true, store (Var 1 ∷ Var 2 ∷ []), 2, 1)
    -- P7
    ∷ (true, store two, 1, 5)
    -- P8, in both orders
    ∷ (true, store lists, 1, 5)
    ∷ (false, store lists, 5, 1)
    -- P9
    ∷ (true, store names, 1, 3)
    -- one root twice
    ∷ (false, store bound_b, 1, 1)
    ∷ []

results : map (λ (c : Bool × State × ℕ × ℕ). told (called c)) calls ≡
    (done 0, heap bound_b, 3 ∷ 0 ∷ 0 ∷ [], 1)
    ∷ (refused Cycle, heap bound_b, 3 ∷ 0 ∷ 0 ∷ [], 1)
    ∷ (failed, heap B, 0 ∷ 0 ∷ 0 ∷ [], 0)
    ∷ (done 0, heap (Var 1 ∷ Var 1 ∷ []), 2 ∷ 0 ∷ 0 ∷ [], 1)
    ∷ (done 0, heap (Var 1 ∷ Var 1 ∷ []), 2 ∷ 0 ∷ 0 ∷ [], 1)
    ∷ (done 0, heap (Str 2 ∷ Atom 102 2 ∷ Fixnum (pos 7) ∷ Atom 97 0 ∷ Str 6 ∷ Atom 102 2 ∷ Fixnum (pos 7) ∷ Atom 97 0 ∷ []), 3 ∷ 8 ∷ 0 ∷ [], 2)
    ∷ (done 0, heap lists, 0 ∷ 0 ∷ 0 ∷ [], 0)
    ∷ (done 0, heap lists, 0 ∷ 0 ∷ 0 ∷ [], 0)
    ∷ (done 0, heap names, 0 ∷ 0 ∷ 0 ∷ [], 0)
    ∷ (done 0, heap bound_b, 0 ∷ 0 ∷ 0 ∷ [], 0)
    ∷ []
unfolding word_of_kind kind_of by_tag to_number of_number all_from is_header is_atom term_at atom_at run_at keeps step step_kind steps ends_at zero_from cells_keep cells_end well_formed names_bound entry_new trail_used trail_good top_before trail_before rises mark_good marks_good check_of some_below sum_from arity_kind arity_at deg_kind deg kid_kind kid paths cyclic_at reaches str_view view_kind fun_kind behind same_number same_constant same_fun rule merge args act_of is_compound stopped run unified unbound cleared plain_check checked_check answered plainly checkedly
results = refl

-- the work words after an answer, and after a refusal
works : map (λ (c : Bool × State × ℕ × ℕ). (called c).2) ((true, store B, 1, 3) ∷ (true, store bound_b, 1, 3) ∷ []) ≡ cleared 48 (replicate 49 5) ∷ replicate 49 5 ∷ []
unfolding word_of_kind kind_of by_tag to_number of_number all_from is_header is_atom term_at atom_at run_at keeps step step_kind steps ends_at zero_from cells_keep cells_end well_formed names_bound entry_new trail_used trail_good top_before trail_before rises mark_good marks_good check_of some_below sum_from arity_kind arity_at deg_kind deg kid_kind kid paths cyclic_at reaches str_view view_kind fun_kind behind same_number same_constant same_fun rule merge args act_of is_compound stopped run unified unbound cleared plain_check checked_check answered plainly checkedly
works = refl
