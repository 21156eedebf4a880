-- The verdict and the room, computed on small heaps by the definitions alone: a table, with the answers beside each heap.
use Rattle.std.specs.Prelude.{◌≡◌, refl, Bool, true, false, List, [], ◌∷◌, map, ℕ, length, Ok, Err, Result}
use Rattle.cell.specs.Kinds.{kind_of, by_tag, word_of_kind}
use Rattle.cell.specs.declared.Kind.{Kind}
use Rattle.cell.specs.declared.Kind.TheVariants.{Var, Str, Lis, Atom}
use Rattle.cell.specs.declared.Refusal.{Refusal}
use Rattle.cell.specs.declared.Refusal.TheVariants.{Cells, Root}
use Rattle.store.specs.All.{all_from}
use Rattle.store.specs.Store.{is_header, is_atom, term_at, atom_at, run_at, keeps, step, step_kind, steps, ends_at, zero_from, cells_keep, cells_end, well_formed}
use Rattle.cycle.specs.Some.{some_below}
use Rattle.cycle.specs.Sum.{sum_from}
use Rattle.cycle.specs.Kids.{arity_kind, arity_at, deg_kind, deg, kid_kind, kid, head_kind, head, pair_kind, pair}
use Rattle.cycle.specs.Verdict.{paths, cyclic_at, verdict_of}
use Rattle.cycle.specs.Room.{reaches, str_reached, lis_reached, run_room, room_from, room_by, room_of}

-- cell 0, and a cell of each kind given
abbrev heap : List Kind → List ℕ
heap ks = 0 ∷ map word_of_kind ks

abbrev asked : List Kind × ℕ → Result Bool Refusal × ℕ
asked c = (verdict_of (heap c.0) (length (heap c.0)) c.1, room_of (heap c.0) (length (heap c.0)) c.1)

abbrev heaps : List (List Kind × ℕ)
heaps =
    -- g(X), and g(g(g(..)))
    (Str 2 ∷ Atom 103 1 ∷ Var 3 ∷ [], 1)
    ∷ (Str 2 ∷ Atom 103 1 ∷ Str 2 ∷ [], 1)
    -- a pair that both arguments share, and a pair whose second cell leads back
    ∷ (Str 2 ∷ Atom 104 2 ∷ Lis 5 ∷ Lis 5 ∷ Atom 97 0 ∷ Atom 1114112 0 ∷ [], 1)
    ∷ (Lis 2 ∷ Atom 97 0 ∷ Lis 2 ∷ [], 1)
    -- an Atom cell that is both a structure and a pair's first cell
    ∷ (Lis 2 ∷ Lis 4 ∷ Str 4 ∷ Atom 97 0 ∷ Atom 1114112 0 ∷ [], 1)
    ∷ []

answers : map asked heaps ≡ (Ok false, 3) ∷ (Ok true, 3) ∷ (Ok false, 6) ∷ (Ok true, 3) ∷ (Ok false, 6) ∷ []
unfolding word_of_kind kind_of by_tag all_from is_header is_atom term_at atom_at run_at keeps step step_kind steps ends_at zero_from cells_keep cells_end well_formed some_below sum_from arity_kind arity_at deg_kind deg kid_kind kid head_kind head pair_kind pair paths cyclic_at verdict_of reaches str_reached lis_reached run_room room_from room_by room_of
answers = refl

-- cell 0 as a root, a header as a root, a ring of Vars
refusals : map (λ (c : List Kind × ℕ). (asked c).0) ((Str 2 ∷ Atom 103 1 ∷ Var 3 ∷ [], 0) ∷ (Str 2 ∷ Atom 103 1 ∷ Var 3 ∷ [], 2) ∷ (Var 2 ∷ Var 1 ∷ [], 1) ∷ []) ≡ Err Root ∷ Err Root ∷ Err Cells ∷ []
unfolding word_of_kind kind_of by_tag all_from is_header is_atom term_at atom_at run_at keeps step step_kind steps ends_at zero_from cells_keep cells_end well_formed some_below arity_kind arity_at deg_kind deg kid_kind kid paths cyclic_at verdict_of
refusals = refl
