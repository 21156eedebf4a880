-- Copies computed by the definition alone: heaps P5 and P10 of the bench, and a cell that is a functor cell and a pair's first cell at once; and the refusals. A table, with what is left beside each heap.
use Rattle.std.specs.Prelude.{◌≡◌, refl, List, [], ◌∷◌, ◌++◌, map, ℕ, ◌+◌, length, take, drop, replicate}
use Rattle.cell.specs.declared.Kind.{Kind}
use Rattle.cell.specs.declared.Kind.TheVariants.{Var, Str, Lis, Atom}
use Rattle.cell.specs.declared.Refusal.TheVariants.{Cells, Root, Work, Room}
use Rattle.cell.specs.Kinds.{kind_of, by_tag, word_of_kind}
use Rattle.store.specs.All.{all_from}
use Rattle.store.specs.Store.{is_header, is_atom, term_at, atom_at, run_at, keeps, step, step_kind, steps, ends_at, zero_from, cells_keep, cells_end, well_formed}
use Rattle.trail.specs.State.{Outcome, done, refused}
use Rattle.cycle.specs.Some.{some_below}
use Rattle.cycle.specs.Sum.{sum_from}
use Rattle.cycle.specs.Kids.{arity_kind, arity_at, deg_kind, deg, kid_kind, kid, head_kind, head, pair_kind, pair}
use Rattle.cycle.specs.Room.{reaches, str_reached, lis_reached, run_room, room_from, room_by, room_of}
use Rattle.copy.specs.Rules.{end_kind, end_word, copy_run, run, homed, put, act, scanned, scan, copied}
use Rattle.copy.specs.Calls.{lent, copying}
use Rattle.chains.specs.Work.{cleared}

abbrev words : List Kind → List ℕ
words = map word_of_kind

-- cell 0, a cell of each kind given, and room for six more
abbrev heap : List Kind → List ℕ
heap ks = 0 ∷ words ks ++ replicate 6 0

-- what a copy at a root answers; the cells after the old ones, the new count, and words 82 to 84 of a work buffer of 85 words that were all 9
abbrev asked : List Kind × ℕ → Outcome × List ℕ × ℕ × List ℕ
asked c =
    let top = 1 + length c.0 in
    let r = copying (lent (heap c.0) top (replicate 85 9)) c.1 in
    (r.0, drop top r.1.cells, r.1.top, take 3 (drop 82 r.1.work))

abbrev heaps : List (List Kind × ℕ)
heaps =
    -- P5 and P10
    (Str 2 ∷ Atom 103 1 ∷ Var 3 ∷ [], 1)
    ∷ (Str 2 ∷ Atom 104 2 ∷ Lis 5 ∷ Lis 5 ∷ Atom 97 0 ∷ Atom 1114112 0 ∷ [], 1)
    -- both tables
    ∷ (Lis 2 ∷ Lis 4 ∷ Str 4 ∷ Atom 97 0 ∷ Atom 1114112 0 ∷ [], 1)
    -- a ring of Vars, a header as the root, a work buffer that is too short, no room for eight cells
    ∷ (Var 2 ∷ Var 1 ∷ [], 1)
    ∷ (Str 2 ∷ Atom 103 1 ∷ Var 3 ∷ [], 2)
    ∷ (Str 2 ∷ Atom 104 2 ∷ Lis 5 ∷ Lis 6 ∷ Atom 97 0 ∷ Atom 98 0 ∷ Atom 1114112 0 ∷ [], 1)
    ∷ (Str 2 ∷ Atom 104 2 ∷ Lis 4 ∷ Lis 5 ∷ Atom 97 0 ∷ Atom 1114112 0 ∷ [], 1)
    ∷ []

computed : map asked heaps
    ≡ (done 4, words (Str 5 ∷ Atom 103 1 ∷ Var 6 ∷ []) ++ replicate 3 0, 7, 9 ∷ 9 ∷ 9 ∷ [])
    ∷ (done 7, words (Str 8 ∷ Atom 104 2 ∷ Lis 11 ∷ Lis 11 ∷ Atom 97 0 ∷ Atom 1114112 0 ∷ []), 13, 0 ∷ 0 ∷ 9 ∷ [])
    ∷ (done 6, words (Lis 7 ∷ Lis 9 ∷ Str 11 ∷ Atom 97 0 ∷ Atom 1114112 0 ∷ Atom 97 0 ∷ []), 12, 9 ∷ 9 ∷ 9 ∷ [])
    ∷ (refused Cells, replicate 6 0, 3, 9 ∷ 9 ∷ 9 ∷ [])
    ∷ (refused Root, replicate 6 0, 4, 9 ∷ 9 ∷ 9 ∷ [])
    ∷ (refused Work, replicate 6 0, 8, 9 ∷ 9 ∷ 9 ∷ [])
    ∷ (refused Room, replicate 6 0, 7, 9 ∷ 9 ∷ 9 ∷ [])
    ∷ []
unfolding copying cleared copied scan scanned act run homed put copy_run end_word end_kind word_of_kind kind_of by_tag all_from is_header is_atom term_at atom_at run_at keeps step step_kind steps ends_at zero_from cells_keep cells_end well_formed some_below sum_from arity_kind arity_at deg_kind deg kid_kind kid head_kind head pair_kind pair reaches str_reached lis_reached run_room room_from room_by room_of
computed = refl
