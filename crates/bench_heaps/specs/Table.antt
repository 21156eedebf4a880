-- The bench heaps P1 to P10 as a single table, which proofs/Table.antt computes and proves. A row has its name, every lent word before the call, the call, what it answers, and every lent word after it; P2 and P3 go on with the words that P1 leaves.
use Rattle.std.specs.Prelude.{List, [], ◌∷◌, ◌++◌, map, ℕ, ◌+◌, ◌-◌, pos, length, replicate}
use Prim.Native.String.{String}
use Rattle.cell.specs.Kinds.{word_of_kind}
use Rattle.cell.specs.declared.Kind.{Kind}
use Rattle.cell.specs.declared.Kind.TheVariants.{Var, Str, Lis, Atom, Fixnum}
use Rattle.trail.specs.State.{state_of}
use Rattle.chains.specs.Work.{work_need}
use Rattle.histories.specs.Calls.{Lent, lent}
use Rattle.bench_heaps.specs.Row.{plain, checked, copy, cycle, Answer, Yes, No, At, Refusal, Row, row}

-- ---- atoms and functors, by their names' code points
abbrev pub a : Kind
a = Atom 97 0

abbrev pub nil : Kind
nil = Atom 1_114_112 0

abbrev pub dot/2 : Kind
dot/2 = Atom 46 2

abbrev pub f/2 : Kind
f/2 = Atom 102 2

abbrev pub g/1 : Kind
g/1 = Atom 103 1

abbrev pub h/2 : Kind
h/2 = Atom 104 2

-- ---- heaps, from cell 1 on
-- B
abbrev pub B : List Kind
B = Str 2 ∷ g/1 ∷ Var 3 ∷ []

-- P10: both arguments name one pair
abbrev pub pairs : List Kind
pairs = Str 2 ∷ h/2 ∷ Lis 5 ∷ Lis 5 ∷ a ∷ nil ∷ []

-- ---- what is lent
-- the word 0, the heap and `free` free cells; these entries in a trail of two words; two mark words and no mark; and the work words
abbrev pub store : List Kind → ℕ → List ℕ → List ℕ → Lent
store heap free entries work =
    lent
    (state_of (0 ∷ map word_of_kind heap ++ replicate free 0) (1 + length heap) (entries ++ replicate (2 - length entries) 0) (length entries) (replicate 2 0) 0)
    work

-- as many work words as a call wants, 12 x `top`, and one more, all 5
abbrev pub fives : ℕ → List ℕ
fives top = replicate (work_need top + 1) 5

-- those that a call wants are 0, and the rest is unchanged
abbrev pub zeros : ℕ → List ℕ
zeros top = replicate (work_need top) 0 ++ 5 ∷ []

-- after P1: cell 3 is Str 2, and the trail has 3
abbrev pub after_p1 : Lent
after_p1 = store (Str 2 ∷ g/1 ∷ Str 2 ∷ []) 0 (3 ∷ []) (zeros 4)

-- ---- the table
-- a row for plain and a row for checked unification, where both are meant
abbrev pub alike : String → Lent → ℕ → ℕ → Answer → Lent → List Row
alike name before x y answer after = row name before (plain x y) answer after ∷ row name before (checked x y) answer after ∷ []

-- P1 to P10, in order
unfoldable pub table : List Row
table =
    row "P1" (store B 0 [] (fives 4)) (plain 1 3) Yes after_p1
    ∷ row "P2" after_p1 (cycle 1) Yes after_p1
    ∷ row "P3" after_p1 (checked 1 3) (Refusal 6) after_p1
    ∷ row "P4" (store B 0 [] (fives 4)) (checked 1 3) No (store B 0 [] (zeros 4))
    ∷ row "P5" (store B 3 [] (fives 4)) (copy 1) (At 4) (store (B ++ Str 5 ∷ g/1 ∷ Var 6 ∷ []) 0 [] (zeros 4))
    ∷ alike "P6" (store (Var 1 ∷ Var 2 ∷ []) 0 [] (fives 3)) 1 2 Yes (store (Var 1 ∷ Var 1 ∷ []) 0 (2 ∷ []) (zeros 3))
    ++ alike "P6" (store (Var 1 ∷ Var 2 ∷ []) 0 [] (fives 3)) 2 1 Yes (store (Var 1 ∷ Var 1 ∷ []) 0 (2 ∷ []) (zeros 3))
    ++ alike "P7"
    (store (Str 2 ∷ f/2 ∷ Var 3 ∷ a ∷ Str 6 ∷ f/2 ∷ Fixnum (pos 7) ∷ Var 8 ∷ []) 0 [] (fives 9))
    1 5 Yes
    (store (Str 2 ∷ f/2 ∷ Fixnum (pos 7) ∷ a ∷ Str 6 ∷ f/2 ∷ Fixnum (pos 7) ∷ a ∷ []) 0 (3 ∷ 8 ∷ []) (zeros 9))
    ++ alike "P8"
    (store (Str 2 ∷ dot/2 ∷ a ∷ nil ∷ Lis 6 ∷ a ∷ nil ∷ []) 0 [] (fives 8))
    1 5 Yes
    (store (Str 2 ∷ dot/2 ∷ a ∷ nil ∷ Lis 6 ∷ a ∷ nil ∷ []) 0 [] (zeros 8))
    ++ alike "P9" (store (Str 2 ∷ a ∷ a ∷ []) 0 [] (fives 4)) 1 3 Yes (store (Str 2 ∷ a ∷ a ∷ []) 0 [] (zeros 4))
    ++ row "P10" (store pairs 6 [] (fives 7)) (copy 1) (At 7) (store (pairs ++ Str 8 ∷ h/2 ∷ Lis 11 ∷ Lis 11 ∷ a ∷ nil ∷ []) 0 [] (zeros 7))
    ∷ []
