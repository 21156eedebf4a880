-- A row of the table: the words before, a call, what it answers, and every lent word after. What a row says is an equation; a test of all rows gives it of each.
use Rattle.std.specs.Prelude.{◌≡◌, refl, Bool, true, false, ◌&&◌, List, [], ◌∷◌, ℕ, eqb}
use Rattle.std.proofs.Math.Bool.{and-eq-true_iff}
use Rattle.std.proofs.lemmas.Bool.{false≢true}
use Prim.Native.String.{String}
use Rattle.std.proofs.Math.Decide.{ℕ_discrete}
use Rattle.std.proofs.Common.{eqb-true}
use Rattle.cell.specs.Answers.{refusal_number}
use Rattle.trail.specs.State.{State, Outcome, done, failed, refused, said_yes, same_state_lem}
use Rattle.cycle.specs.Verdict.{verdict_of}
use Rattle.unification.specs.Calls.{plainly, checkedly}
use Rattle.copy.specs.Calls as Copy
use Rattle.histories.specs.Calls.{Lent, lent, with, besides}

-- ---- calls and answers
-- the calls of the table, with their roots
pub data Asked : Type 0 where
  plain : ℕ → ℕ → Asked
  checked : ℕ → ℕ → Asked
  copy : ℕ → Asked
  cycle : ℕ → Asked

-- yes; no, or no unifier; the cell where a copy stands; a refusal by its number
pub data Answer : Type 0 where
  Yes : Answer
  No : Answer
  At : ℕ → Answer
  Refusal : ℕ → Answer
  deriving Discrete as answer_discrete

-- what plain and checked unification and the cycle verdict say
abbrev judged : Outcome → Answer
judged (done n) = Yes
judged failed = No
judged (refused r) = Refusal (refusal_number r)

-- what a copy says
abbrev placed : Outcome → Answer
placed (done n) = At n
placed failed = No
placed (refused r) = Refusal (refusal_number r)

-- the answer told in these words
abbrev telling : (Outcome → Answer) → Outcome × Lent → Answer × Lent
telling f r = (f r.0, r.1)

-- what a call answers, and all that is lent after it, by the calls' definitions
abbrev pub asking : Lent → Asked → Answer × Lent
asking l (plain x y) = telling judged (with (plainly l.state l.work x y))
asking l (checked x y) = telling judged (with (checkedly l.state l.work x y))
asking l (copy x) = telling placed (besides l.state (Copy.copying (Copy.lent l.state.cells l.state.top l.work) x))
asking l (cycle x) = telling judged (said_yes (verdict_of l.state.cells l.state.top x), l)

-- ---- rows
-- a name, all that is lent before, the call, its answer, and all that is lent after
pub record Row : Type 0 where
  pub name : String
  pub before : Lent
  pub call : Asked
  pub answer : Answer
  pub after : Lent

abbrev pub row : String → Lent → Asked → Answer → Lent → Row
row n b c a l = record { name = n; before = b; call = c; answer = a; after = l }

-- what a row says, and what all say
abbrev pub Says : Row → Type 0
Says r = asking r.before r.call ≡ (r.answer, r.after)

abbrev pub AllSay : List Row → Type 0
AllSay [] = Unit {0}
AllSay (r ∷ rs) = Says r × AllSay rs

-- ---- the test
-- word for word
abbrev pub same_words : List ℕ → List ℕ → Bool
same_words [] [] = true
same_words [] (y ∷ ys) = false
same_words (x ∷ xs) [] = false
same_words (x ∷ xs) (y ∷ ys) = eqb x y && same_words xs ys

-- the same words, and the same count of them
abbrev pub same_counted : List ℕ → ℕ → List ℕ → ℕ → Bool
same_counted xs n ys m = same_words xs ys && eqb n m

-- the cells, the trail and the marks with their counts
abbrev pub same_state : State → State → Bool
same_state s t =
    same_counted s.cells s.top t.cells t.top
    && same_counted s.trail s.trailed t.trail t.trailed
    && same_counted s.marks s.marked t.marks t.marked

-- and the work words
abbrev pub same_lent : Lent → Lent → Bool
same_lent l m = same_state l.state m.state && same_words l.work m.work

-- a decision as a test
abbrev holds_of : {P : Type 0} → Dec P → Bool
holds_of (yes p) = true
holds_of (no p) = false

unfoldable pub same_answer : Answer → Answer → Bool
unfolding ℕ_discrete
same_answer a b = holds_of (answer_discrete ℕ_discrete a b)

-- the call is computed, and its answer and all that is lent after it are compared
abbrev pub passes : Row → Bool
passes r = let o = asking r.before r.call in same_answer o.0 r.answer && same_lent o.1 r.after

unfoldable pub all_pass : List Row → Bool
all_pass [] = true
all_pass (r ∷ rs) = passes r && all_pass rs

-- ---- a test passed gives the equation
both : (a b : Bool) → (a && b) ≡ true → (a ≡ true) × (b ≡ true)
both a b = (and-eq-true_iff a b).0

words_true : (xs ys : List ℕ) → same_words xs ys ≡ true → xs ≡ ys
words_true [] [] e = refl
words_true [] (y ∷ ys) e = absurd (false≢true e)
words_true (x ∷ xs) [] e = absurd (false≢true e)
words_true (x ∷ xs) (y ∷ ys) e = let p = both (eqb x y) (same_words xs ys) e in λ i. eqb-true x y p.0 i ∷ words_true xs ys p.1 i

counted_true : (xs : List ℕ) (n : ℕ) (ys : List ℕ) (m : ℕ) → same_counted xs n ys m ≡ true → (xs ≡ ys) × (n ≡ m)
counted_true xs n ys m e = let p = both (same_words xs ys) (eqb n m) e in (words_true xs ys p.0, eqb-true n m p.1)

state_true : (s t : State) → same_state s t ≡ true → s ≡ t
state_true s t e =
    let p = both (same_counted s.cells s.top t.cells t.top && same_counted s.trail s.trailed t.trail t.trailed) (same_counted s.marks s.marked t.marks t.marked) e in
    let q = both (same_counted s.cells s.top t.cells t.top) (same_counted s.trail s.trailed t.trail t.trailed) p.0 in
    let c = counted_true s.cells s.top t.cells t.top q.0 in
    let r = counted_true s.trail s.trailed t.trail t.trailed q.1 in
    let m = counted_true s.marks s.marked t.marks t.marked p.1 in
    same_state_lem c.0 c.1 r.0 r.1 m.0 m.1

lent_true : (l m : Lent) → same_lent l m ≡ true → l ≡ m
lent_true l m e =
    let p = both (same_state l.state m.state) (same_words l.work m.work) e in
    λ i. lent (state_true l.state m.state p.0 i) (words_true l.work m.work p.1 i)

answer_true : (a b : Answer) → same_answer a b ≡ true → a ≡ b
unfolding same_answer
answer_true a b = go (answer_discrete ℕ_discrete a b)
  where
    go : (d : Dec (a ≡ b)) → holds_of d ≡ true → a ≡ b
    go (yes p) e = p
    go (no p) e = absurd (false≢true e)

row_true : (r : Row) → passes r ≡ true → Says r
row_true r e =
    let o = asking r.before r.call in
    let p = both (same_answer o.0 r.answer) (same_lent o.1 r.after) e in
    λ i. (answer_true o.0 r.answer p.0 i, lent_true o.1 r.after p.1 i)

-- of all rows at once
pub rows_true : (rs : List Row) → all_pass rs ≡ true → AllSay rs
unfolding all_pass
rows_true [] e = tt
rows_true (r ∷ rs) e = let p = both (passes r) (all_pass rs) e in (row_true r p.0, rows_true rs p.1)
