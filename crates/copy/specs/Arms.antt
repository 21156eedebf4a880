-- What the arms of the code leave, as the rules say it.
use Rattle.std.specs.Prelude.{◌≡◌, ℕ, suc, ◌+◌, ◌-◌, ◌<◌, length, take, drop}
use Rattle.std.proofs.Math.Path.{refl, sym, ap}
use Rattle.std.proofs.Common.{◌∙◌, length-set, drop-set-lt}
use mathlib.Core.List.{List}
use native.Mathlib.Omega.{arith}
use Rattle.std.proofs.Math.Decide.{ℕ_discrete}
use Rattle.std.proofs.Math.ListN.{get_or, set}
use Rattle.std.proofs.Math.Seq.{get_or-take, take-set-lt}
use borrow.Author.Tests.{eq-eqb, ne_eqb}
use Rattle.cell.specs.declared.Kind.{Kind}
use Rattle.cell.specs.declared.Kind.TheVariants.{Var, Str, Lis, Atom, Fixnum, Bad}
use Rattle.cell.specs.Kinds.{kind_of, word_of_kind}
use Rattle.store.specs.Store.{end_of}
use Rattle.cycle.specs.Kids.{arity_at}
use Rattle.copy.specs.Rules.{State, table_words, home_at, structure_at, pair_at, end_kind, end_word, copy_run, run, homed, home, put, act, scan, scanned}
use Rattle.copy.specs.Whole.{scan_on}
use Rattle.copy.specs.Asks.{state_of, Can}

-- ---- the arms
module _ (cells work : List ℕ) (end : ℕ) where
  pub home_new : (i p : ℕ) → get_or work i 0 ≡ 0 → state_of cells (set work i p) end ≡ home (state_of cells work end) i p
  unfolding homed
  home_new i p z = rw (eq-eqb (get_or work i 0) 0 z)

  pub home_old : (i p : ℕ) → (get_or work i 0 ≡ 0 → ⊥) → state_of cells work end ≡ home (state_of cells work end) i p
  unfolding homed
  home_old i p z = rw (ne_eqb (get_or work i 0) 0 z)

  pub run_new : (i b n : ℕ) (c : List ℕ) → c ≡ copy_run n cells b end → get_or work i 0 ≡ 0 → state_of c (set work i end) (end + n) ≡ run (state_of cells work end) i b n
  unfolding run
  run_new i b n c e z = rw (eq-eqb (get_or work i 0) 0 z) (ap (λ (x : List ℕ). state_of x (set work i end) (end + n)) e)

  pub run_old : (i b n : ℕ) → (get_or work i 0 ≡ 0 → ⊥) → state_of cells work end ≡ run (state_of cells work end) i b n
  unfolding run
  run_old i b n z = rw (ne_eqb (get_or work i 0) 0 z)

  module _ (top p : ℕ) where
    module _ (c w : List ℕ) (e x : ℕ) (d : List ℕ) (at : d ≡ set c p x) where
      pub act_var : (v : ℕ) → state_of c w e ≡ home (state_of cells work end) (home_at top v) p → x ≡ word_of_kind (Var (get_or w (home_at top v) 0)) → (y : ℕ) → state_of d w e ≡ act top (state_of cells work end) p y (Var v)
      unfolding act put
      act_var v r k y =
          ap (λ (l : List ℕ). state_of l w e) (at ∙ ap (set c p) k)
          ∙ ap (λ (t : State). state_of (set t.cells p (word_of_kind (Var (get_or t.tables (home_at top v) 0)))) t.tables t.end) r

      pub act_str : (f : ℕ) → state_of c w e ≡ run (state_of cells work end) (structure_at top f) f (1 + arity_at cells f) → x ≡ word_of_kind (Str (get_or w (structure_at top f) 0)) → (y : ℕ) → state_of d w e ≡ act top (state_of cells work end) p y (Str f)
      unfolding act put
      act_str f r k y =
          ap (λ (l : List ℕ). state_of l w e) (at ∙ ap (set c p) k)
          ∙ ap (λ (t : State). state_of (set t.cells p (word_of_kind (Str (get_or t.tables f 0)))) t.tables t.end) r

      pub act_lis : (l : ℕ) → state_of c w e ≡ run (state_of cells work end) (pair_at top l) l 2 → x ≡ word_of_kind (Lis (get_or w (pair_at top l) 0)) → (y : ℕ) → state_of d w e ≡ act top (state_of cells work end) p y (Lis l)
      unfolding act put
      act_lis l r k y =
          ap (λ (l : List ℕ). state_of l w e) (at ∙ ap (set c p) k)
          ∙ ap (λ (t : State). state_of (set t.cells p (word_of_kind (Lis (get_or t.tables (pair_at top l) 0)))) t.tables t.end) r

    -- an Atom, a Fixnum: the word itself
    pub act_plain : (w : ℕ) (d : List ℕ) (k : Kind) → ((v : ℕ) → k ≡ Var v → ⊥) → ((f : ℕ) → k ≡ Str f → ⊥) → ((l : ℕ) → k ≡ Lis l → ⊥) → d ≡ set cells p w → state_of d work end ≡ act top (state_of cells work end) p w k
    unfolding act put
    act_plain w d (Var v) no_var no_str no_lis e = absurd (no_var v refl)
    act_plain w d (Str v) no_var no_str no_lis e = absurd (no_str v refl)
    act_plain w d (Lis v) no_var no_str no_lis e = absurd (no_lis v refl)
    act_plain w d (Atom n a) no_var no_str no_lis e = ap (λ (l : List ℕ). state_of l work end) e
    act_plain w d (Fixnum z) no_var no_str no_lis e = ap (λ (l : List ℕ). state_of l work end) e
    act_plain w d Bad no_var no_str no_lis e = ap (λ (l : List ℕ). state_of l work end) e

-- ---- tables that are the front of a longer list
module _ (cells work : List ℕ) (top end p : ℕ) where
  abbrev taken : State → State
  taken t = state_of t.cells (take (table_words top) t.tables) t.end

  run_front : (i b n : ℕ) → i < top + top → run (state_of cells (take (table_words top) work) end) i b n ≡ taken (run (state_of cells work end) i b n)
  unfolding run
  run_front i b n h =
      let g = get_or-take (table_words top) work i 0 (omega arith) in
      elim (ℕ_discrete (get_or work i 0) 0) [
        | yes z ↦ rw (g, eq-eqb (get_or work i 0) 0 z) (ap (λ (t : List ℕ). state_of (copy_run n cells b end) t (end + n)) (sym (take-set-lt (table_words top) work i end (omega arith))))
        | no z ↦ rw (g, ne_eqb (get_or work i 0) 0 z)
      ]

  home_front : (i : ℕ) → i < table_words top → homed (take (table_words top) work) i p ≡ take (table_words top) (homed work i p)
  unfolding homed
  home_front i h =
      let g = get_or-take (table_words top) work i 0 h in
      elim (ℕ_discrete (get_or work i 0) 0) [
        | yes z ↦ rw (g, eq-eqb (get_or work i 0) 0 z) (sym (take-set-lt (table_words top) work i p h))
        | no z ↦ rw (g, ne_eqb (get_or work i 0) 0 z)
      ]

  pub act_front : (w : ℕ) (k : Kind) → Can cells work top end k → act top (state_of cells (take (table_words top) work) end) p w k ≡ taken (act top (state_of cells work end) p w k)
  unfolding act put
  act_front w (Var v) c =
      let l = c.0 in
      let i = home_at top v in
      ap (λ (t : List ℕ). state_of (set cells p (word_of_kind (Var (get_or t i 0)))) t end) (home_front i (omega arith))
      ∙ ap (λ (x : ℕ). state_of (set cells p (word_of_kind (Var x))) (take (table_words top) (homed work i p)) end) (get_or-take (table_words top) (homed work i p) i 0 (omega arith))
  act_front w (Str f) c =
      let l = c.index in
      let t = run (state_of cells work end) f f (1 + arity_at cells f) in
      ap (λ (t : State). state_of (set t.cells p (word_of_kind (Str (get_or t.tables f 0)))) t.tables t.end) (run_front f f (1 + arity_at cells f) c.index)
      ∙ ap (λ (x : ℕ). state_of (set t.cells p (word_of_kind (Str x))) (take (table_words top) t.tables) t.end) (get_or-take (table_words top) t.tables f 0 (omega arith))
  act_front w (Lis m) c =
      let l = c.index in
      let t = run (state_of cells work end) (top + m) m 2 in
      ap (λ (t : State). state_of (set t.cells p (word_of_kind (Lis (get_or t.tables (top + m) 0)))) t.tables t.end) (run_front (top + m) m 2 c.index)
      ∙ ap (λ (x : ℕ). state_of (set t.cells p (word_of_kind (Lis x))) (take (table_words top) t.tables) t.end) (get_or-take (table_words top) t.tables (top + m) 0 (omega arith))
  act_front w (Atom n a) c = refl
  act_front w (Fixnum z) c = refl
  act_front w Bad c = refl

  -- behind the tables nothing changes
  run_behind : (i b n : ℕ) → i < top + top → drop (table_words top) (run (state_of cells work end) i b n).tables ≡ drop (table_words top) work
  unfolding run
  run_behind i b n h =
      elim (ℕ_discrete (get_or work i 0) 0) [
        | yes z ↦ rw (eq-eqb (get_or work i 0) 0 z) (drop-set-lt (table_words top) work i end (omega arith))
        | no z ↦ rw (ne_eqb (get_or work i 0) 0 z)
      ]

  home_behind : (i : ℕ) → i < table_words top → drop (table_words top) (homed work i p) ≡ drop (table_words top) work
  unfolding homed
  home_behind i h =
      elim (ℕ_discrete (get_or work i 0) 0) [
        | yes z ↦ rw (eq-eqb (get_or work i 0) 0 z) (drop-set-lt (table_words top) work i p h)
        | no z ↦ rw (ne_eqb (get_or work i 0) 0 z)
      ]

  pub act_behind : (w : ℕ) (k : Kind) → Can cells work top end k → drop (table_words top) (act top (state_of cells work end) p w k).tables ≡ drop (table_words top) work
  unfolding act put
  act_behind w (Var v) c = let l = c.0 in home_behind (home_at top v) (omega arith)
  act_behind w (Str f) c = run_behind f f (1 + arity_at cells f) c.index
  act_behind w (Lis m) c = run_behind (top + m) m 2 c.index
  act_behind w (Atom n a) c = refl
  act_behind w (Fixnum z) c = refl
  act_behind w Bad c = refl

  -- nor how many words they have
  run_long : (i b n : ℕ) → length (run (state_of cells work end) i b n).tables ≡ length work
  unfolding run
  run_long i b n =
      elim (ℕ_discrete (get_or work i 0) 0) [
        | yes z ↦ rw (eq-eqb (get_or work i 0) 0 z) (length-set work i end)
        | no z ↦ rw (ne_eqb (get_or work i 0) 0 z)
      ]

  home_long : (i : ℕ) → length (homed work i p) ≡ length work
  unfolding homed
  home_long i =
      elim (ℕ_discrete (get_or work i 0) 0) [
        | yes z ↦ rw (eq-eqb (get_or work i 0) 0 z) (length-set work i p)
        | no z ↦ rw (ne_eqb (get_or work i 0) 0 z)
      ]

  pub act_long : (w : ℕ) (k : Kind) → length (act top (state_of cells work end) p w k).tables ≡ length work
  unfolding act put
  act_long w (Var v) = home_long (home_at top v)
  act_long w (Str f) = run_long f f (1 + arity_at cells f)
  act_long w (Lis m) = run_long (top + m) m 2
  act_long w (Atom n a) = refl
  act_long w (Fixnum z) = refl
  act_long w Bad = refl

-- ---- the cell where a scanned cell ends
module _ (s : List ℕ) (top w : ℕ) where
  pub end_var : (v e : ℕ) → kind_of w ≡ Var v → e ≡ end_of s top v → get_or s e 0 ≡ end_word s top w
  unfolding end_word end_kind
  end_var v e q d = ap (λ (j : ℕ). get_or s j 0) d ∙ sym (ap (end_kind s top w) q)

  pub end_other : (k : Kind) → k ≡ kind_of w → ((v : ℕ) → k ≡ Var v → ⊥) → w ≡ end_word s top w
  unfolding end_word end_kind
  end_other k q h = go k h ∙ ap (end_kind s top w) q
    where
      go : (k : Kind) → ((v : ℕ) → k ≡ Var v → ⊥) → w ≡ end_kind s top w k
      go (Var v) h = absurd (h v refl)
      go (Str v) h = refl
      go (Lis v) h = refl
      go (Atom n a) h = refl
      go (Fixnum z) h = refl
      go Bad h = refl

-- ---- one turn of the scan
pub scan_turn : (top n p : ℕ) (t u : State) → p < t.end → u ≡ scanned top t p → scan top (suc n) p t ≡ scan top n (p + 1) u
scan_turn top n p t u h q = scan_on top n p t h ∙ ap (scan top n (p + 1)) (sym q)

pub scanned_is : (top p w : ℕ) (t : State) → w ≡ end_word t.cells top (get_or t.cells p 0) → act top t p w (kind_of w) ≡ scanned top t p
unfolding scanned
scanned_is top p w t e = rw e

-- ---- a run, by a loop
pub run_none : (c : List ℕ) (b to : ℕ) → copy_run 0 c b to ≡ c
unfolding copy_run
run_none c b to = refl

pub run_more : (n k : ℕ) (c : List ℕ) (b to : ℕ) → k < n → copy_run (n - k) c (b + k) (to + k) ≡ copy_run (n - (k + 1)) (set c (to + k) (get_or c (b + k) 0)) (b + (k + 1)) (to + (k + 1))
unfolding copy_run
run_more n k c b to h =
    let z : n - k ≡ suc (n - (k + 1)) = omega arith in
    let y : b + (k + 1) ≡ suc (b + k) = omega arith in
    let x : to + (k + 1) ≡ suc (to + k) = omega arith in
    rw (z, y, x)
