-- The rules of the trail, the marks and the whole store as facts: what a reader takes for their definition. Each is proved to be the same as its test in specs/Rules.antt.
use Rattle.std.specs.Prelude.{◌≡◌, Bool, true, false, ◌&&◌, cond, List, length, get_or, leb, ltb, eqb, Ok}
use Rattle.std.proofs.Math.Path.{refl, ap}
use Rattle.std.proofs.Common.{sym}
use Rattle.std.proofs.Math.Bool.{not, and-eq-true_iff}
use Prim.Native.Nat.{ℕ, zero, suc, ◌+◌, ◌*◌, ◌<◌, ◌≤◌}
use native.Mathlib.Omega.{arith}
use borrow.Author.Tests.{leb-true, le-leb, ltb-true, lt-ltb, eqb-false, ne_eqb, not-true}
use Rattle.store.specs.All.{all_holds, all_true}
use Rattle.store.specs.Store.{zero_from, well_formed}
use Rattle.store.specs.Zeros.{zeros, zeros_back}
use Rattle.trail.specs.Rules.{unbound_at, names_bound, entry_new, entry_keeps, trail_used, trail_good, mark_width, mark_top, mark_trail, top_before, trail_before, rises, mark_good, marks_good}
use Rattle.cell.specs.declared.Refusal.{Refusal}
use Rattle.trail.specs.State.{State, Outcome, refused, cells_hold, trail_holds, holds, check_of, need, ◌then◌, unless, check_done, check_passed}

-- ---- the trail
pub record TrailGood (cells : List ℕ) (top : ℕ) (trail : List ℕ) (trailed : ℕ) : Type 0 where
  -- the count fits the lent length
  pub fits : trailed ≤ length trail
  -- each entry is a used cell from 1 that is no unbound Var
  pub bound : (i : ℕ) → i < trailed → names_bound cells top (get_or trail i 0) ≡ true
  -- all are different
  pub apart : (i j : ℕ) → j < i → i < trailed → get_or trail j 0 ≡ get_or trail i 0 → ⊥
  -- the rest is 0
  pub rest : (i : ℕ) → trailed ≤ i → get_or trail i 0 ≡ 0

pub bound_used : (cells : List ℕ) (top e : ℕ) → names_bound cells top e ≡ true → (1 ≤ e) × (e < top)
unfolding names_bound
bound_used cells top e h =
    let a = ((and-eq-true_iff (leb 1 e && ltb e top) _).0 h).0 in
    let b = (and-eq-true_iff (leb 1 e) (ltb e top)).0 a in
    (leb-true 1 e b.0, ltb-true e top b.1)

pub bound_free : (cells : List ℕ) (top e : ℕ) → names_bound cells top e ≡ true → not (unbound_at cells e) ≡ true
unfolding names_bound
bound_free cells top e h = ((and-eq-true_iff (leb 1 e && ltb e top) (not (unbound_at cells e))).0 h).1

-- where the old cells are the same and there are more, an entry keeps its rule
pub names_over : (cells cs : List ℕ) (top n e : ℕ) → top ≤ n → (e < top → get_or cs e 0 ≡ get_or cells e 0) → names_bound cells top e ≡ true → names_bound cs n e ≡ true
unfolding names_bound
names_over cells cs top n e up same h =
    let u = bound_used cells top e h in
    let hi = u.1 in
    rw (le-leb 1 e u.0, lt-ltb e n (omega arith), same hi) (bound_free cells top e h)

pub trail_over : (cells cs : List ℕ) (top n : ℕ) (trail : List ℕ) (trailed : ℕ) → top ≤ n → ((j : ℕ) → j < top → get_or cs j 0 ≡ get_or cells j 0) → TrailGood cells top trail trailed → TrailGood cs n trail trailed
trail_over cells cs top n trail trailed up same t = record { fits = t.fits; bound = λ i h. names_over cells cs top n (get_or trail i 0) up (same (get_or trail i 0)) (t.bound i h); apart = t.apart; rest = t.rest }

module _ (cells : List ℕ) (top : ℕ) (trail : List ℕ) where
  new_apart : (i : ℕ) → entry_new trail i ≡ true → (j : ℕ) → j < i → get_or trail j 0 ≡ get_or trail i 0 → ⊥
  unfolding entry_new
  new_apart i h j l = eqb-false _ _ (not-true _ (all_holds (λ k. not (eqb (get_or trail k 0) (get_or trail i 0))) i 0 h j (omega arith) (omega arith)))

  apart_new : (i : ℕ) → ((j : ℕ) → j < i → get_or trail j 0 ≡ get_or trail i 0 → ⊥) → entry_new trail i ≡ true
  unfolding entry_new
  apart_new i h = all_true (λ k. not (eqb (get_or trail k 0) (get_or trail i 0))) i 0 (λ j _ b. ap not (ne_eqb _ _ (h j (omega arith))))

  -- what the test of the used entries says
  pub used_facts : (trailed : ℕ) → trail_used cells top trail trailed ≡ true → (trailed ≤ length trail) × ((i : ℕ) → i < trailed → names_bound cells top (get_or trail i 0) ≡ true) × ((i j : ℕ) → j < i → i < trailed → get_or trail j 0 ≡ get_or trail i 0 → ⊥)
  unfolding trail_used
  used_facts trailed h =
      let a = (and-eq-true_iff (leb trailed (length trail)) _).0 h in
      let each : (i : ℕ) → i < trailed → (names_bound cells top (get_or trail i 0) ≡ true) × (entry_new trail i ≡ true) =
      λ i l. (and-eq-true_iff (names_bound cells top (get_or trail i 0)) (entry_new trail i)).0 (all_holds (entry_keeps cells top trail) trailed 0 a.1 i (omega arith) (omega arith)) in
      (leb-true _ _ a.0, λ i l. (each i l).0, λ i j g l. new_apart i (each i l).1 j g)

  pub used_test : (trailed : ℕ) → trailed ≤ length trail → ((i : ℕ) → i < trailed → names_bound cells top (get_or trail i 0) ≡ true) → ((i j : ℕ) → j < i → i < trailed → get_or trail j 0 ≡ get_or trail i 0 → ⊥) → trail_used cells top trail trailed ≡ true
  unfolding trail_used
  used_test trailed f b a =
      rw (le-leb trailed (length trail) f)
      (all_true (entry_keeps cells top trail) trailed 0 (λ i _ l. (and-eq-true_iff (names_bound cells top (get_or trail i 0)) (entry_new trail i)).1 (b i (omega arith), apart_new i (λ j g. a i j g (omega arith)))))

  module _ (trailed : ℕ) where
    pub trail_parts : trail_good cells top trail trailed ≡ true → TrailGood cells top trail trailed
    unfolding trail_good
    trail_parts h =
        let b = (and-eq-true_iff (trail_used cells top trail trailed) (zero_from trail trailed)).0 h in
        let u = used_facts trailed b.0 in
        record { fits = u.0; bound = u.1; apart = u.2; rest = zeros trail trailed b.1 }

    pub trail_whole : TrailGood cells top trail trailed → trail_good cells top trail trailed ≡ true
    unfolding trail_good
    trail_whole t = rw (used_test trailed t.fits t.bound t.apart) (zeros_back trail trailed t.rest)

-- ---- the marks
pub record MarkGood (top trailed : ℕ) (marks : List ℕ) (m : ℕ) : Type 0 where
  -- never falling from one mark to the next
  pub top_rises : top_before marks m ≤ mark_top marks m
  pub trail_rises : trail_before marks m ≤ mark_trail marks m
  -- nor above the present counts
  pub top_within : mark_top marks m ≤ top
  pub trail_within : mark_trail marks m ≤ trailed

pub record MarksGood (top trailed : ℕ) (marks : List ℕ) (marked : ℕ) : Type 0 where
  -- the marks fit the lent length
  pub fits : mark_width * marked ≤ length marks
  pub each : (m : ℕ) → m < marked → MarkGood top trailed marks m
  -- the rest is 0
  pub rest : (i : ℕ) → mark_width * marked ≤ i → get_or marks i 0 ≡ 0

-- where there are more cells, marks keep their rules
pub marks_over : (top n trailed : ℕ) (marks : List ℕ) (marked : ℕ) → top ≤ n → MarksGood top trailed marks marked → MarksGood n trailed marks marked
marks_over top n trailed marks marked up g =
    record {
      fits = g.fits;
      each = λ i h. let m = g.each i h in let w = m.top_within in record { top_rises = m.top_rises; trail_rises = m.trail_rises; top_within = omega arith; trail_within = m.trail_within };
      rest = g.rest;
    }

module _ (top trailed : ℕ) (marks : List ℕ) where
  mark_parts : (m : ℕ) → mark_good top trailed marks m ≡ true → MarkGood top trailed marks m
  unfolding mark_good rises
  mark_parts m h =
      let c = (and-eq-true_iff (rises (top_before marks m) (mark_top marks m) top) (rises (trail_before marks m) (mark_trail marks m) trailed)).0 h in
      let a = (and-eq-true_iff (leb (top_before marks m) (mark_top marks m)) _).0 c.0 in
      let b = (and-eq-true_iff (leb (trail_before marks m) (mark_trail marks m)) _).0 c.1 in
      record { top_rises = leb-true _ _ a.0; trail_rises = leb-true _ _ b.0; top_within = leb-true _ _ a.1; trail_within = leb-true _ _ b.1 }

  mark_whole : (m : ℕ) → MarkGood top trailed marks m → mark_good top trailed marks m ≡ true
  unfolding mark_good rises
  mark_whole m g = rw (le-leb (top_before marks m) (mark_top marks m) g.top_rises, le-leb (trail_before marks m) (mark_trail marks m) g.trail_rises, le-leb (mark_top marks m) top g.top_within) (le-leb (mark_trail marks m) trailed g.trail_within)

  pub marks_parts : (n : ℕ) → marks_good top trailed marks n ≡ true → MarksGood top trailed marks n
  unfolding marks_good
  marks_parts n h =
      let b = (and-eq-true_iff _ (zero_from marks (mark_width * n))).0 h in
      let a = (and-eq-true_iff (leb (mark_width * n) (length marks)) _).0 b.0 in
      record { fits = leb-true _ _ a.0; each = λ m l. mark_parts m (all_holds (mark_good top trailed marks) n 0 a.1 m (omega arith) (omega arith)); rest = zeros marks (mark_width * n) b.1 }

  pub marks_whole : (n : ℕ) → MarksGood top trailed marks n → marks_good top trailed marks n ≡ true
  unfolding marks_good
  marks_whole n g = rw (le-leb (mark_width * n) (length marks) g.fits, all_true (mark_good top trailed marks) n 0 (λ m _ l. mark_whole m (g.each m (omega arith)))) (zeros_back marks (mark_width * n) g.rest)

-- marks that agree below n marks
module _ (ms ns : List ℕ) (n : ℕ) (agree : (i : ℕ) → i < mark_width * n → get_or ns i 0 ≡ get_or ms i 0) where
  pub top_agrees : (m : ℕ) → m ≤ n → top_before ns m ≡ top_before ms m
  unfolding top_before
  top_agrees zero h = refl
  top_agrees (suc m) h = agree (mark_width * m) (omega arith)

  pub trail_agrees : (m : ℕ) → m ≤ n → trail_before ns m ≡ trail_before ms m
  unfolding trail_before
  trail_agrees zero h = refl
  trail_agrees (suc m) h = agree (mark_width * m + 1) (omega arith)

  pub mark_agrees : (top trailed m : ℕ) → m < n → MarkGood top trailed ms m → MarkGood top trailed ns m
  mark_agrees top trailed m h g =
      let a = top_agrees m (omega arith) in
      let b = trail_agrees m (omega arith) in
      let c = agree (mark_width * m) (omega arith) in
      let d = agree (mark_width * m + 1) (omega arith) in
      let e = g.top_rises in
      let f = g.trail_rises in
      let u = g.top_within in
      let v = g.trail_within in
      record { top_rises = omega arith; trail_rises = omega arith; top_within = omega arith; trail_within = omega arith }

-- no mark is above the present counts
module _ (top trailed : ℕ) (ms : List ℕ) (n : ℕ) (g : MarksGood top trailed ms n) where
  pub top_below : (m : ℕ) → m ≤ n → top_before ms m ≤ top
  unfolding top_before
  top_below zero h = omega arith
  top_below (suc m) h = (g.each m (omega arith)).top_within

  pub trail_below : (m : ℕ) → m ≤ n → trail_before ms m ≤ trailed
  unfolding trail_before
  trail_below zero h = omega arith
  trail_below (suc m) h = (g.each m (omega arith)).trail_within

-- ---- the whole store
pub record Holds (s : State) : Type 0 where
  pub cells_good : well_formed s.cells s.top ≡ true
  pub trail_good_lem : TrailGood s.cells s.top s.trail s.trailed
  pub marks_good_lem : MarksGood s.top s.trailed s.marks s.marked

module _ (s : State) where
  pub holds_parts : holds s ≡ true → Holds s
  holds_parts h =
      let a = (and-eq-true_iff (cells_hold s) (trail_holds s)).0 h in
      let b = (and-eq-true_iff (trail_good s.cells s.top s.trail s.trailed) (marks_good s.top s.trailed s.marks s.marked)).0 a.1 in
      record { cells_good = a.0; trail_good_lem = trail_parts _ _ _ _ b.0; marks_good_lem = marks_parts _ _ _ _ b.1 }

  -- past the check every rule holds
  pub check_parts : Ok tt ≡ check_of s → Holds s
  check_parts h = holds_parts (check_passed s h)

  trail_holds_lem : Holds s → trail_holds s ≡ true
  trail_holds_lem h = rw (trail_whole _ _ _ _ h.trail_good_lem) (marks_whole _ _ _ _ h.marks_good_lem)

  pub holds_whole : Holds s → holds s ≡ true
  holds_whole h = rw h.cells_good (trail_holds_lem h)

  pub check_holds : Holds s → check_of s ≡ Ok tt
  check_holds h = sym (check_done s h.cells_good (trail_holds_lem h))

  -- of a call with one refusal more, or two: the tests that are left decide
  module _ (h : Holds s) (r : Outcome × State) where
    pub unless_one : (b : Bool) (e : Refusal) → unless (check_of s then need b e) s r ≡ cond b r (refused e, s)
    unless_one true e = rw (check_holds h)
    unless_one false e = rw (check_holds h)

    pub unless_two : (b : Bool) (e : Refusal) (c : Bool) (f : Refusal) → unless (check_of s then need b e then need c f) s r ≡ cond b (cond c r (refused f, s)) (refused e, s)
    unless_two true e true f = rw (check_holds h)
    unless_two true e false f = rw (check_holds h)
    unless_two false e c f = rw (check_holds h)
