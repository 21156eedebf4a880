-- From a call's result to what it rests on: what a call that is not refused may rely on, and the ending of its run.
use Rattle.std.proofs.Math.Path.{◌≡◌, refl, sym, ap}
use Rattle.std.specs.Prelude.{Bool, not, List, ℕ, ◌-◌, ◌<◌, length, Ok, Err}
use Rattle.std.proofs.Math.Bool.{true, false}
use native.Mathlib.Omega.{arith}
use Rattle.std.proofs.Math.Dec.{leb}
use borrow.Author.Tests.{leb-true, le-leb, lt-leb}
use Rattle.cell.specs.declared.Refusal.{Refusal}
use Rattle.cell.specs.declared.Refusal.TheVariants.{Root, Work, TrailRoom, Cycle}
use Rattle.store.specs.Store.{term_at, WellFormed}
use Rattle.store.specs.WellFormed.{parts}
use Rattle.trail.specs.State.{State, Outcome, done, failed, refused, check_of, need, ◌then◌, check_passed, Answer}
use Rattle.trail.specs.Facts.{holds_parts, check_holds}
use Rattle.cycle.specs.Verdict.{cyclic_at}
use Rattle.unification.specs.Machine.{Machine, Ending, yes, clashes, occurs, late, unified, start, fuel}
use Rattle.chains.specs.Work.{work_need, cleared}
use Rattle.unification.specs.Calls.{unbound, plain_check, checked_check, Result, left_by, answered, unless_refused, plainly, checkedly}
use Rattle.unification.specs.Live.{Live}
use Rattle.unification.proofs.Live.{live_start}
use Rattle.unification.specs.Asked.{Asked}

module _ (s : State) (work : List ℕ) (a b : ℕ) where
  pub asked : plain_check s work a b ≡ Ok tt → Asked s work a b
  unfolding plain_check
  asked = go (check_of s) refl (term_at s.cells s.top a) refl (term_at s.cells s.top b) refl (leb (work_need s.top) (length work)) refl (leb (unbound s.cells s.top) (length s.trail - s.trailed)) refl
    where
      go : (c : Answer) → check_of s ≡ c → (p : Bool) → term_at s.cells s.top a ≡ p → (q : Bool) → term_at s.cells s.top b ≡ q → (w : Bool) → leb (work_need s.top) (length work) ≡ w → (r : Bool) → leb (unbound s.cells s.top) (length s.trail - s.trailed) ≡ r → (c then need p Root then need q Root then need w Work then need r TrailRoom) ≡ Ok tt → Asked s work a b
      go (Ok tt) ec true ep true eq true ew true er h =
          let hs = holds_parts s (check_passed s (sym ec)) in
          let f = hs.trail_good_lem.fits in
          let n = leb-true (unbound s.cells s.top) (length s.trail - s.trailed) er in
          record { held = hs; left = ep; right = eq; wide = leb-true (work_need s.top) (length work) ew; room = omega arith }
      go (Ok tt) ec true ep true eq true ew false er h = cc
      go (Ok tt) ec true ep true eq false ew r er h = cc
      go (Ok tt) ec true ep false eq w ew r er h = cc
      go (Ok tt) ec false ep q eq w ew r er h = cc
      go (Err x) ec p ep q eq w ew r er h = cc

  pub asks : Asked s work a b → plain_check s work a b ≡ Ok tt
  unfolding plain_check
  asks k =
      let f = k.held.trail_good_lem.fits in
      let r = k.room in
      rw (check_holds s k.held, k.left, k.right, le-leb (work_need s.top) (length work) k.wide, le-leb (unbound s.cells s.top) (length s.trail - s.trailed) (omega arith))

  -- refusal 6 of neither root
  pub checked_asked : checked_check s work a b ≡ Ok tt → Asked s work a b × (cyclic_at s.cells s.top a ≡ false) × (cyclic_at s.cells s.top b ≡ false)
  unfolding checked_check
  checked_asked = go (plain_check s work a b) refl (cyclic_at s.cells s.top a) refl (cyclic_at s.cells s.top b) refl
    where
      go : (c : Answer) → plain_check s work a b ≡ c → (p : Bool) → cyclic_at s.cells s.top a ≡ p → (q : Bool) → cyclic_at s.cells s.top b ≡ q → (c then need (not p) Cycle then need (not q) Cycle) ≡ Ok tt → Asked s work a b × (cyclic_at s.cells s.top a ≡ false) × (cyclic_at s.cells s.top b ≡ false)
      go (Ok tt) ec false ep false eq h = (asked ec, ep, eq)
      go (Ok tt) ec false ep true eq h = cc
      go (Ok tt) ec true ep q eq h = cc
      go (Err x) ec p ep q eq h = cc

  pub checked_asks : plain_check s work a b ≡ Ok tt → cyclic_at s.cells s.top a ≡ false → cyclic_at s.cells s.top b ≡ false → checked_check s work a b ≡ Ok tt
  unfolding checked_check
  checked_asks c p q = rw (c, p, q)

  -- the run of such a call is one that the laws speak of
  module _ (k : Asked s work a b) where
    pub asked_store : WellFormed s.cells s.top
    asked_store = parts s.cells s.top k.held.cells_good

    pub asked_live : Live s (fuel s.top) (start s a b)
    asked_live = live_start s a b asked_store k.left k.right k.room

  -- ---- the refusals, by the tests that a call makes
  pub refuses_state : (e : Refusal) → check_of s ≡ Err e → plain_check s work a b ≡ Err e
  unfolding plain_check
  refuses_state e c = rw c

  module _ (c : check_of s ≡ Ok tt) where
    pub refuses_left : term_at s.cells s.top a ≡ false → plain_check s work a b ≡ Err Root
    unfolding plain_check
    refuses_left p = rw (c, p)

    module _ (p : term_at s.cells s.top a ≡ true) where
      pub refuses_right : term_at s.cells s.top b ≡ false → plain_check s work a b ≡ Err Root
      unfolding plain_check
      refuses_right q = rw (c, p, q)

      module _ (q : term_at s.cells s.top b ≡ true) where
        pub refuses_work : length work < work_need s.top → plain_check s work a b ≡ Err Work
        unfolding plain_check
        refuses_work h = rw (c, p, q, lt-leb (work_need s.top) (length work) h)

  pub refuses_plain : (e : Refusal) → plain_check s work a b ≡ Err e → checked_check s work a b ≡ Err e
  unfolding checked_check
  refuses_plain e c = rw c

  -- ---- a result, from the ending of the run
  pub plain_says : plain_check s work a b ≡ Ok tt → plainly s work a b ≡ answered s work (unified false s a b)
  unfolding plainly
  plain_says c = rw c

  pub checked_says : checked_check s work a b ≡ Ok tt → checkedly s work a b ≡ answered s work (unified true s a b)
  unfolding checkedly
  checked_says c = rw c

  pub answered_yes : (o : Ending) (m : Machine) → o ≡ yes m → answered s work o ≡ (done 0, left_by s m, cleared (work_need s.top) work)
  unfolding answered
  answered_yes o m e = ap (answered s work) e

  -- a run that does not end in a yes comes to "no unifier"
  pub answered_no : (o : Ending) → ((m : Machine) → o ≡ yes m → ⊥) → answered s work o ≡ (failed, s, cleared (work_need s.top) work)
  unfolding answered
  answered_no (yes m) n = absurd (n m refl)
  answered_no clashes n = refl
  answered_no occurs n = refl
  answered_no late n = refl

  -- ---- a result, taken apart
  module _ (c : Answer) (o : Ending) (t : State) (w : List ℕ) where
    first_of : {x y : Outcome} {p q : State} {v u : List ℕ} → ◌≡◌ {A = Result} (x, p, v) (y, q, u) → x ≡ y
    first_of e = ap (λ (r : Result). r.0) e

    -- yes: the run ended so, and left the state
    pub from_yes : unless_refused c s work (answered s work o) ≡ (done 0, t, w) → (c ≡ Ok tt) × ((m : Machine) × (o ≡ yes m) × (t ≡ left_by s m) × (w ≡ cleared (work_need s.top) work))
    unfolding answered
    from_yes = go c o
      where
        go : (c : Answer) (o : Ending) → unless_refused c s work (answered s work o) ≡ (done 0, t, w) → (c ≡ Ok tt) × ((m : Machine) × (o ≡ yes m) × (t ≡ left_by s m) × (w ≡ cleared (work_need s.top) work))
        go (Ok tt) (yes m) e = (refl, (m, refl, sym (ap (λ (r : Result). r.1) e), sym (ap (λ (r : Result). r.2) e)))
        go (Ok tt) clashes e = let q : failed ≡ done 0 = first_of e in cc
        go (Ok tt) occurs e = let q : failed ≡ done 0 = first_of e in cc
        go (Ok tt) late e = let q : failed ≡ done 0 = first_of e in cc
        go (Err x) o e = let q : refused x ≡ done 0 = first_of e in cc

    -- no unifier: the run did not end in a yes, and the state is as at entry
    pub from_no : unless_refused c s work (answered s work o) ≡ (failed, t, w) → (c ≡ Ok tt) × ((m : Machine) → o ≡ yes m → ⊥) × (t ≡ s) × (w ≡ cleared (work_need s.top) work)
    unfolding answered
    from_no = go c o
      where
        go : (c : Answer) (o : Ending) → unless_refused c s work (answered s work o) ≡ (failed, t, w) → (c ≡ Ok tt) × ((m : Machine) → o ≡ yes m → ⊥) × (t ≡ s) × (w ≡ cleared (work_need s.top) work)
        go (Ok tt) (yes m) e = let q : done 0 ≡ failed = first_of e in cc
        go (Ok tt) clashes e = (refl, (λ m q. cc), sym (ap (λ (r : Result). r.1) e), sym (ap (λ (r : Result). r.2) e))
        go (Ok tt) occurs e = (refl, (λ m q. cc), sym (ap (λ (r : Result). r.1) e), sym (ap (λ (r : Result). r.2) e))
        go (Ok tt) late e = (refl, (λ m q. cc), sym (ap (λ (r : Result). r.1) e), sym (ap (λ (r : Result). r.2) e))
        go (Err x) o e = let q : refused x ≡ failed = first_of e in cc
