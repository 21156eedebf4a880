-- The test of a well-formed store and its facts are the same; the tests one by one, as a check makes them; the induction along Vars.
use Rattle.std.specs.Prelude.{◌≡◌, true, false, ◌&&◌, List, length, get_or, eqb}
use Rattle.std.proofs.Common.{sym, ◌∙◌, arith}
use Rattle.std.proofs.Math.Bool.{and-eq-true_iff}
use Prim.Native.Nat.{ℕ, zero, suc, ◌-◌, ◌<◌, ◌≤◌}
use Rattle.std.proofs.Math.Decide.{ℕ_discrete}
use Rattle.std.proofs.Math.Dec.{leb}
use borrow.Author.Tests.{leb-true, eqb-true, lt-leb, le-leb, eq-eqb, ne_eqb}
use Rattle.store.specs.All.{all_holds, all_true}
use Rattle.store.specs.Store.{keeps_at, step, steps, ends_at, zero_from, cells_keep, cells_end, well_formed, WellFormed, Ends, end_of, limit}
use Rattle.store.specs.Steps.{keeps_all, step_used, steps_used}
use Rattle.store.specs.Ends.{ends_in, ends_tested, ends_cells}
use Rattle.store.specs.Zeros.{zeros, zeros_back}

module _ (s : List ℕ) (top : ℕ) where
  pub no_low : top < 1 → false ≡ well_formed s top
  unfolding well_formed
  no_low h = rw (lt-leb 1 top h)

  module _ (a : 1 ≤ top) where
    pub no_high : limit < top → false ≡ well_formed s top
    unfolding well_formed
    no_high h = rw (le-leb 1 top a, lt-leb top limit h)

    module _ (b : top ≤ limit) where
      pub no_room : length s < top → false ≡ well_formed s top
      unfolding well_formed
      no_room h = rw (le-leb 1 top a, le-leb top limit b, lt-leb top (length s) h)

      module _ (r : top ≤ length s) where
        pub no_zeroth : (get_or s 0 0 ≡ 0 → ⊥) → false ≡ well_formed s top
        unfolding well_formed
        no_zeroth h = rw (le-leb 1 top a, le-leb top limit b, le-leb top (length s) r, ne_eqb (get_or s 0 0) 0 h)

        pub the_rest : get_or s 0 0 ≡ 0 → (zero_from s top && cells_keep s 1 top && cells_end s 1 top) ≡ well_formed s top
        unfolding well_formed
        the_rest z = rw (le-leb 1 top a, le-leb top limit b, le-leb top (length s) r, eq-eqb (get_or s 0 0) 0 z)

        pub no_zeros : get_or s 0 0 ≡ 0 → zero_from s top ≡ false → false ≡ well_formed s top
        no_zeros z f = rw (← the_rest z, f)

        -- with all free cells 0 the used ones decide
        pub the_used : get_or s 0 0 ≡ 0 → zero_from s top ≡ true → (cells_keep s 1 top && cells_end s 1 top) ≡ well_formed s top
        the_used z f = rw (← the_rest z, f)

-- ---- the test and the facts are the same
module _ (s : List ℕ) (top : ℕ) where
  ends_of : cells_end s 1 top ≡ true → (i : ℕ) → 1 ≤ i → i < top → Ends s i
  unfolding cells_end
  ends_of h i l g = ends_tested s top i (all_holds (ends_at s top) (top - 1) 1 h i l (omega arith))

  pub parts : well_formed s top ≡ true → WellFormed s top
  unfolding well_formed
  parts h =
      let g = (and-eq-true_iff _ (cells_end s 1 top)).0 h in
      let f = (and-eq-true_iff _ (cells_keep s 1 top)).0 g.0 in
      let e = (and-eq-true_iff _ (zero_from s top)).0 f.0 in
      let d = (and-eq-true_iff _ (eqb (get_or s 0 0) 0)).0 e.0 in
      let c = (and-eq-true_iff (leb 1 top && leb top limit) (leb top (length s))).0 d.0 in
      let b = (and-eq-true_iff (leb 1 top) (leb top limit)).0 c.0 in
      record { low = leb-true _ _ b.0; high = leb-true _ _ b.1; room = leb-true _ _ c.1; zeroth = eqb-true _ _ d.1; rest = zeros s top e.1; keep = keeps_all s top f.1; ends = ends_of g.1 }

  module _ (w : WellFormed s top) where
    pub keeps_cells : cells_keep s 1 top ≡ true
    unfolding cells_keep
    keeps_cells = let l = w.low in all_true (keeps_at s top) (top - 1) 1 (λ i a b. w.keep i a (omega arith))

    -- following stays where `top` steps lead
    pub end_stays : (i : ℕ) → 1 ≤ i → i < top → step s (end_of s top i) ≡ end_of s top i
    end_stays i a b = ends_in s top keeps_cells i a b (w.ends i a b)

    -- steps come to used cells
    pub steps_in : (n i : ℕ) → 1 ≤ i → i < top → (1 ≤ steps s n i) × (steps s n i < top)
    steps_in = steps_used s top keeps_cells

    pub whole : well_formed s top ≡ true
    whole = sym (the_rest s top w.low w.high w.room w.zeroth) ∙ rw (zeros_back s top w.rest, keeps_cells) (ends_cells s top keeps_cells 1 (omega arith) w.ends)

-- ---- the induction along Vars: what holds where following ends, and goes back along a step, holds at each used cell
module _ (s : List ℕ) (top : ℕ) (wf : WellFormed s top) (P : ℕ → Type 0) where
  module _ (here : (i : ℕ) → 1 ≤ i → i < top → step s i ≡ i → P i) (back : (i : ℕ) → 1 ≤ i → i < top → (step s i ≡ i → ⊥) → P (step s i) → P i) where
    by_fuel : (n i : ℕ) → 1 ≤ i → i < top → step s (steps s n i) ≡ steps s n i → P i
    unfolding steps
    by_fuel zero i l h e = here i l h e
    by_fuel (suc n) i l h e =
        let u = step_used s top (keeps_cells s top wf) i l h in
        elim (ℕ_discrete (step s i) i) [ yes q ↦ here i l h q | no q ↦ back i l h q (by_fuel n (step s i) u.0 u.1 e) ]

    pub along : (i : ℕ) → 1 ≤ i → i < top → P i
    along i l h = let e = wf.ends i l h in by_fuel e.0 i l h e.1
