-- The rules of one store's cells go over to another store, with as many used cells or more, where no term and no atom is lost; and so to a store with words added at its end.
use Rattle.std.specs.Prelude.{◌≡◌, refl, Bool, true, false, not, ◌&&◌, List, ℕ, ◌+◌, ◌-◌, ◌<◌, ◌≤◌, length, get_or, leb, ltb}
use Rattle.std.proofs.Common.{sym, subst, ◌∙◌}
use Rattle.std.proofs.Math.Path.{ap}
use Rattle.std.proofs.Math.Bool.{and-eq-true_iff}
use native.Mathlib.Omega.{arith}
use borrow.Author.Tests.{ltb-true, lt-ltb}
use Rattle.cell.specs.declared.Kind.{Kind}
use Rattle.cell.specs.declared.Kind.TheVariants.{Var, Str, Lis, Atom, Fixnum, Bad}
use Rattle.cell.specs.Kinds.{kind_of}
use Rattle.store.specs.All.{all_from, all_holds, all_true, all_skip}
use Rattle.store.specs.Store.{limit, kind_at, is_header, is_atom, no_header, term_at, atom_at, run_at, keeps, keeps_at, Ends, ends_at, cells_keep, cells_end, well_formed, WellFormed}
use Rattle.store.specs.Steps.{same_step}
use Rattle.store.specs.Ends.{ends_stay, ends_back, ends_test}
use Rattle.store.specs.Zeros.{zeros_back}
use Rattle.store.specs.WellFormed.{along, the_rest}

and_map : {a b c d : Bool} → (a ≡ true → c ≡ true) → (b ≡ true → d ≡ true) → (a && b) ≡ true → (c && d) ≡ true
and_map {a} {b} {c} {d} f g h = let p = (and-eq-true_iff a b).0 h in (and-eq-true_iff c d).1 (f p.0, g p.1)

module _ (s t : List ℕ) (top up : ℕ) (more : top ≤ up) (heads : (j : ℕ) → j < top → no_header s j ≡ true → no_header t j ≡ true) (atoms : (j : ℕ) → j < top → is_atom (kind_at s j) ≡ true → is_atom (kind_at t j) ≡ true) where
  below : (i : ℕ) → ltb i top ≡ true → ltb i up ≡ true
  below i h = lt-ltb i up (let l = ltb-true i top h in omega arith)

  -- a used cell from 1 with a property that goes over
  used_over : (i : ℕ) {a b : Bool} → (i < top → a ≡ true → b ≡ true) → (leb 1 i && ltb i top && a) ≡ true → (leb 1 i && ltb i up && b) ≡ true
  used_over i {a} {b} f h =
      let p = (and-eq-true_iff (leb 1 i && ltb i top) a).0 h in
      let q = (and-eq-true_iff (leb 1 i) (ltb i top)).0 p.0 in
      (and-eq-true_iff (leb 1 i && ltb i up) b).1 ((and-eq-true_iff (leb 1 i) (ltb i up)).1 (q.0, below i q.1), f (ltb-true i top q.1) p.1)

  pub term_over : (i : ℕ) → term_at s top i ≡ true → term_at t up i ≡ true
  unfolding term_at
  term_over i = used_over i (heads i)

  atom_over : (f : ℕ) → atom_at s top f ≡ true → atom_at t up f ≡ true
  unfolding atom_at
  atom_over f = used_over f (atoms f)

  run_over : (f a : ℕ) → run_at s top f a ≡ true → run_at t up f a ≡ true
  unfolding run_at
  run_over f a h =
      let p = (and-eq-true_iff (ltb (f + a) top) (all_from (f + 1) a (no_header s))).0 h in
      let l = ltb-true (f + a) top p.0 in
      (and-eq-true_iff (ltb (f + a) up) (all_from (f + 1) a (no_header t))).1
      (below (f + a) p.0, all_true (no_header t) a (f + 1) (λ i b c. heads i (omega arith) (all_holds (no_header s) a (f + 1) p.1 i b c)))

  pub keeps_over : (i : ℕ) (k : Kind) → keeps s top i k ≡ true → keeps t up i k ≡ true
  unfolding keeps
  keeps_over i (Var v) h = term_over v h
  keeps_over i (Str f) h = atom_over f h
  keeps_over i (Lis l) h = and_map (term_over l) (term_over (l + 1)) h
  keeps_over i (Atom n a) h = run_over i a h
  keeps_over i (Fixnum z) h = h
  keeps_over i Bad h = h

-- ---- a well-formed store with words added from `top` to `up`
module _ (s t : List ℕ) (top up : ℕ) (wf : WellFormed s top) (more : top ≤ up) (same : (j : ℕ) → j < top → get_or t j 0 ≡ get_or s j 0) where
  same_kind : (P : Kind → Type 0) (j : ℕ) → j < top → P (kind_at s j) → P (kind_at t j)
  same_kind P j l = subst (λ (w : ℕ). P (kind_of w)) (sym (same j l))

  -- the old cells keep to their rows
  pub old_keep : (i : ℕ) → 1 ≤ i → i < top → keeps_at t up i ≡ true
  old_keep i a b =
      same_kind (λ (k : Kind). keeps t up i k ≡ true) i b
      (keeps_over s t top up more (same_kind (λ (k : Kind). not (is_header k) ≡ true)) (same_kind (λ (k : Kind). is_atom k ≡ true)) i (kind_at s i) (wf.keep i a b))

  -- following still ends at each
  pub old_ends : (i : ℕ) → 1 ≤ i → i < top → Ends t i
  old_ends = along s top wf (Ends t) (λ i a b e. ends_stay t i (same_step s t i (same i b) ∙ e)) (λ i a b n p. ends_back t i (subst (Ends t) (sym (same_step s t i (same i b))) p))

  -- so only the new cells have to be tested
  module _ (high : up ≤ limit) (room : up ≤ length t) (rest : (i : ℕ) → up ≤ i → get_or t i 0 ≡ 0) where
    keep_new : cells_keep t 1 up ≡ cells_keep t top up
    unfolding cells_keep
    keep_new =
        let l = wf.low in
        let z : 1 + (top - 1) ≡ top = omega arith in
        all_skip (keeps_at t up) (top - 1) 1 (omega arith) (λ j a b. old_keep j a (omega arith)) ∙ ap (λ (k : ℕ). all_from k (up - k) (keeps_at t up)) z

    ends_new : cells_keep t 1 up ≡ true → cells_end t 1 up ≡ cells_end t top up
    unfolding cells_end
    ends_new k =
        let l = wf.low in
        let z : 1 + (top - 1) ≡ top = omega arith in
        all_skip (ends_at t up) (top - 1) 1 (omega arith) (λ j a b. ends_test t up k j a (omega arith) (old_ends j a (omega arith))) ∙ ap (λ (k : ℕ). all_from k (up - k) (ends_at t up)) z

    pub new_keep : cells_keep t top up ≡ true → cells_keep t 1 up ≡ true
    new_keep h = keep_new ∙ h

    pub new_only : well_formed t up ≡ (cells_keep t top up && cells_end t top up)
    new_only =
        let l = wf.low in
        sym (the_rest t up (omega arith) high room (same 0 (omega arith) ∙ wf.zeroth)) ∙ rw (zeros_back t up rest) (go (cells_keep t top up) refl)
      where
        go : (b : Bool) → cells_keep t top up ≡ b → (cells_keep t 1 up && cells_end t 1 up) ≡ (b && cells_end t top up)
        go true e = rw (keep_new ∙ e) (ends_new (keep_new ∙ e))
        go false e = rw (keep_new ∙ e)
