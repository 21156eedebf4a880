-- The invariant of a copy, from the first cell to the last.
use Rattle.std.specs.Prelude.{◌≡◌, refl, List, get_or, set, replicate}
use Rattle.std.proofs.Common.{sym, ap, ◌∙◌, inl, inr, length-set, get_or-set_same, get_or-set_other, lt-ltb, le-ltb}
use Rattle.std.proofs.Math.Path.{subst}
use Prim.Native.Nat.{ℕ, zero, suc, ◌+◌, ◌<◌, ◌≤◌}
use native.Mathlib.Omega.{arith}
use Rattle.std.proofs.Math.Decide.{dec_lt}
use Rattle.std.proofs.lemmas.List.{length-replicate}
use Rattle.store.specs.Store.{limit}
use Rattle.store.specs.Zeros.{zero_at}
use Rattle.cycle.specs.Room.{room_by, room_of}
use Rattle.copy.specs.Rules.{State, table_words, first, scan, scanned, copied}
use Rattle.copy.specs.Tally.{tally_none}
use Rattle.copy.specs.Inv.{Given, Run, From, Inv, fits_in}
use Rattle.copy.specs.Steps.{stepped}

module _ (top n p : ℕ) (t : State) where
  pub scan_on : p < t.end → scan top (suc n) p t ≡ scan top n (p + 1) (scanned top t p)
  unfolding scan
  scan_on h = rw (lt-ltb p t.end h)

  pub scan_off : t.end ≤ p → scan top (suc n) p t ≡ t
  unfolding scan
  scan_off h = rw (le-ltb p t.end h)

module _ {s : List ℕ} {top root : ℕ} (gv : Given s top root) where
  pub one_cell : 1 ≤ room_of s top root
  unfolding room_of room_by
  one_cell = omega arith

  -- no entry yet
  no_run : (tables : List ℕ) → ((i : ℕ) → get_or tables i 0 ≡ 0) → (b g n : ℕ) → Run s top root tables b g n → ⊥
  no_run tables z b g n (a, c, inl (d, m)) = c (sym d ∙ z b)
  no_run tables z b g n (a, c, inr (d, m)) = c (sym d ∙ z (top + b))

  none : (i : ℕ) → get_or {A = ℕ} (replicate (table_words top) 0) i 0 ≡ 0
  none i = zero_at (table_words top) i

  pub begun : Inv s top root (set s top (get_or s root 0)) (replicate (table_words top) 0) (top + 1) top
  begun =
      let o = one_cell in
      let lo = gv.wf.low in
      let f = gv.fits in
      let w = length-replicate {A = ℕ} (table_words top) 0 in
      record {
        agree = λ j g. get_or-set_other s top j (get_or s root 0) 0 (λ y. omega arith);
        long = length-set s top (get_or s root 0);
        wide = omega arith;
        above = omega arith;
        bound = omega arith;
        low = omega arith;
        run = λ b g n r. absurd (no_run (replicate (table_words top) 0) none b g n r);
        apart = λ b g n _ _ _ r _. absurd (no_run (replicate (table_words top) 0) none b g n r);
        str_reached_lem = λ f a n. absurd (n (none f));
        lis_reached_lem = λ m a n. absurd (n (none (top + m)));
        raw = λ q x f g. raw q x f;
        done = λ q x f g. absurd (below q x f g);
        homes = λ v a n. absurd (n (none (top + top + v)));
        single = λ v w a b n e. absurd (n (none (top + top + v)));
        cover = λ q a b. (root, inl (omega arith, refl));
        rest = λ j g. get_or-set_other s top j (get_or s root 0) 0 (λ y. omega arith) ∙ gv.wf.rest j (omega arith);
        count = let t = tally_none s top (replicate (table_words top) 0) (λ i a. none i) lo in omega arith;
      }
    where
      raw : (q x : ℕ) → From s top root (replicate (table_words top) 0) q x → get_or (set s top (get_or s root 0)) q 0 ≡ get_or s x 0
      raw q x (inl (e, d)) =
          let o = one_cell in
          let f = gv.fits in
          ap (λ (y : ℕ). get_or (set s top (get_or s root 0)) y 0) e ∙ get_or-set_same s top (get_or s root 0) 0 (omega arith) ∙ ap (λ (y : ℕ). get_or s y 0) (sym d)
      raw q x (inr (b, g, n, k, r, i, e, d)) = absurd (no_run (replicate (table_words top) 0) none b g n r)

      below : (q x : ℕ) → From s top root (replicate (table_words top) 0) q x → q < top → ⊥
      below q x (inl (e, d)) g = omega arith
      below q x (inr (b, g', n, k, r, i, e, d)) g = no_run (replicate (table_words top) 0) none b g' n r

  abbrev pub At : State → ℕ → Type 0
  At t p = Inv s top root t.cells t.tables t.end p

  pub end_fits : (t : State) (p : ℕ) → At t p → t.end ≤ top + room_of s top root
  end_fits t p I = let c = I.count in omega (arith, fits_in s top root gv t.tables I.str_reached_lem I.lis_reached_lem)

  pub along_scan : (n p : ℕ) (t : State) → At t p → top + room_of s top root ≤ p + n → At (scan top n p t) (scan top n p t).end
  unfolding scan
  along_scan zero p t I l = let b = I.bound in let e = end_fits t p I in let z : p ≡ t.end = omega arith in subst (At t) z I
  along_scan (suc n) p t I l =
      elim (dec_lt p t.end) [
        | yes h ↦ rw (scan_on top n p t h) (along_scan n (p + 1) (scanned top t p) (stepped gv I h) (omega arith))
        | no h ↦ (let b = I.bound in let z : p ≡ t.end = omega arith in rw (scan_off top n p t (omega arith)) (subst (At t) z I))
      ]

  -- the whole copy
  pub all_copied : At (copied s top root) (copied s top root).end
  unfolding copied
  all_copied = let m = gv.lim in along_scan limit top (first s top root) begun (omega arith)
