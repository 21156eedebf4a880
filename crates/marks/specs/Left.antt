-- What a rollback leaves: it keeps the rules exactly when one pass over the cells and the trail, as they still are, finds no fault. So refusal 10 is decided before a word has changed.
use Rattle.std.specs.Prelude.{◌≡◌, Bool, ◌&&◌, cond, List, ℕ, zero, suc, ◌+◌, ◌-◌, ◌*◌, ◌<◌, ◌≤◌, length, leb, eqb}
use Rattle.std.proofs.Math.Path.{refl, sym, ap}
use Rattle.std.proofs.Common.{subst, ◌∙◌, ⊎_elim, arith}
use Rattle.std.proofs.Math.Bool.{true, false, not, and-eq-true_iff}
use Rattle.std.proofs.lemmas.Bool.{false≢true}
use Rattle.std.proofs.Math.Decide.{dec_lt}
use Rattle.std.proofs.Math.ListN.{get_or}
use Rattle.std.proofs.Math.Dec.{ltb}
use borrow.Author.Tests.{lt-ltb, le-ltb, le-leb, lt-leb, ne_eqb, eqb-true, eqb-false}
use Rattle.cell.specs.declared.Kind.{Kind}
use Rattle.cell.specs.declared.Kind.TheVariants.{Var, Str, Lis, Atom, Fixnum, Bad}
use Rattle.cell.specs.Word.{var_word}
use Rattle.cell.specs.Kinds.{kind_of, word_of_kind, Proper}
use Rattle.cell.specs.RoundTrips.{kind_back}
use Rattle.store.specs.All.{all_from, all_holds, all_true, all_same}
use Rattle.store.specs.Store.{limit, kind_at, is_header, is_atom, no_header, term_at, atom_at, run_at, keeps, keeps_at, step, step_kind, Ends, cells_keep, cells_end, well_formed, WellFormed}
use Rattle.store.specs.Steps.{step_used, term_used, term_plain}
use Rattle.store.specs.Zeros.{zeros_back}
use Rattle.store.specs.Ends.{ends_stay, ends_back, ends_cells}
use Rattle.store.specs.WellFormed.{parts, along, the_rest, no_low}
use Rattle.trail.specs.Rules.{unbound_at, names_bound, entry_new, entry_keeps, trail_used, trail_good, mark_width, mark_top, mark_trail, top_before, trail_before, marks_good}
use Rattle.trail.specs.State.{State, holds}
use Rattle.cell_set.specs.Table.{bit_at}
use Rattle.trail.specs.Seen.{Seen, Named}
use Rattle.trail.specs.Facts.{TrailGood, MarkGood, MarksGood, marks_whole, mark_agrees, Holds, bound_used}
use Rattle.store.specs.Zeros.{zeroed, length_zeroed, zeroed_below, zeroed_from}
use Rattle.marks.specs.Unbind.{unbind, length_unbind, unbound, unbind_or, Names}
use Rattle.marks.specs.Calls.{rolled}

-- ---- the pass: `freed` says 1 of the cells that become unbound, and t is the `top` to go back to
abbrev pub is_freed : List ℕ → ℕ → Bool
is_freed freed i = eqb (bit_at freed i) 1

-- what is left to ask of a cell that kept to its row before
unfoldable pub row_left : List ℕ → ℕ → ℕ → Kind → Bool
row_left freed t i (Var v) = ltb v t
row_left freed t i (Str f) = ltb f t && not (is_freed freed f)
row_left freed t i (Lis l) = ltb (l + 1) t
row_left freed t i (Atom n a) = ltb (i + a) t
row_left freed t i (Fixnum z) = true
row_left freed t i Bad = false

-- cell i becomes unbound, or keeps to its row still
unfoldable pub keeps_left : List ℕ → List ℕ → ℕ → ℕ → Bool
keeps_left s freed t i = cond (is_freed freed i) true (row_left freed t i (kind_at s i))

-- and so each cell that is left
unfoldable pub cells_left : List ℕ → List ℕ → ℕ → Bool
cells_left s freed t = all_from 1 (t - 1) (keeps_left s freed t)

-- each trail entry that is left names a cell that is
unfoldable pub trail_left : List ℕ → ℕ → ℕ → Bool
trail_left trail c t = all_from 0 c (λ i. ltb (get_or trail i 0) t)

-- ---- the cells: s as it is, u as it would be
module _ (s u freed : List ℕ) (top t : ℕ) (wf : WellFormed s top) (within : t ≤ top) (low : 1 ≤ t)
    (same : (j : ℕ) → j < t → is_freed freed j ≡ false → get_or u j 0 ≡ get_or s j 0)
    (free : (j : ℕ) → j < t → is_freed freed j ≡ true → get_or u j 0 ≡ var_word j) where
  var_back : (j : ℕ) → j < t → kind_of (var_word j) ≡ Var j
  unfolding word_of_kind Proper
  var_back j l = let h = wf.high in kind_back (Var j) (omega arith)

  -- what holds of an unbound Var at j where it is freed, and of its old kind where not, holds of its kind
  by_freed : (P : Kind → Type 0) (j : ℕ) → j < t → (is_freed freed j ≡ true → P (Var j)) → (is_freed freed j ≡ false → P (kind_at s j)) → P (kind_at u j)
  by_freed P j l a b = go (is_freed freed j) refl
    where
      go : (x : Bool) → is_freed freed j ≡ x → P (kind_at u j)
      go true e = subst P (sym (ap kind_of (free j l e) ∙ var_back j l)) (a e)
      go false e = subst (λ (w : ℕ). P (kind_of w)) (sym (same j l e)) (b e)

  heads : (j : ℕ) → j < t → no_header s j ≡ true → no_header u j ≡ true
  unfolding is_header
  heads j l h = by_freed (λ (k : Kind). not (is_header k) ≡ true) j l (λ _. refl) (λ _. h)

  term_left : (v : ℕ) → term_at s top v ≡ true → term_at u t v ≡ ltb v t
  unfolding term_at
  term_left v h =
      let n = term_plain s top v h in
      let p = term_used s top v h in
      elim (dec_lt v t) [
        | yes l ↦ rw (le-leb 1 v p.0, lt-ltb v t l, heads v l n)
        | no l ↦ rw (le-leb 1 v p.0, le-ltb v t (omega arith))
      ]

  atom_left : (f : ℕ) → atom_at s top f ≡ true → atom_at u t f ≡ (ltb f t && not (is_freed freed f))
  unfolding atom_at is_atom
  atom_left f h =
      let n = (and-eq-true_iff (leb 1 f && ltb f top) (is_atom (kind_at s f))).0 h in
      let o = ((and-eq-true_iff (leb 1 f) (ltb f top)).0 n.0).0 in
      elim (dec_lt f t) [
        | yes l ↦ rw (o, lt-ltb f t l) (by_freed (λ (k : Kind). is_atom k ≡ not (is_freed freed f)) f l (λ e. rw e) (λ e. rw e n.1))
        | no l ↦ rw (o, le-ltb f t (omega arith))
      ]

  run_left : (i a : ℕ) → run_at s top i a ≡ true → run_at u t i a ≡ ltb (i + a) t
  unfolding run_at
  run_left i a h =
      let n = ((and-eq-true_iff (ltb (i + a) top) (all_from (i + 1) a (no_header s))).0 h).1 in
      elim (dec_lt (i + a) t) [
        | yes l ↦ rw (lt-ltb (i + a) t l) (all_true (no_header u) a (i + 1) (λ j b c. heads j (omega arith) (all_holds (no_header s) a (i + 1) n j b c)))
        | no l ↦ rw (le-ltb (i + a) t (omega arith))
      ]

  row_left_lem : (i : ℕ) (k : Kind) → keeps s top i k ≡ true → keeps u t i k ≡ row_left freed t i k
  unfolding keeps row_left
  row_left_lem i (Var v) h = term_left v h
  row_left_lem i (Str f) h = atom_left f h
  row_left_lem i (Lis l) h =
      let p = (and-eq-true_iff (term_at s top l) (term_at s top (l + 1))).0 h in
      rw (term_left l p.0, term_left (l + 1) p.1)
      (elim (dec_lt (l + 1) t) [ yes b ↦ rw (lt-ltb l t (omega arith)) | no b ↦ (let e = le-ltb (l + 1) t (omega arith) in rw e (and_false (ltb l t))) ])
    where
      and_false : (x : Bool) → (x && false) ≡ false
      and_false true = refl
      and_false false = refl
  row_left_lem i (Atom n a) h = run_left i a h
  row_left_lem i (Fixnum z) h = refl
  row_left_lem i Bad h = absurd (false≢true h)

  freed_term : (i : ℕ) → 1 ≤ i → i < t → is_freed freed i ≡ true → term_at u t i ≡ true
  unfolding term_at is_header
  freed_term i a b e = rw (le-leb 1 i a, lt-ltb i t b, free i b e, var_back i b)

  pub keeps_left_lem : (i : ℕ) → 1 ≤ i → i < t → keeps_at u t i ≡ keeps_left s freed t i
  unfolding keeps_left keeps
  keeps_left_lem i a b =
      by_freed (λ (k : Kind). keeps u t i k ≡ keeps_left s freed t i) i b
      (λ e. freed_term i a b e ∙ rw e)
      (λ e. rw e (row_left_lem i (kind_at s i) (wf.keep i a (omega arith))))

  -- following ends: a freed cell stays, and any other goes where it went
  ends_left : cells_keep u 1 t ≡ true → (i : ℕ) → 1 ≤ i → i < t → Ends u i
  unfolding step step_kind
  ends_left k i a b = along s top wf (λ (j : ℕ). j < t → Ends u j) here back i a (omega arith) b
    where
      here : (j : ℕ) → 1 ≤ j → j < top → step s j ≡ j → j < t → Ends u j
      here j a b e l = ends_stay u j (by_freed (λ (q : Kind). step_kind j q ≡ j) j l (λ _. refl) (λ _. e))

      back : (j : ℕ) → 1 ≤ j → j < top → (step s j ≡ j → ⊥) → (step s j < t → Ends u (step s j)) → j < t → Ends u j
      back j a b n p l = go (is_freed freed j) refl
        where
          go : (x : Bool) → is_freed freed j ≡ x → Ends u j
          go true e = ends_stay u j (ap (step_kind j) (ap kind_of (free j l e) ∙ var_back j l))
          go false e =
              let q : step u j ≡ step s j = ap (λ (w : ℕ). step_kind j (kind_of w)) (same j l e) in
              let b = (step_used u t k j a l).1 in
              ends_back u j (subst (Ends u) (sym q) (p (omega arith)))

  module _ (room : t ≤ length u) (zeroth : get_or u 0 0 ≡ 0) (rest : (j : ℕ) → t ≤ j → get_or u j 0 ≡ 0) where
    pub formed_left : well_formed u t ≡ cells_left s freed t
    unfolding cells_left cells_keep
    formed_left =
        let h = wf.high in
        sym (the_rest u t low (omega arith) room zeroth) ∙ rw (zeros_back u t rest) (go (cells_keep u 1 t) refl)
      where
        kept : cells_keep u 1 t ≡ cells_left s freed t
        kept = all_same (keeps_at u t) (keeps_left s freed t) (t - 1) 1 (λ i a b. keeps_left_lem i a (omega arith))

        go : (b : Bool) → cells_keep u 1 t ≡ b → (b && cells_end u 1 t) ≡ cells_left s freed t
        go true k = ends_cells u t k 1 (omega arith) (ends_left k) ∙ sym k ∙ kept
        go false k = sym k ∙ kept

-- ---- the trail's entries up to c, of which none is freed
module _ (s u trail : List ℕ) (top trailed c t : ℕ) (g : TrailGood s top trail trailed) (within : c ≤ trailed)
    (same : (i : ℕ) → i < c → get_or trail i 0 < t → get_or u (get_or trail i 0) 0 ≡ get_or s (get_or trail i 0) 0) where
  entry_left : (i : ℕ) → i < c → entry_keeps u t trail i ≡ ltb (get_or trail i 0) t
  unfolding names_bound entry_new
  entry_left i l =
      let e = get_or trail i 0 in
      let b = bound_used s top e (g.bound i (omega arith)) in
      let n = ((and-eq-true_iff (leb 1 e && ltb e top) (not (unbound_at s e))).0 (g.bound i (omega arith))).1 in
      let new : entry_new trail i ≡ true = all_true (λ k. not (eqb (get_or trail k 0) (get_or trail i 0))) i 0 (λ j _ h. ap not (ne_eqb _ _ (g.apart i j (omega arith) (omega arith)))) in
      elim (dec_lt e t) [
        | yes h ↦ rw (new, le-leb 1 e b.0, lt-ltb e t h, same i l h, n)
        | no h ↦ rw (new, le-leb 1 e b.0, le-ltb e t (omega arith))
      ]

  pub trail_left_lem : trail_used u t trail c ≡ trail_left trail c t
  unfolding trail_used trail_left
  trail_left_lem = let f = g.fits in rw (le-leb c (length trail) (omega arith)) (all_same (entry_keeps u t trail) (λ i. ltb (get_or trail i 0) t) c 0 (λ i _ h. entry_left i (omega arith)))

-- ---- the trail cut down to c entries
module _ (u : List ℕ) (t : ℕ) (trail : List ℕ) (c : ℕ) (l : c ≤ length trail) where
  entry_kept : (i : ℕ) → i < c → entry_keeps u t (zeroed c trail) i ≡ entry_keeps u t trail i
  unfolding entry_new
  entry_kept i h =
      rw (zeroed_below c trail l i h, all_same (λ j. not (eqb (get_or (zeroed c trail) j 0) (get_or trail i 0))) (λ j. not (eqb (get_or trail j 0) (get_or trail i 0))) i 0 (λ j _ b. ap (λ (x : ℕ). not (eqb x (get_or trail i 0))) (zeroed_below c trail l j (omega arith))))

  trail_kept : trail_good u t (zeroed c trail) c ≡ trail_used u t trail c
  unfolding trail_good trail_used
  trail_kept =
      rw (zeros_back (zeroed c trail) c (zeroed_from c trail l), length_zeroed c trail l, all_same (entry_keeps u t (zeroed c trail)) (entry_keeps u t trail) c 0 (λ i _ b. entry_kept i (omega arith))) (and_true _)
    where
      and_true : (b : Bool) → (b && true) ≡ b
      and_true true = refl
      and_true false = refl

-- ---- the marks cut down to k keep the rules with the counts of mark k
rising : (f : ℕ → ℕ) (n : ℕ) → ((m : ℕ) → suc m < n → f m ≤ f (suc m)) → (d m : ℕ) → m + d < n → f m ≤ f (m + d)
rising f n up zero m h = let z : m + 0 ≡ m = omega arith in rw z (omega arith)
rising f n up (suc d) m h =
    let z : m + suc d ≡ suc (m + d) = omega arith in
    let i = rising f n up d m (omega arith) in
    let r = up (m + d) (omega arith) in
    rw z (omega arith)

module _ (top trailed : ℕ) (ms : List ℕ) (n : ℕ) (g : MarksGood top trailed ms n) (k : ℕ) (a : 1 ≤ k) (b : k ≤ n) where
  pub marks_fit : mark_width * k ≤ length ms
  marks_fit = let f = g.fits in omega arith

  up_to : (f : ℕ → ℕ) → ((m : ℕ) → suc m < n → f m ≤ f (suc m)) → (m : ℕ) → m < k → f m ≤ f (k - 1)
  up_to f up m h = let e : m + (k - 1 - m) ≡ k - 1 = omega arith in subst (λ (j : ℕ). f m ≤ f j) e (rising f n up (k - 1 - m) m (omega arith))

  agree : (i : ℕ) → i < mark_width * k → get_or (zeroed (mark_width * k) ms) i 0 ≡ get_or ms i 0
  agree = zeroed_below (mark_width * k) ms marks_fit

  mark_left : (m : ℕ) → m < k → MarkGood (mark_top ms (k - 1)) (mark_trail ms (k - 1)) (zeroed (mark_width * k) ms) m
  unfolding top_before trail_before
  mark_left m h =
      let x = g.each m (omega arith) in
      mark_agrees ms (zeroed (mark_width * k) ms) k agree _ _ m h
      (record {
        top_rises = x.top_rises;
        trail_rises = x.trail_rises;
        top_within = up_to (mark_top ms) (λ j l. (g.each (suc j) l).top_rises) m h;
        trail_within = up_to (mark_trail ms) (λ j l. (g.each (suc j) l).trail_rises) m h;
      })

  marks_left : marks_good (mark_top ms (k - 1)) (mark_trail ms (k - 1)) (zeroed (mark_width * k) ms) k ≡ true
  marks_left =
      let e = length_zeroed (mark_width * k) ms marks_fit in
      let f = marks_fit in
      marks_whole _ _ _ _ (record { fits = omega arith; each = mark_left; rest = zeroed_from (mark_width * k) ms marks_fit })

-- ---- the whole store that a rollback to mark k leaves
-- what the pass finds
unfoldable pub left_good : List ℕ → List ℕ → List ℕ → ℕ → ℕ → Bool
left_good s freed trail t c = leb 1 t && cells_left s freed t && trail_left trail c t

-- r is what it finds with a table of the cells that the entries from c on name
pub record LeftGood (s trail : List ℕ) (trailed t c : ℕ) (r : Bool) : Type 0 where
  pub freed : List ℕ
  pub seen : Seen trail c freed trailed
  pub found : r ≡ left_good s freed trail t c

-- what the writing of it asks
pub record Lowers (cells : List ℕ) (top : ℕ) (trail : List ℕ) (trailed t c : ℕ) : Type 0 where
  pub within : t ≤ top
  pub room : top ≤ length cells
  pub high : top ≤ limit
  pub rest : (i : ℕ) → top ≤ i → get_or cells i 0 ≡ 0
  pub names : Names trail c trailed top

-- a cell at or past `top` is not named, and stays 0
pub rest_stays : (cells : List ℕ) (top : ℕ) (trail : List ℕ) (trailed t c : ℕ) → Lowers cells top trail trailed t c → (us : List ℕ) → us ≡ unbind trail c (trailed - c) cells → (i : ℕ) → top ≤ i → get_or us i 0 ≡ 0
rest_stays cells top trail trailed t c l us e i h =
    ap (λ (x : List ℕ). get_or x i 0) e
    ∙ ⊎_elim (λ q. q ∙ l.rest i h) (λ m. let a = m.1 in let b = m.2 in let o = l.names.order in let n = l.names.small m.0 m.1 (omega arith) in let q = m.3 in absurd (omega arith))
    (unbind_or trail (trailed - c) c cells i)

module _ (s : State) (h : Holds s) (k : ℕ) (a : 1 ≤ k) (b : k ≤ s.marked) where
  abbrev t₁ : ℕ
  t₁ = mark_top s.marks (k - 1)

  abbrev c₁ : ℕ
  c₁ = mark_trail s.marks (k - 1)

  abbrev u₁ : List ℕ
  u₁ = unbind s.trail c₁ (s.trailed - c₁) s.cells

  wf : WellFormed s.cells s.top
  wf = parts s.cells s.top h.cells_good

  mark_k : MarkGood s.top s.trailed s.marks (k - 1)
  mark_k = h.marks_good_lem.each (k - 1) (omega arith)

  named_used : (i : ℕ) → i < s.trailed → (1 ≤ get_or s.trail i 0) × (get_or s.trail i 0 < s.top)
  named_used i l = bound_used s.cells s.top (get_or s.trail i 0) (h.trail_good_lem.bound i l)

  pub lowers : Lowers s.cells s.top s.trail s.trailed t₁ c₁
  lowers = record { within = mark_k.top_within; room = wf.room; high = wf.high; rest = wf.rest; names = record { order = mark_k.trail_within; there = h.trail_good_lem.fits; small = λ i _ l. (named_used i l).1 } }

  top_fits : t₁ ≤ length u₁
  top_fits =
      let p = mark_k.top_within in
      let q = wf.room in
      let e = length_unbind s.trail (s.trailed - c₁) c₁ s.cells in
      omega arith

  module _ (freed : List ℕ) (seen : Seen s.trail c₁ freed s.trailed) where
    to_end : c₁ + (s.trailed - c₁) ≡ s.trailed
    to_end = let p = mark_k.trail_within in omega arith

    -- a cell that is not freed is as it was
    not_freed : (j : ℕ) → (bit_at freed j ≡ 1 → ⊥) → get_or u₁ j 0 ≡ get_or s.cells j 0
    not_freed j n =
        ⊎_elim (λ e. e) (λ m. absurd (n (subst (λ (x : ℕ). bit_at freed x ≡ 1) m.3 (seen.noted m.0 m.1 (let l = m.2 in let z = to_end in omega arith)))))
        (unbind_or s.trail (s.trailed - c₁) c₁ s.cells j)

    same : (j : ℕ) → j < t₁ → is_freed freed j ≡ false → get_or (rolled s k).cells j 0 ≡ get_or s.cells j 0
    same j l e = zeroed_below t₁ u₁ top_fits j l ∙ not_freed j (eqb-false _ _ e)

    free : (j : ℕ) → j < t₁ → is_freed freed j ≡ true → get_or (rolled s k).cells j 0 ≡ var_word j
    free j l e =
        let m = seen.known j (eqb-true _ _ e) in
        let x = mark_k.top_within in
        let y = wf.room in
        zeroed_below t₁ u₁ top_fits j l ∙ unbound s.trail (s.trailed - c₁) c₁ s.cells j (omega arith) (subst (λ (n : ℕ). Named s.trail c₁ n j) (sym to_end) m)

    -- no entry names cell 0
    zero_kept : bit_at freed 0 ≡ 1 → ⊥
    zero_kept e = let m = seen.known 0 e in let q = m.3 in let p = (named_used m.0 m.2).0 in omega arith

    -- the first entries name other cells than those freed
    entry_same : (i : ℕ) → i < c₁ → get_or s.trail i 0 < t₁ → get_or (rolled s k).cells (get_or s.trail i 0) 0 ≡ get_or s.cells (get_or s.trail i 0) 0
    entry_same i l g =
        zeroed_below t₁ u₁ top_fits _ g ∙ not_freed _ (λ e. let m = seen.known _ e in let x = m.1 in h.trail_good_lem.apart m.0 i (omega arith) m.2 (sym m.3))

    pub left_is : holds (rolled s k) ≡ left_good s.cells freed s.trail t₁ c₁
    unfolding left_good
    left_is =
        let tw = mark_k.top_within in
        let cw = mark_k.trail_within in
        let cf = h.trail_good_lem.fits in
        rw (trail_kept (rolled s k).cells t₁ s.trail c₁ (omega arith), marks_left s.top s.trailed s.marks s.marked h.marks_good_lem k a b, trail_left_lem s.cells (rolled s k).cells s.trail s.top s.trailed c₁ t₁ h.trail_good_lem cw entry_same)
        (elim (dec_lt t₁ 1) [
          | yes l ↦ rw (← no_low (rolled s k).cells t₁ l, lt-leb 1 t₁ l)
          | no l ↦ rw (le-leb 1 t₁ (omega arith), formed_left s.cells (rolled s k).cells freed s.top t₁ wf tw (omega arith) same free (rw (length_zeroed t₁ u₁ top_fits) top_fits) (zeroed_below t₁ u₁ top_fits 0 (omega arith) ∙ not_freed 0 zero_kept ∙ wf.zeroth) (zeroed_from t₁ u₁ top_fits)) (last (cells_left s.cells freed t₁) (trail_left s.trail c₁ t₁))
        ])
      where
        last : (x y : Bool) → (x && (y && true)) ≡ (x && y)
        last true true = refl
        last true false = refl
        last false y = refl
