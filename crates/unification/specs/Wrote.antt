-- What a run has written so far: only cells that were unbound Vars, each trailed once; so the trail's room is enough, the trail keeps its rules, and unbinding the new entries, in any order, gives the cells at entry back.
use Rattle.std.specs.Prelude.{◌≡◌, refl, true, not, ◌&&◌, List, [], ◌∷◌, ◌⊎◌, ℕ, ◌+◌, ◌<◌, ◌≤◌, leb, length, set}
use Rattle.std.proofs.Common.{sym, ap, subst, ◌∙◌, inl, inr, ⊎_elim, length-set, get_or-set_same, get_or-set_other, ext_get_or}
use Rattle.std.proofs.Math.Bool.{and-eq-true_iff}
use native.Mathlib.Omega.{arith}
use Rattle.std.proofs.Math.Decide.{ℕ_discrete, dec_lt}
use Rattle.std.proofs.Math.Dec.{ltb}
use Rattle.std.proofs.Math.ListN.{get_or}
use borrow.Author.Tests.{le-leb, lt-ltb, eqb-false, eq-eqb, ne_eqb, not-true}
use Rattle.cell.specs.Word.{var_word}
use Rattle.cell.specs.Kinds.{kind_of}
use Rattle.cell.specs.declared.Kind.TheVariants.{Var}
use Rattle.store.specs.Store.{kind_at, well_formed}
use Rattle.trail.specs.Rules.{names_bound, unbound_at}
use Rattle.trail.specs.State.{State, state_of}
use Rattle.trail.specs.Seen.{Named}
use Rattle.trail.specs.Facts.{TrailGood, MarksGood, Holds, bound_used}
use Rattle.unification.specs.Calls.{free_at, unbound}
use Rattle.unification.specs.Sums.{sum_at}

-- what has been written since the state s, which led to these cells, this trail and this count
pub record Wrote (s : State) (cells trail : List ℕ) (trailed : ℕ) : Type 0 where
  pub cells_size : length cells ≡ length s.cells
  pub trail_size : length trail ≡ length s.trail
  pub more : s.trailed ≤ trailed
  -- each write takes one unbound Var and one entry, and there was an entry for each at the start
  pub level : trailed + unbound cells s.top ≡ s.trailed + unbound s.cells s.top
  pub room : s.trailed + unbound s.cells s.top ≤ length s.trail
  -- the entries before the new ones, and the rest behind them, are as they were
  pub before : (i : ℕ) → i < s.trailed → get_or trail i 0 ≡ get_or s.trail i 0
  pub after : (i : ℕ) → trailed ≤ i → get_or trail i 0 ≡ get_or s.trail i 0
  -- each new entry names a used cell that was an unbound Var and is none now
  pub used : (i : ℕ) → s.trailed ≤ i → i < trailed → (1 ≤ get_or trail i 0) × (get_or trail i 0 < s.top)
  pub free : (i : ℕ) → s.trailed ≤ i → i < trailed → get_or s.cells (get_or trail i 0) 0 ≡ var_word (get_or trail i 0)
  pub bound : (i : ℕ) → s.trailed ≤ i → i < trailed → get_or cells (get_or trail i 0) 0 ≡ var_word (get_or trail i 0) → ⊥
  -- and that, if it is a bound Var now, names one that was unbound too
  pub target : (i : ℕ) → s.trailed ≤ i → i < trailed → (w : ℕ) → kind_at cells (get_or trail i 0) ≡ Var w → get_or s.cells w 0 ≡ var_word w
  -- all are different
  pub apart : (i j : ℕ) → s.trailed ≤ j → j < i → i < trailed → get_or trail j 0 ≡ get_or trail i 0 → ⊥
  -- a cell that no new entry names is as it was
  pub same : (j : ℕ) → (get_or cells j 0 ≡ get_or s.cells j 0) ⊎ Named trail s.trailed trailed j

pub wrote_start : (s : State) → s.trailed + unbound s.cells s.top ≤ length s.trail → Wrote s s.cells s.trail s.trailed
wrote_start s r =
    record {
      cells_size = refl;
      trail_size = refl;
      more = omega arith;
      level = refl;
      room = r;
      before = λ i _. refl;
      after = λ i _. refl;
      used = λ i a b. absurd (omega arith);
      free = λ i a b. absurd (omega arith);
      bound = λ i a b. absurd (omega arith);
      target = λ i a b. absurd (omega arith);
      apart = λ i j a b c. absurd (omega arith);
      same = λ j. inl refl;
    }

-- ---- unbinding
-- the cells with each of those listed unbound, one after the other
unfoldable pub unbinding : List ℕ → List ℕ → List ℕ
unbinding [] cells = cells
unbinding (e ∷ es) cells = unbinding es (set cells e (var_word e))

-- j is listed
abbrev pub Listed : List ℕ → ℕ → Type 0
Listed [] j = ⊥
Listed (e ∷ es) j = (e ≡ j) ⊎ Listed es j

pub length_unbinding : (es cells : List ℕ) → length (unbinding es cells) ≡ length cells
unfolding unbinding
length_unbinding [] cells = refl
length_unbinding (e ∷ es) cells = length_unbinding es (set cells e (var_word e)) ∙ length-set cells e (var_word e)

unbound_stays : (es cells : List ℕ) (j : ℕ) → j < length cells → get_or cells j 0 ≡ var_word j → get_or (unbinding es cells) j 0 ≡ var_word j
unfolding unbinding
unbound_stays [] cells j h e = e
unbound_stays (x ∷ es) cells j h e =
    unbound_stays es (set cells x (var_word x)) j (let z = length-set cells x (var_word x) in omega arith)
    (elim (ℕ_discrete j x) [
      | yes q ↦ ap (λ (y : ℕ). get_or (set cells y (var_word y)) j 0) (sym q) ∙ get_or-set_same cells j (var_word j) 0 h
      | no q ↦ get_or-set_other cells x j (var_word x) 0 q ∙ e
    ])

listed_unbound : (es cells : List ℕ) (j : ℕ) → j < length cells → Listed es j → get_or (unbinding es cells) j 0 ≡ var_word j
unfolding unbinding
listed_unbound [] cells j h n = absurd n
listed_unbound (x ∷ es) cells j h (inl q) =
    unbound_stays es (set cells x (var_word x)) j (let z = length-set cells x (var_word x) in omega arith) (ap (λ (y : ℕ). get_or (set cells y (var_word y)) j 0) q ∙ get_or-set_same cells j (var_word j) 0 h)
listed_unbound (x ∷ es) cells j h (inr n) = listed_unbound es (set cells x (var_word x)) j (let z = length-set cells x (var_word x) in omega arith) n

unlisted_same : (es cells : List ℕ) (j : ℕ) → (Listed es j → ⊥) → get_or (unbinding es cells) j 0 ≡ get_or cells j 0
unfolding unbinding
unlisted_same [] cells j n = refl
unlisted_same (x ∷ es) cells j n = unlisted_same es (set cells x (var_word x)) j (λ l. n (inr l)) ∙ get_or-set_other cells x j (var_word x) 0 (λ q. n (inl (sym q)))

module _ (s : State) (cells trail : List ℕ) (trailed : ℕ) (w : Wrote s cells trail trailed) where
  -- an unbound Var is as it was at entry
  old_free : (v : ℕ) → get_or cells v 0 ≡ var_word v → get_or s.cells v 0 ≡ var_word v
  old_free v e = ⊎_elim (λ q. sym q ∙ e) (λ n. absurd (w.bound n.0 n.1 n.2 (subst (λ (x : ℕ). get_or cells x 0 ≡ var_word x) (sym n.3) e))) (w.same v)

  -- and so no new entry names it
  not_named : (v : ℕ) → get_or cells v 0 ≡ var_word v → (i : ℕ) → s.trailed ≤ i → i < trailed → get_or trail i 0 ≡ v → ⊥
  not_named v e i a b q = w.bound i a b (subst (λ (x : ℕ). get_or cells x 0 ≡ var_word x) (sym q) e)

  -- there is an entry for each unbound Var
  pub entry_free : (v : ℕ) → v < s.top → get_or cells v 0 ≡ var_word v → trailed < length trail
  unfolding unbound
  entry_free v h e =
      let one : free_at cells v ≡ 1 = rw (eq-eqb (get_or cells v 0) (var_word v) e) in
      let n = sum_at (free_at cells) v s.top 0 (omega arith) (omega arith) in
      let l = w.level in
      let r = w.room in
      let z = w.trail_size in
      omega arith

  -- one write
  module _ (v x : ℕ) (l : 1 ≤ v) (h : v < s.top) (here : v < length cells) (e : get_or cells v 0 ≡ var_word v) (n : get_or (set cells v x) v 0 ≡ var_word v → ⊥) (to : (t : ℕ) → kind_of x ≡ Var t → get_or cells t 0 ≡ var_word t) (less : unbound cells s.top ≡ unbound (set cells v x) s.top + 1) where
    abbrev entries : List ℕ
    entries = set trail trailed v

    last : get_or entries trailed 0 ≡ v
    last = get_or-set_same trail trailed v 0 (entry_free v h e)

    old : (i : ℕ) → i < trailed → get_or entries i 0 ≡ get_or trail i 0
    old i b = get_or-set_other trail trailed i v 0 (omega arith)

    -- what holds of v, and of the new entries before, holds of all new entries
    each : (P : ℕ → Type 0) → P v → ((i : ℕ) → s.trailed ≤ i → i < trailed → P (get_or trail i 0)) → (i : ℕ) → s.trailed ≤ i → i < trailed + 1 → P (get_or entries i 0)
    each P p f i a b =
        elim (ℕ_discrete i trailed) [
          | yes q ↦ subst (λ (k : ℕ). P (get_or entries k 0)) (sym q) (subst P (sym last) p)
          | no q ↦ subst P (sym (old i (omega arith))) (f i a (omega arith))
        ]

    still : (i : ℕ) → s.trailed ≤ i → i < trailed → get_or (set cells v x) (get_or trail i 0) 0 ≡ var_word (get_or trail i 0) → ⊥
    still i a b z = w.bound i a b (sym (get_or-set_other cells v (get_or trail i 0) x 0 (not_named v e i a b)) ∙ z)

    aims : (i : ℕ) → s.trailed ≤ i → i < trailed → (t : ℕ) → kind_at (set cells v x) (get_or trail i 0) ≡ Var t → get_or s.cells t 0 ≡ var_word t
    aims i a b t z = w.target i a b t (ap kind_of (sym (get_or-set_other cells v (get_or trail i 0) x 0 (not_named v e i a b))) ∙ z)

    differ : (i j : ℕ) → s.trailed ≤ j → j < i → i < trailed + 1 → get_or entries j 0 ≡ get_or entries i 0 → ⊥
    differ i j a b c q =
        elim (ℕ_discrete i trailed) [
          | yes z ↦ not_named v e j a (omega arith) (sym (old j (omega arith)) ∙ q ∙ ap (λ (k : ℕ). get_or entries k 0) z ∙ last)
          | no z ↦ w.apart i j a b (omega arith) (sym (old j (omega arith)) ∙ q ∙ old i (omega arith))
        ]

    same_or : (j : ℕ) → (get_or (set cells v x) j 0 ≡ get_or s.cells j 0) ⊎ Named entries s.trailed (trailed + 1) j
    same_or j =
        let m = w.more in
        elim (ℕ_discrete j v) [
          | yes q ↦ inr (trailed, m, omega arith, last ∙ sym q)
          | no q ↦ ⊎_elim (λ z. inl (get_or-set_other cells v j x 0 q ∙ z)) (λ z. let b = z.2 in inr (z.0, z.1, omega arith, old z.0 z.2 ∙ z.3)) (w.same j)
        ]

    pub wrote_more : Wrote s (set cells v x) entries (trailed + 1)
    wrote_more =
        let m = w.more in
        let k = w.level in
        record {
          cells_size = length-set cells v x ∙ w.cells_size;
          trail_size = length-set trail trailed v ∙ w.trail_size;
          more = omega arith;
          level = omega arith;
          room = w.room;
          before = λ i b. old i (omega arith) ∙ w.before i b;
          after = λ i b. get_or-set_other trail trailed i v 0 (omega arith) ∙ w.after i (omega arith);
          used = each (λ (y : ℕ). (1 ≤ y) × (y < s.top)) (l, h) w.used;
          free = each (λ (y : ℕ). get_or s.cells y 0 ≡ var_word y) (old_free v e) w.free;
          bound = each (λ (y : ℕ). get_or (set cells v x) y 0 ≡ var_word y → ⊥) n still;
          target = each (λ (y : ℕ). (t : ℕ) → kind_at (set cells v x) y ≡ Var t → get_or s.cells t 0 ≡ var_word t) (λ t z. old_free t (to t (ap kind_of (sym (get_or-set_same cells v x 0 here)) ∙ z))) aims;
          apart = differ;
          same = same_or;
        }

  -- ---- undoing: cells that are unbound where a new entry names them, and else as they are, are the cells at entry
  pub undone : (back : List ℕ) → length back ≡ length cells → ((j : ℕ) → Named trail s.trailed trailed j → get_or back j 0 ≡ var_word j) → ((j : ℕ) → (Named trail s.trailed trailed j → ⊥) → get_or back j 0 ≡ get_or cells j 0) → back ≡ s.cells
  undone back z u k = ext_get_or 0 back s.cells (z ∙ w.cells_size) (λ j _. at j (w.same j))
    where
      named : (j : ℕ) → Named trail s.trailed trailed j → get_or back j 0 ≡ get_or s.cells j 0
      named j n = u j n ∙ sym (subst (λ (x : ℕ). get_or s.cells x 0 ≡ var_word x) n.3 (w.free n.0 n.1 n.2))

      at : (j : ℕ) → (get_or cells j 0 ≡ get_or s.cells j 0) ⊎ Named trail s.trailed trailed j → get_or back j 0 ≡ get_or s.cells j 0
      at j (inr n) = named j n
      at j (inl q) =
          elim (ℕ_discrete (get_or back j 0) (get_or cells j 0)) [
            | yes p ↦ p ∙ q
            | no p ↦ absurd (p (k j (λ n. p (u j n ∙ sym (subst (λ (x : ℕ). get_or s.cells x 0 ≡ var_word x) n.3 (w.free n.0 n.1 n.2)) ∙ sym q))))
          ]

  -- so unbinding the new entries, in any order and however often each is listed, gives the cells at entry back
  pub undone_by : (es : List ℕ) → s.top ≤ length cells → ((j : ℕ) → Named trail s.trailed trailed j → Listed es j) → ((j : ℕ) → Listed es j → Named trail s.trailed trailed j) → unbinding es cells ≡ s.cells
  undone_by es h all only =
      undone (unbinding es cells) (length_unbinding es cells)
      (λ j n. listed_unbound es cells j (let u = w.used n.0 n.1 n.2 in let q = n.3 in omega arith) (all j n))
      (λ j n. unlisted_same es cells j (λ l. n (only j l)))

  -- ---- the rules of the trail and the marks
  module _ (t : Holds s) where
    abbrev was : TrailGood s.cells s.top s.trail s.trailed
    was = t.trail_good_lem

    -- an entry at the start named a cell that is no unbound Var, and names it still
    was_bound : (i : ℕ) → i < s.trailed → get_or s.cells (get_or s.trail i 0) 0 ≡ var_word (get_or s.trail i 0) → ⊥
    unfolding names_bound
    was_bound i b =
        let e = get_or s.trail i 0 in
        eqb-false _ _ (not-true (unbound_at s.cells e) ((and-eq-true_iff (leb 1 e && ltb e s.top) (not (unbound_at s.cells e))).0 (was.bound i b)).1)

    names : (e : ℕ) → (1 ≤ e) × (e < s.top) → (get_or cells e 0 ≡ var_word e → ⊥) → names_bound cells s.top e ≡ true
    unfolding names_bound
    names e u b = rw (le-leb 1 e u.0, lt-ltb e s.top u.1, ne_eqb (get_or cells e 0) (var_word e) b)

    pub trail_kept : TrailGood cells s.top trail trailed
    trail_kept =
        let k = w.level in
        let r = w.room in
        let z = w.trail_size in
        record {
          fits = omega arith;
          bound = λ i b. elim (dec_lt i s.trailed) [
            | yes o ↦ subst (λ (e : ℕ). names_bound cells s.top e ≡ true) (sym (w.before i o)) (names (get_or s.trail i 0) (bound_used s.cells s.top _ (was.bound i o)) (λ q. was_bound i o (old_free (get_or s.trail i 0) q)))
            | no o ↦ names (get_or trail i 0) (w.used i (omega arith) b) (w.bound i (omega arith) b)
          ];
          apart = λ i j b c q. elim (dec_lt j s.trailed) [
            | yes o ↦ elim (dec_lt i s.trailed) [
              | yes p ↦ was.apart i j b p (sym (w.before j o) ∙ q ∙ w.before i p)
              | no p ↦ was_bound j o (subst (λ (x : ℕ). get_or s.cells x 0 ≡ var_word x) (sym q ∙ w.before j o) (w.free i (omega arith) c))
            ]
            | no o ↦ w.apart i j (omega arith) b c q
          ];
          rest = λ i b. w.after i b ∙ was.rest i (let m = w.more in omega arith);
        }

    marks_kept : MarksGood s.top trailed s.marks s.marked
    marks_kept =
        let g = t.marks_good_lem in
        let m = w.more in
        record {
          fits = g.fits;
          each = λ k b. let q = g.each k b in let y = q.trail_within in record { top_rises = q.top_rises; trail_rises = q.trail_rises; top_within = q.top_within; trail_within = omega arith };
          rest = g.rest;
        }

    pub holds_kept : well_formed cells s.top ≡ true → Holds (state_of cells s.top trail trailed s.marks s.marked)
    holds_kept h = record { cells_good = h; trail_good_lem = trail_kept; marks_good_lem = marks_kept }
