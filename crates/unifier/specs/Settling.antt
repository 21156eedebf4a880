-- What a run past the refusals comes to: the plain run's ending, and for a checked call one cycle test at a root, decide between the cells that the run left and those at entry.
use Rattle.std.specs.List.{list_all, slice_range}
use Rattle.std.specs.Prelude.{◌≡◌, Bool, not, ◌&&◌, ◌||◌, ℕ, ◌-◌, ◌≤◌, length, get_or, Ok, Err}
use Rattle.std.proofs.Math.Path.{refl, ap, subst}
use Rattle.std.proofs.Common.{sym, ◌∙◌, arith}
use Rattle.std.proofs.Math.Bool.{true, false}
use Rattle.std.proofs.lemmas.Bool.{false≢true}
use mathlib.Core.List.{List, ◌++◌}
use Rattle.std.proofs.Math.ListN.{replicate}
use Rattle.cell.specs.declared.Refusal.{Refusal}
use Rattle.store.specs.Store.{limit, kind_at, term_at, WellFormed}
use Rattle.store.specs.Steps.{term_used}
use Rattle.store.specs.Zeros.{zeroed}
use Rattle.trail.specs.State.{State, state_of, Outcome, done, failed, refused}
use Rattle.marks.specs.Unbind.{unbind, Names}
use Rattle.cycle.specs.Graph.{Cyclic}
use Rattle.cycle.specs.Verdict.{cyclic_at}
use Rattle.cycle.specs.Cyclic.{cyclic_true}
use Rattle.chains.specs.Work.{work_need, cleared}
use Rattle.unification.specs.Machine.{Ending, yes, clashes, occurs, late, unified}
use Rattle.unification.specs.Calls.{Result, answered, plain_check, plainly, checkedly, check_by, call_by}
use Rattle.unification.specs.Nodes.{term_shape}
use Rattle.unification.specs.TermOf.{finite}
use Rattle.unification.proofs.PlainThenTest.{live_end}
use Rattle.unification.specs.Flat.{flat_kind, bound_flat}
use Rattle.unification.proofs.Flat.{flat_straight}
use Rattle.unification.specs.Asked.{Asked}
use Rattle.unification.proofs.Asked.{asked, asks, checked_asked, checked_asks, asked_store, asked_live, plain_says, checked_says, answered_yes, answered_no}
use Rattle.unification.proofs.Theorems.{plain_refused, checked_refused, plain_then_yes, plain_then_cycle, plain_then_no}
use Rattle.unify.specs.Internal.{lent, Begins, Ended, Left}
use Rattle.unifier.specs.Undone.{new_names, cells_back, trail_back, rest_kept}
use Rattle.unifier.specs.Named.{named_flat}

-- neither root reaches a cycle
abbrev Straight : State → ℕ → ℕ → Type 0
Straight s a b = (cyclic_at s.cells s.top a ≡ false) × (cyclic_at s.cells s.top b ≡ false)

-- no refusal of the call holds: none from 1 to 5, and of a checked call not 6
pub record Passed (checked : Bool) (s : State) (work : List ℕ) (a b : ℕ) : Type 0 where
  pub asked : Asked s work a b
  pub acyclic : checked ≡ true → Straight s a b

module _ (checked : Bool) (s : State) (work : List ℕ) (a b : ℕ) (p : Passed checked s work a b) where
  pub begins : Begins s work a b
  begins = let k = p.asked in record { store = asked_store s work a b k; left = k.left; right = k.right; wide = k.wide; room = k.room }

  -- ---- the two calls, by the run that each makes
  passes : plain_check s work a b ≡ Ok tt
  passes = asks s work a b p.asked

  plain_is : {r : Result} → answered s work (unified false s a b) ≡ r → plainly s work a b ≡ r
  plain_is e = plain_says s work a b passes ∙ e

  module _ (q : Straight s a b) where
    checked_is : {r : Result} → checkedly s work a b ≡ r → answered s work (unified true s a b) ≡ r
    checked_is e = sym (checked_says s work a b (checked_asks s work a b passes q.0 q.1)) ∙ e

    root_acyclic : (i : ℕ) → term_at s.cells s.top i ≡ true → cyclic_at s.cells s.top i ≡ false → Cyclic s.cells i → ⊥
    root_acyclic i t n z =
        let u = term_used s.cells s.top i t in
        false≢true (sym n ∙ cyclic_true s.cells s.top (asked_store s work a b p.asked) i u.0 u.1 z)

    acyclic : (Cyclic s.cells a → ⊥) × (Cyclic s.cells b → ⊥)
    acyclic = (root_acyclic a p.asked.left q.0, root_acyclic b p.asked.right q.1)

  -- ---- past the run
  module _ (cells trail : List ℕ) (trailed : ℕ) (work' : List ℕ) (ok : Bool) (l : Left s work a b cells trail trailed work' ok) where
    -- after a yes the store is well formed, and the root stands for a term
    pub yes_store : ok ≡ true → WellFormed cells s.top × (term_at cells s.top a ≡ true)
    unfolding unified
    yes_store = go ok l.ended
      where
        go : (ok : Bool) → Ended s a b cells trail trailed ok → ok ≡ true → WellFormed cells s.top × (term_at cells s.top a ≡ true)
        go false h e = absurd (false≢true e)
        go true (m, h, c, _, _) e =
            let k = p.asked in
            let v = (live_end s (asked_store s work a b k) a b (asked_live s work a b k) false m h).1 in
            subst (λ (x : List ℕ). WellFormed x s.top × (term_at x s.top a ≡ true)) c (v.store, term_shape s.cells m.cells s.top a (sym v.shape) k.left)

    -- what it takes to undo the run
    pub undoable : Names trail s.trailed trailed (length cells) × Names trail s.trailed trailed limit × ((i : ℕ) → trailed ≤ i → get_or trail i 0 ≡ 0)
    undoable =
        let w = l.wrote in
        let h = begins.store in
        let r = h.room in
        let z = w.cells_size in
        let names = new_names s cells trail trailed w in
        (names (length cells) (omega arith), names limit h.high, rest_kept s cells trail trailed w p.asked.held.trail_good_lem.rest)

    -- of the work buffer only words that are cleared have changed
    words : cleared (work_need s.top) work' ≡ cleared (work_need s.top) work
    unfolding cleared
    words = ap (λ (x : List ℕ). replicate (work_need s.top) 0 ++ x) l.rest

    -- the two results: what the run left, and the state at entry
    abbrev kept : Result
    kept = (done 0, state_of cells s.top trail trailed s.marks s.marked, cleared (work_need s.top) work)

    abbrev undone : Result
    undone = (failed, s, cleared (work_need s.top) work)

    plain_kept : Ended s a b cells trail trailed true → answered s work (unified false s a b) ≡ kept
    plain_kept (m, h, c, t, n) =
        answered_yes s work a b (unified false s a b) m h ∙ λ i. (done 0, state_of (c i) s.top (t i) (n i) s.marks s.marked, cleared (work_need s.top) work)

    plain_undone : Ended s a b cells trail trailed false → answered s work (unified false s a b) ≡ undone
    plain_undone h = answered_no s work a b (unified false s a b) (λ m e. cc)

    -- the test after the run, where the call is checked
    abbrev pub accepts : Bool
    accepts = ok && not (checked && cyclic_at cells s.top a)

    -- it did not reach one before, so the test may be left out where no variable was bound to a Str or a Lis
    pub still_accepts : {v : Bool} → v ≡ (not checked || list_all (λ e. flat_kind (kind_at cells e)) (slice_range trail s.trailed trailed) || not (cyclic_at cells s.top a)) → (ok && v) ≡ accepts
    unfolding unified
    still_accepts e = rw (e, named_flat trail undoable.0 cells) (go checked ok p.acyclic l.ended (bound_flat cells trail s.trailed trailed) refl)
      where
        straight : cyclic_at s.cells s.top a ≡ false → Ended s a b cells trail trailed true → bound_flat cells trail s.trailed trailed ≡ true → cyclic_at cells s.top a ≡ false
        straight q (m, h, c, t, n) f =
            let k = p.asked in
            let wf = asked_store s work a b k in
            let o = finite s.cells s.top wf a k.left q in
            subst (λ (x : List ℕ). cyclic_at x s.top a ≡ false) c (flat_straight s wf a b (asked_live s work a b k) m h (rw (c, t, n) f) a k.left o.term o.stands)

        go : (c ok : Bool) → (c ≡ true → Straight s a b) → Ended s a b cells trail trailed ok → (x : Bool) → bound_flat cells trail s.trailed trailed ≡ x → (ok && (not c || x || not (cyclic_at cells s.top a))) ≡ (ok && not (c && cyclic_at cells s.top a))
        go c false q h x f = refl
        go false true q h x f = refl
        go true true q h false f = refl
        go true true q h true f = ap not (sym (straight (q refl).0 h f))

    ends_kept : accepts ≡ true → answered s work (unified checked s a b) ≡ kept
    ends_kept = go checked ok p.acyclic l.ended (cyclic_at cells s.top a) refl
      where
        go : (checked ok : Bool) → (checked ≡ true → Straight s a b) → Ended s a b cells trail trailed ok → (x : Bool) → cyclic_at cells s.top a ≡ x → (ok && not (checked && x)) ≡ true → answered s work (unified checked s a b) ≡ kept
        go checked false q h x e t = absurd (false≢true t)
        go false true q h x e t = plain_kept h
        go true true q h true e t = absurd (false≢true t)
        go true true q h false e t = let n = acyclic (q refl) in checked_is (q refl) (plain_then_yes s work a b passes n.0 n.1 _ _ (plain_is (plain_kept h)) e)

    ends_undone : accepts ≡ false → answered s work (unified checked s a b) ≡ undone
    ends_undone = go checked ok p.acyclic l.ended (cyclic_at cells s.top a) refl
      where
        go : (checked ok : Bool) → (checked ≡ true → Straight s a b) → Ended s a b cells trail trailed ok → (x : Bool) → cyclic_at cells s.top a ≡ x → (ok && not (checked && x)) ≡ false → answered s work (unified checked s a b) ≡ undone
        go false true q h x e t = absurd (false≢true (sym t))
        go true true q h false e t = absurd (false≢true (sym t))
        go false false q h x e t = plain_undone h
        go true false q h x e t = let n = acyclic (q refl) in checked_is (q refl) (plain_then_no s work a b passes n.0 n.1 _ _ (plain_is (plain_undone h)))
        go true true q h true e t = let n = acyclic (q refl) in checked_is (q refl) (plain_then_cycle s work a b passes n.0 n.1 _ _ (plain_is (plain_kept h)) e)

    -- ---- with the work words cleared: yes keeps what the run left
    module _ (n : ℕ) (work'' : List ℕ) (size : n ≡ work_need s.top) (zero : work'' ≡ cleared n work') where
      left_words : work'' ≡ cleared (work_need s.top) work
      left_words = zero ∙ ap (λ (k : ℕ). cleared k work') size ∙ words

      pub settled_yes : accepts ≡ true → (done 0, state_of cells s.top trail trailed s.marks s.marked, work'') ≡ answered s work (unified checked s a b)
      settled_yes t = (λ i. (done 0, state_of cells s.top trail trailed s.marks s.marked, left_words i)) ∙ sym (ends_kept t)

      -- and no undoes it
      pub settled_no : accepts ≡ false → (back entries : List ℕ) → back ≡ unbind trail s.trailed (trailed - s.trailed) cells → entries ≡ zeroed s.trailed trail → (failed, state_of back s.top entries s.trailed s.marks s.marked, work'') ≡ answered s work (unified checked s a b)
      settled_no f back entries cb tb =
          let h = (asked_store s work a b p.asked).room in
          let z = l.wrote.cells_size in
          let q = cells_back s cells trail trailed l.wrote (omega arith) back cb in
          let r = trail_back s cells trail trailed l.wrote p.asked.held.trail_good_lem.rest entries tb in
          (λ i. (failed, state_of (q i) s.top (r i) s.trailed s.marks s.marked, left_words i)) ∙ sym (ends_undone f)

-- ---- the marks, in which a run has no part
-- a result with these marks
abbrev beside : List ℕ → ℕ → Result → Result
beside marks marked r = (r.0, state_of r.1.cells r.1.top r.1.trail r.1.trailed marks marked, r.2)

module _ (checked : Bool) (s : State) (work : List ℕ) (a b : ℕ) where
  abbrev bare : State
  bare = lent s.cells s.top s.trail s.trailed

  pub passed_lent : Passed checked s work a b → Passed checked bare work a b
  passed_lent p =
      let k = p.asked in
      record {
        asked =
            record {
              held = record { cells_good = k.held.cells_good; trail_good_lem = k.held.trail_good_lem; marks_good_lem = record { fits = omega arith; each = λ m h. absurd (omega arith); rest = λ i h. refl } };
              left = k.left;
              right = k.right;
              wide = k.wide;
              room = k.room;
            };
        acyclic = p.acyclic;
      }

  answered_beside : (o : Ending) → beside s.marks s.marked (answered bare work o) ≡ answered s work o
  unfolding answered
  answered_beside (yes m) = refl
  answered_beside clashes = refl
  answered_beside occurs = refl
  answered_beside late = refl

  pub settled_beside : (o : Outcome) (cells trail : List ℕ) (trailed : ℕ) (work' : List ℕ) → (o, lent cells s.top trail trailed, work') ≡ answered bare work (unified checked bare a b) → (o, state_of cells s.top trail trailed s.marks s.marked, work') ≡ answered s work (unified checked s a b)
  unfolding unified
  settled_beside o cells trail trailed work' e = ap (beside s.marks s.marked) e ∙ answered_beside (unified checked s a b)

-- ---- a call of either kind, by its check
module _ (s : State) (work : List ℕ) (a b : ℕ) where
  pub check_passes : (checked : Bool) → check_by checked s work a b ≡ Ok tt → Passed checked s work a b
  check_passes false c = record { asked = asked s work a b c; acyclic = λ e. absurd (false≢true e) }
  check_passes true c = let k = checked_asked s work a b c in record { asked = k.0; acyclic = λ _. (k.1, k.2) }

  pub call_says : (checked : Bool) → check_by checked s work a b ≡ Ok tt → call_by checked s work a b ≡ answered s work (unified checked s a b)
  call_says false c = plain_says s work a b c
  call_says true c = checked_says s work a b c

  pub call_refuses : (checked : Bool) (e : Refusal) → check_by checked s work a b ≡ Err e → (refused e, s, work) ≡ call_by checked s work a b
  call_refuses false e c = sym (plain_refused s work a b e c)
  call_refuses true e c = sym (checked_refused s work a b e c)
