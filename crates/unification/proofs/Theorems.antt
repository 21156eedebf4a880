-- What unification promises, of any state, work buffer and roots: stated over words and over the results of the two calls. Terms, substitutions and unifiers are those of ISO/IEC 13211-1, 7.1 and 7.3; checked unification is its 8.2.2.
use Rattle.std.specs.Prelude.{◌≡◌, Bool, ◌↔◌, ℕ, ◌+◌, ◌*◌, ◌≤◌, length, Ok, Err}
use Rattle.std.proofs.Math.Path.{refl, sym, ap, subst}
use Rattle.std.proofs.Common.{◌∙◌}
use Rattle.std.proofs.Math.Bool.{true, false, false≢true}
use mathlib.Core.List.{List}
use Rattle.std.proofs.Math.Logic.{⊎_elim}
use Rattle.cell.specs.declared.Refusal.{Refusal}
use Rattle.store.specs.Store.{term_at, WellFormed}
use Rattle.store.specs.Steps.{term_used}
use Rattle.store.specs.WellFormed.{whole}
use Rattle.trail.specs.State.{State, done, failed, refused}
use Rattle.trail.specs.Seen.{Named}
use Rattle.cycle.specs.Graph.{Cyclic}
use Rattle.cycle.specs.Verdict.{cyclic_at}
use Rattle.cycle.specs.Cyclic.{acyclic_acc, acc_false}
use Rattle.terms.specs.View.{Shape, look_at, shape_of}
use Rattle.terms.specs.Term.{Term}
use Rattle.terms.specs.Stands.{Stands}
use Rattle.terms.specs.Finite.{StandsAt, OneTerm}
use Rattle.unification.specs.Machine.{Machine, Ending, yes, clashes, occurs, late, unified, start, fuel}
use Rattle.chains.specs.Work.{work_need, cleared}
use Rattle.unification.specs.Calls.{plain_check, checked_check, Result, left_by, answered, plainly, checkedly}
use Rattle.unification.specs.Trees.{Label, Solves, Agree, SolvesAt, AgreeAt}
use Rattle.unification.specs.Substitution.{inst, Unifies}
use Rattle.unification.specs.Live.{Live, Ends}
use Rattle.unification.proofs.Live.{run_keeps}
use Rattle.unification.proofs.Sound.{Keeps, sound, no_solution}
use Rattle.unification.specs.Wrote.{holds_kept, Listed, unbinding, undone_by}
use Rattle.unification.specs.TermOf.{finite}
use Rattle.unification.proofs.Checked.{unifier_yes, came, came_stands, came_unifies, most_general}
use Rattle.unification.proofs.PlainThenTest.{same_or_occurs, live_end, roots_agree, checked_then, acyclic_then}
use Rattle.unification.specs.Asked.{Asked}
use Rattle.unification.proofs.Asked.{asked, asks, checked_asked, checked_asks, asked_store, asked_live, from_yes, from_no, plain_says, checked_says, answered_no}
use Rattle.unification.specs.Standing.{Comes}
use Rattle.unification.proofs.Standing.{comes_live, standing}
use Rattle.unification.specs.Theorems.{Unifiable, Solved, Leaves}

module _ (s : State) (work : List ℕ) (a b : ℕ) where
  abbrev top : ℕ
  top = s.top

  -- ---- a run ends, and its pairs have room
  -- the fuel is never spent
  pub never_late : (check : Bool) → plain_check s work a b ≡ Ok tt → unified check s a b ≡ late → ⊥
  unfolding unified
  never_late check c e =
      let k = asked s work a b c in
      subst (Ends s (λ _. Unit {0}) (Unit {0}) (Unit {0})) e
      (run_keeps s check (λ _. Unit {0}) (Unit {0}) (Unit {0}) (λ _ _ _ _ _ _ _ _. tt) (λ _ _ _ _ _. tt) (λ _ _ _ _ _ _. tt) (fuel top) (start s a b) (asked_live s work a b k) tt)

  -- at most 3 x `top` + 1 pairs ever stand
  pub pairs_fit : (check : Bool) → plain_check s work a b ≡ Ok tt → {m : Machine} → Comes check s a b m → length m.pairs ≤ 3 * top + 1
  pairs_fit check c = standing s check a b (asked_live s work a b (asked s work a b c))

  -- whatever a run comes to is a well-formed store, and unbinding what it has trailed, in any order, gives the cells at entry back
  pub run_store : (check : Bool) → plain_check s work a b ≡ Ok tt → {m : Machine} → Comes check s a b m → WellFormed m.cells top
  run_store check c r = (comes_live s check a b (asked_live s work a b (asked s work a b c)) r).2.store

  pub run_undone : (check : Bool) → plain_check s work a b ≡ Ok tt → {m : Machine} → Comes check s a b m → (es : List ℕ) → ((j : ℕ) → Named m.trail s.trailed m.trailed j ↔ Listed es j) → unbinding es m.cells ≡ s.cells
  run_undone check c {m} r es n =
      let l = (comes_live s check a b (asked_live s work a b (asked s work a b c)) r).2 in
      undone_by s m.cells m.trail m.trailed l.wrote es l.store.room (λ j. (n j).0) (λ j. (n j).1)

  -- ---- the words that are left
  -- a refusal changes nothing; each is given exactly where the check gives it
  pub plain_refused : (e : Refusal) → plain_check s work a b ≡ Err e → plainly s work a b ≡ (refused e, s, work)
  unfolding plainly
  plain_refused e c = rw c

  pub checked_refused : (e : Refusal) → checked_check s work a b ≡ Err e → checkedly s work a b ≡ (refused e, s, work)
  unfolding checkedly
  checked_refused e c = rw c

  module _ (check : Bool) (c : plain_check s work a b ≡ Ok tt) (m : Machine) (e : unified check s a b ≡ yes m) where
    ended : (f : ℕ) × Live s f m
    unfolding unified
    ended = let k = asked s work a b c in live_end s (asked_store s work a b k) a b (asked_live s work a b k) check m e

    leaves : Leaves s (left_by s m)
    leaves =
        let w = ended.1.wrote in
        record { wrote = w; top_same = refl; marks_same = refl; marked_same = refl; rules = holds_kept s m.cells m.trail m.trailed w (asked s work a b c).held (whole m.cells top ended.1.store) }

    same_shape : shape_of m.cells ≡ shape_of s.cells
    same_shape = ended.1.shape

    agree_now : AgreeAt m.cells top a b
    unfolding unified
    agree_now d = let k = asked s work a b c in subst (λ (h : Shape). Agree h (look_at m.cells top) d a b) (sym same_shape) (roots_agree s (asked_store s work a b k) a b (asked_live s work a b k) check m e d)

  -- after a yes, and after a no: the state, and the work words
  pub plain_leaves : (t : State) (w : List ℕ) → plainly s work a b ≡ (done 0, t, w) → Leaves s t × (w ≡ cleared (work_need top) work)
  unfolding plainly
  plain_leaves t w h =
      let y = from_yes s work a b (plain_check s work a b) (unified false s a b) t w h in
      (subst (Leaves s) (sym y.1.2) (leaves false y.0 y.1.0 y.1.1), y.1.3)

  pub checked_leaves : (t : State) (w : List ℕ) → checkedly s work a b ≡ (done 0, t, w) → Leaves s t × (w ≡ cleared (work_need top) work)
  unfolding checkedly
  checked_leaves t w h =
      let y = from_yes s work a b (checked_check s work a b) (unified true s a b) t w h in
      let d = checked_asked s work a b y.0 in
      (subst (Leaves s) (sym y.1.2) (leaves true (asks s work a b d.0) y.1.0 y.1.1), y.1.3)

  pub plain_fails : (t : State) (w : List ℕ) → plainly s work a b ≡ (failed, t, w) → (t ≡ s) × (w ≡ cleared (work_need top) work)
  unfolding plainly
  plain_fails t w h = let n = from_no s work a b (plain_check s work a b) (unified false s a b) t w h in (n.2, n.3)

  pub checked_fails : (t : State) (w : List ℕ) → checkedly s work a b ≡ (failed, t, w) → (t ≡ s) × (w ≡ cleared (work_need top) work)
  unfolding checkedly
  checked_fails t w h = let n = from_no s work a b (checked_check s work a b) (unified true s a b) t w h in (n.2, n.3)

  -- ---- plain unification
  -- its yes makes the roots agree to every depth
  pub plain_yes : (t : State) (w : List ℕ) → plainly s work a b ≡ (done 0, t, w) → AgreeAt t.cells t.top a b
  unfolding plainly
  plain_yes t w h =
      let y = from_yes s work a b (plain_check s work a b) (unified false s a b) t w h in
      subst (λ (t : State). AgreeAt t.cells t.top a b) (sym y.1.2) (agree_now false y.0 y.1.0 y.1.1)

  -- of trees for the cells, finite or endless, that make the roots equal: whatever cells P speaks of beside the roots, and whatever the rest of the store holds
  module _ (D : Type 0) (label : D → Label) (sub : D → ℕ → D) (P : ℕ → Type 0) (σ : ℕ → D) (k : SolvesAt D label sub P s.cells top σ) (pa : P a) (pb : P b) (q : σ a ≡ σ b) where
    ends_kept : plain_check s work a b ≡ Ok tt → Ends s (Keeps D label sub P (shape_of s.cells) σ) ⊥ ⊥ (unified false s a b)
    unfolding unified
    ends_kept c =
        run_keeps s false (Keeps D label sub P (shape_of s.cells) σ) ⊥ ⊥ (λ r i j u c n _ k. sound D label sub P (shape_of s.cells) σ r i j u c n k) (no_solution D label sub P (shape_of s.cells) σ) (λ z. absurd (false≢true z))
        (fuel top) (start s a b) (asked_live s work a b (asked s work a b c)) (k, ((pa, pb, q), tt))

    -- its yes binds no more than it must: they are trees for the cells that it leaves too
    pub plain_general : (t : State) (w : List ℕ) → plainly s work a b ≡ (done 0, t, w) → SolvesAt D label sub P t.cells t.top σ
    unfolding plainly
    plain_general t w h =
        let y = from_yes s work a b (plain_check s work a b) (unified false s a b) t w h in
        let m = y.1.0 in
        let e = subst (Ends s (Keeps D label sub P (shape_of s.cells) σ) ⊥ ⊥) y.1.1 (ends_kept y.0) in
        subst (λ (t : State). SolvesAt D label sub P t.cells t.top σ) (sym y.1.2)
        (subst (λ (h : Shape). Solves D label sub P h σ (look_at m.cells top)) (sym e.1.shape) e.2.0)

    -- its no means that there are none
    pub plain_no : (t : State) (w : List ℕ) → plainly s work a b ≡ (failed, t, w) → ⊥
    unfolding plainly
    plain_no t w h = at (unified false s a b) refl
      where
        no : (plain_check s work a b ≡ Ok tt) × ((m : Machine) → unified false s a b ≡ yes m → ⊥) × (t ≡ s) × (w ≡ cleared (work_need top) work)
        no = from_no s work a b (plain_check s work a b) (unified false s a b) t w h

        ends : (o : Ending) → unified false s a b ≡ o → Ends s (Keeps D label sub P (shape_of s.cells) σ) ⊥ ⊥ o
        ends o e = subst (Ends s (Keeps D label sub P (shape_of s.cells) σ) ⊥ ⊥) e (ends_kept no.0)

        at : (o : Ending) → unified false s a b ≡ o → ⊥
        at (yes m) e = no.1 m e
        at clashes e = ends clashes e
        at occurs e = ends occurs e
        at late e = ends late e

  -- ---- checked unification
  module _ (c : plain_check s work a b ≡ Ok tt) (ca : cyclic_at s.cells top a ≡ false) (cb : cyclic_at s.cells top b ≡ false) where
    abbrev k : Asked s work a b
    k = asked s work a b c

    abbrev wf : WellFormed s.cells top
    wf = asked_store s work a b k

    abbrev live : Live s (fuel top) (start s a b)
    live = asked_live s work a b k

    term_a : OneTerm s.cells top a
    term_a = finite s.cells top wf a k.left ca

    term_b : OneTerm s.cells top b
    term_b = finite s.cells top wf b k.right cb

    solved : (m : Machine) → unified true s a b ≡ yes m → Solved s (left_by s m) a b
    unfolding unified
    solved m e =
        let t = term_a.term in
        let u = term_b.term in
        let ht = term_a.stands in
        let hu = term_b.stands in
        let θ = came s wf a b live k.left k.right t u ht hu m e in
        let q : Unifies θ t u = came_unifies s wf a b live k.left k.right t u ht hu m e in
        let up : (i : ℕ) (x : Term) → StandsAt s.cells top x i → StandsAt m.cells top (inst θ x) i = λ i x h. subst (λ (z : Shape). Stands z (look_at m.cells top) (inst θ x) i) (sym (same_shape true c m e)) (came_stands s wf a b live k.left k.right t u ht hu m e i x h) in
        record {
          left = t;
          right = u;
          left_stands = ht;
          right_stands = hu;
          found = θ;
          unifies = q;
          general = most_general s wf a b live k.left k.right t u ht hu m e θ (came_stands s wf a b live k.left k.right t u ht hu m e);
          becomes = up;
          both = inst θ t;
          left_now = up a t ht;
          right_now = subst (λ (x : Term). StandsAt m.cells top x b) (sym q) (up b u hu);
        }

    -- a unifier of any terms that the roots stand for makes the answer yes
    unifier_found : (u : Unifiable s.cells top a b) → (m : Machine) × (unified true s a b ≡ yes m)
    unfolding unified
    unifier_found u = unifier_yes s wf a b live k.left k.right u.left u.right u.left_stands u.right_stands u.by u.equal

    goes : checkedly s work a b ≡ answered s work (unified true s a b)
    goes = checked_says s work a b (checked_asks s work a b c ca cb)

    -- the plain run and the test
    then_yes : (m : Machine) → unified false s a b ≡ yes m → cyclic_at m.cells top a ≡ false → unified true s a b ≡ yes m
    unfolding unified
    then_yes = acyclic_then s wf a b live k.left k.right term_a.term term_b.term term_a.stands term_b.stands

    then_back : (m : Machine) → unified true s a b ≡ yes m → (unified false s a b ≡ yes m) × (cyclic_at m.cells top a ≡ false)
    unfolding unified
    then_back = checked_then s wf a b live k.left k.right term_a.term term_b.term term_a.stands term_b.stands

  -- its yes: the roots' terms have a unifier, which is most general, and each cell's term is its instance by it
  pub checked_yes : (t : State) (w : List ℕ) → checkedly s work a b ≡ (done 0, t, w) → Solved s t a b
  unfolding checkedly
  checked_yes t w h =
      let y = from_yes s work a b (checked_check s work a b) (unified true s a b) t w h in
      let d = checked_asked s work a b y.0 in
      subst (λ (t : State). Solved s t a b) (sym y.1.2) (solved (asks s work a b d.0) d.1 d.2 y.1.0 y.1.1)

  -- its no: no finite terms for the variables make the roots equal
  pub checked_no : (t : State) (w : List ℕ) → checkedly s work a b ≡ (failed, t, w) → Unifiable s.cells top a b → ⊥
  unfolding checkedly
  checked_no t w h u =
      let n = from_no s work a b (checked_check s work a b) (unified true s a b) t w h in
      let d = checked_asked s work a b n.0 in
      let y = unifier_found (asks s work a b d.0) d.1 d.2 u in
      n.1 y.0 y.1

  -- ---- with both roots acyclic and no refusal from 1 to 5
  module _ (c : plain_check s work a b ≡ Ok tt) (na : Cyclic s.cells a → ⊥) (nb : Cyclic s.cells b → ⊥) where
    acyclic : (i : ℕ) → term_at s.cells top i ≡ true → (Cyclic s.cells i → ⊥) → cyclic_at s.cells top i ≡ false
    acyclic i t n =
        let u = term_used s.cells top i t in
        let w = asked_store s work a b (asked s work a b c) in
        acc_false s.cells top w i u.0 u.1 (acyclic_acc s.cells top w i u.0 u.1 n)

    false_a : cyclic_at s.cells top a ≡ false
    false_a = acyclic a (asked s work a b c).left na

    false_b : cyclic_at s.cells top b ≡ false
    false_b = acyclic b (asked s work a b c).right nb

    -- checked unification says yes exactly when some finite terms for the variables make the roots equal
    pub checked_exactly : ((checkedly s work a b).0 ≡ done 0) ↔ Unifiable s.cells top a b
    unfolding checkedly answered
    checked_exactly = (
      (λ e. let r = checkedly s work a b in
          let v = checked_yes r.1 r.2 (λ i. (e i, r.1, r.2)) in
          record { left = v.left; right = v.right; left_stands = v.left_stands; right_stands = v.right_stands; by = v.found; equal = v.unifies }),
      λ u. let y = unifier_found c false_a false_b u in ap (λ (r : Result). r.0) (goes c false_a false_b ∙ ap (answered s work) y.1),
    )

    -- ---- checked is plain and one test
    -- after a plain yes that leaves no cycle at a root, checked says the same
    pub plain_then_yes : (t : State) (w : List ℕ) → plainly s work a b ≡ (done 0, t, w) → cyclic_at t.cells t.top a ≡ false → checkedly s work a b ≡ (done 0, t, w)
    unfolding plainly checkedly
    plain_then_yes t w h q =
        let y = from_yes s work a b (plain_check s work a b) (unified false s a b) t w h in
        let m = y.1.0 in
        let z : unified true s a b ≡ yes m = then_yes c false_a false_b m y.1.1 (subst (λ (t : State). cyclic_at t.cells t.top a ≡ false) y.1.2 q) in
        goes c false_a false_b ∙ ap (answered s work) (z ∙ sym y.1.1) ∙ sym (plain_says s work a b c) ∙ h

    -- after a plain yes that leaves one, checked says no
    pub plain_then_cycle : (t : State) (w : List ℕ) → plainly s work a b ≡ (done 0, t, w) → cyclic_at t.cells t.top a ≡ true → checkedly s work a b ≡ (failed, s, w)
    unfolding plainly checkedly
    plain_then_cycle t w h q =
        let y = from_yes s work a b (plain_check s work a b) (unified false s a b) t w h in
        let m = y.1.0 in
        let r : cyclic_at m.cells top a ≡ true = subst (λ (t : State). cyclic_at t.cells t.top a ≡ true) y.1.2 q in
        let n : (x : Machine) → unified true s a b ≡ yes x → ⊥ = λ x e.
        (let p = then_back c false_a false_b x e in
        let z : x ≡ m = same_end x m (sym p.0 ∙ y.1.1) in
        false≢true (sym p.1 ∙ ap (λ (x : Machine). cyclic_at x.cells top a) z ∙ r)) in
        goes c false_a false_b ∙ answered_no s work a b (unified true s a b) n ∙ ap (λ (w : List ℕ). (failed, s, w)) (sym y.1.3)
      where
        same_end : (x m : Machine) → yes x ≡ yes m → x ≡ m
        same_end x m e = cc

    -- and that no is the occurs check's, and no clash
    pub cycle_occurs : (t : State) (w : List ℕ) → plainly s work a b ≡ (done 0, t, w) → cyclic_at t.cells t.top a ≡ true → unified true s a b ≡ occurs
    unfolding plainly unified
    cycle_occurs t w h q =
        let y = from_yes s work a b (plain_check s work a b) (unified false s a b) t w h in
        let m = y.1.0 in
        let r : cyclic_at m.cells top a ≡ true = subst (λ (t : State). cyclic_at t.cells t.top a ≡ true) y.1.2 q in
        ⊎_elim (λ e. absurd (false≢true (sym (then_back c false_a false_b m (e ∙ y.1.1)).1 ∙ r))) (λ e. e) (same_or_occurs top (fuel top) (start s a b))

    -- a plain no is a checked no
    pub plain_then_no : (t : State) (w : List ℕ) → plainly s work a b ≡ (failed, t, w) → checkedly s work a b ≡ (failed, t, w)
    unfolding plainly checkedly
    plain_then_no t w h =
        let n = from_no s work a b (plain_check s work a b) (unified false s a b) t w h in
        goes c false_a false_b ∙ answered_no s work a b (unified true s a b) (λ m e. n.1 m (then_back c false_a false_b m e).0) ∙ sym (answered_no s work a b (unified false s a b) n.1) ∙ sym (plain_says s work a b c) ∙ h
