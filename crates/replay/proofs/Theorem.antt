-- Replaying what is not struck gives the same state word for word, and no rollback to a standing mark is refused.
use Rattle.std.specs.Prelude.{◌≡◌, Bool, ◌&&◌, ◌⊎◌, ℕ, ◌+◌, ◌≤◌}
use Rattle.std.proofs.Math.Path.{refl, sym, ap, subst}
use Rattle.std.proofs.Common.{◌∙◌, inl, arith}
use Rattle.std.proofs.Math.Bool.{true, false, and-eq-true_iff}
use Rattle.std.proofs.lemmas.Bool.{false≢true}
use Rattle.std.proofs.Math.Logic.{inr}
use Rattle.std.proofs.Math.Dec.{leb}
use borrow.Author.Tests.{leb-true, le-leb, eqb-true, eqb-false, eq-eqb}
use Rattle.trail.specs.State.{State, Outcome, done, failed, refused, holds}
use Rattle.marks.specs.Calls.{marking, cutting, roll_check, rolling, noted, cut_off, rolled, room_to_mark}
use Rattle.replay.specs.History.{Call, append, mark, unify, copy, cut, rollback, Event, Trace, start, ◌▸◌, sets, Line, line, strike_back, write, logbook, unstruck, standing_after, standing, calls, Engine, step, run, history}
use Rattle.replay.specs.Kept.{back_to, keep, kept}
use Rattle.replay.specs.Law.{Adds, Obeys, Lawful}
use Rattle.replay.specs.Ext.{Ext, rolled_is, ext_start}
use Rattle.replay.proofs.Ext.{ext_adds, ext_noted, ext_cut}
use Rattle.trail.specs.Facts.{Holds, holds_parts, holds_whole, check_holds, unless_one, unless_two}
use Rattle.cell.specs.declared.Refusal.{Refusal}
use Rattle.cell.specs.declared.Refusal.TheVariants.{Room, Mark, Left}
use Rattle.append.specs.Calls.{appending}
use Rattle.replay.specs.Grown.{by_bool, append_obeys}
use Rattle.replay.specs.Keeps.{zeros_of, holds_noted, holds_cut, holds_fresh}

-- done, and no rollback
abbrev Plain : Call → Outcome → Type 0
Plain c failed = ⊥
Plain c (refused n) = ⊥
Plain (append ws) (done n) = Unit {0}
Plain mark (done n) = Unit {0}
Plain (unify b x y) (done n) = Unit {0}
Plain (copy x) (done n) = Unit {0}
Plain (cut k) (done n) = Unit {0}
Plain (rollback k) (done n) = ⊥

-- what such a call does to the states of the marks that stand
record Moves (s : State) (c : Call) (o : Outcome) (t : State) : Type 0 where
  keeps : Holds t
  stood : (k : ℕ) → sets k c o ≡ false → k ≤ t.marked → k ≤ s.marked
  extends : (old : State) → Ext old s → old.marked ≤ t.marked → Ext old t
  begins : (k : ℕ) → sets k c o ≡ true → Ext t t × (t.marked ≡ k)

-- refused or failed: nothing has changed
abbrev Still : State → Outcome → State → Type 0
Still s (done n) t = Unit {0}
Still s failed t = t ≡ s
Still s (refused n) t = t ≡ s

module _ (s : State) (h : Holds s) where
  added : (c : Call) (o : Outcome) (t : State) → ((k : ℕ) → sets k c o ≡ false) → Adds s t → Moves s c o t
  added c o t never a =
      let e = a.marked_same in
      record {
        keeps = holds_parts t a.keeps;
        stood = λ k _ l. omega arith;
        extends = λ old x _. ext_adds old s x t a;
        begins = λ k b. absurd (false≢true (sym (never k) ∙ b));
      }

  marks_moves : Plain mark (marking s).0 → Moves s mark (marking s).0 (marking s).1
  unfolding marking sets
  marks_moves = subst P (sym (unless_one s h _ (room_to_mark s) Room)) (by_bool P (room_to_mark s) _ _ yes_case (λ _ p. absurd p))
    where
      P : Outcome × State → Type 0
      P r = Plain mark r.0 → Moves s mark r.0 r.1

      yes_case : room_to_mark s ≡ true → P (done (s.marked + 1), noted s)
      yes_case b _ =
          let room = leb-true _ _ b in
          record {
            keeps = holds_noted s h room;
            stood = λ k n l. let d : s.marked + 1 ≡ k → ⊥ = eqb-false (s.marked + 1) k n in omega arith;
            extends = λ old x _. ext_noted old s x room;
            begins = λ k e. (ext_start s room, eqb-true _ _ e);
          }

  cuts_moves : (k : ℕ) → Plain (cut k) (cutting s k).0 → Moves s (cut k) (cutting s k).0 (cutting s k).1
  unfolding cutting sets
  cuts_moves k = subst P (sym (unless_one s h _ (leb k s.marked) Mark)) (by_bool P (leb k s.marked) _ _ yes_case (λ _ p. absurd p))
    where
      P : Outcome × State → Type 0
      P r = Plain (cut k) r.0 → Moves s (cut k) r.0 r.1

      yes_case : leb k s.marked ≡ true → P (done 0, cut_off s k)
      yes_case b _ =
          let l = leb-true _ _ b in
          let f = h.marks_good_lem.fits in
          record {
            keeps = holds_cut s h k l;
            stood = λ j _ g. omega arith;
            extends = λ old x g. ext_cut old s x k g (omega arith);
            begins = λ j e. absurd (false≢true e);
          }

  still_cut : (k : ℕ) → Still s (cutting s k).0 (cutting s k).1
  unfolding cutting
  still_cut k = subst P (sym (unless_one s h _ (leb k s.marked) Mark)) (by_bool P (leb k s.marked) _ _ (λ _. tt) (λ _. refl))
    where
      P : Outcome × State → Type 0
      P r = Still s r.0 r.1

  still_mark : Still s (marking s).0 (marking s).1
  unfolding marking
  still_mark = subst P (sym (unless_one s h _ (room_to_mark s) Room)) (by_bool P (room_to_mark s) _ _ (λ _. tt) (λ _. refl))
    where
      P : Outcome × State → Type 0
      P r = Still s r.0 r.1

  still_roll : (k : ℕ) → Still s (rolling s k).0 (rolling s k).1
  unfolding rolling roll_check
  still_roll k = subst P (sym (unless_two s h _ (leb 1 k && leb k s.marked) Mark (holds (rolled s k)) Left)) (by_bool P (leb 1 k && leb k s.marked) _ _ (λ _. by_bool P (holds (rolled s k)) _ _ (λ _. tt) (λ _. refl)) (λ _. refl))
    where
      P : Outcome × State → Type 0
      P r = Still s r.0 r.1

  -- a rollback done was to a standing mark, and leaves what is defined
  abbrev Back : ℕ → Outcome → State → Type 0
  Back k (done n) t = (1 ≤ k) × (k ≤ s.marked) × (t ≡ rolled s k)
  Back k failed t = Unit {0}
  Back k (refused n) t = Unit {0}

  rolls_back : (k : ℕ) → Back k (rolling s k).0 (rolling s k).1
  unfolding rolling roll_check
  rolls_back k = subst P (sym (unless_two s h _ (leb 1 k && leb k s.marked) Mark (holds (rolled s k)) Left)) (by_bool P (leb 1 k && leb k s.marked) _ _ (λ b. by_bool P (holds (rolled s k)) _ _ (λ _. within b) (λ _. tt)) (λ _. tt))
    where
      P : Outcome × State → Type 0
      P r = Back k r.0 r.1

      within : (leb 1 k && leb k s.marked) ≡ true → (1 ≤ k) × (k ≤ s.marked) × (rolled s k ≡ rolled s k)
      within b = let p = (and-eq-true_iff (leb 1 k) (leb k s.marked)).0 b in (leb-true _ _ p.0, leb-true _ _ p.1, refl)

  not_refused : (k : ℕ) → 1 ≤ k → k ≤ s.marked → holds (rolled s k) ≡ true → (rolling s k).0 ≡ done 0
  unfolding rolling roll_check
  not_refused k a b g = rw (check_holds s h, le-leb 1 k a, le-leb k s.marked b, g)

-- by the law of append, copy or unify
module _ (s : State) (h : Holds s) where
  lawful_moves : (c : Call) (o : Outcome) (t : State) → ((k : ℕ) → sets k c o ≡ false) → Obeys s (o, t) → Plain c o → Moves s c o t
  unfolding Obeys
  lawful_moves c (done n) t never l p = added s h c (done n) t never l
  lawful_moves c failed t never l p = absurd p
  lawful_moves c (refused n) t never l p = absurd p

  lawful_still : (o : Outcome) (t : State) → Obeys s (o, t) → Still s o t
  unfolding Obeys
  lawful_still (done n) t l = tt
  lawful_still failed t l = l
  lawful_still (refused n) t l = l

module _ (s : State) where
  lawful_marked : (o : Outcome) (t : State) → Obeys s (o, t) → t.marked ≡ s.marked
  unfolding Obeys
  lawful_marked (done n) t l = l.marked_same
  lawful_marked failed t l = ap (λ (x : State). x.marked) l
  lawful_marked (refused n) t l = ap (λ (x : State). x.marked) l

-- a cut done leaves the marks up to its number
abbrev Cut : ℕ → Outcome → State → Type 0
Cut k (done n) t = t.marked ≡ k
Cut k failed t = Unit {0}
Cut k (refused n) t = Unit {0}

cuts_to : (s : State) → Holds s → (k : ℕ) → Cut k (cutting s k).0 (cutting s k).1
unfolding cutting
cuts_to s h k = subst P (sym (unless_one s h _ (leb k s.marked) Mark)) (by_bool P (leb k s.marked) _ _ (λ _. refl) (λ _. tt))
  where
    P : Outcome × State → Type 0
    P r = Cut k r.0 r.1

never_failed : (c : Call) (n : ℕ) → sets n c failed ≡ false
unfolding sets
never_failed (append ws) n = refl
never_failed mark n = refl
never_failed (unify b x y) n = refl
never_failed (copy x) n = refl
never_failed (cut k) n = refl
never_failed (rollback k) n = refl

never_refused : (c : Call) (m : Refusal) (n : ℕ) → sets n c (refused m) ≡ false
unfolding sets
never_refused (append ws) m n = refl
never_refused mark m n = refl
never_refused (unify b x y) m n = refl
never_refused (copy x) m n = refl
never_refused (cut k) m n = refl
never_refused (rollback k) m n = refl

no_rollback : (k : ℕ) (o : Outcome) → Plain (rollback k) o → ⊥
no_rollback k (done n) p = p
no_rollback k failed p = p
no_rollback k (refused n) p = p

module _ (E : Engine) (law : Lawful E) where
  moves : (s : State) → Holds s → (c : Call) → Plain c (step E s c).0 → Moves s c (step E s c).0 (step E s c).1
  unfolding step sets
  moves s h (append ws) p = lawful_moves s h (append ws) (appending s ws).0 (appending s ws).1 (λ k. refl) (append_obeys s (holds_whole s h) ws) p
  moves s h mark p = marks_moves s h p
  moves s h (unify b x y) p = lawful_moves s h (unify b x y) (E.unifying s b x y).0 (E.unifying s b x y).1 (λ k. refl) (law.unifies s (holds_whole s h) b x y) p
  moves s h (copy x) p = lawful_moves s h (copy x) (E.copying s x).0 (E.copying s x).1 (λ k. refl) (law.copies s (holds_whole s h) x) p
  moves s h (cut k) p = cuts_moves s h k p
  moves s h (rollback k) p = absurd (no_rollback k (rolling s k).0 p)

  still : (s : State) → Holds s → (c : Call) → Still s (step E s c).0 (step E s c).1
  unfolding step
  still s h (append ws) = lawful_still s h (appending s ws).0 (appending s ws).1 (append_obeys s (holds_whole s h) ws)
  still s h mark = still_mark s h
  still s h (unify b x y) = lawful_still s h (E.unifying s b x y).0 (E.unifying s b x y).1 (law.unifies s (holds_whole s h) b x y)
  still s h (copy x) = lawful_still s h (E.copying s x).0 (E.copying s x).1 (law.copies s (holds_whole s h) x)
  still s h (cut k) = still_cut s h k
  still s h (rollback k) = still_roll s h k

  -- ---- a history that is a replay: every call done, with its answer, and no rollback
  abbrev at : Trace Event → State
  at h = run E (calls h)

  abbrev Good : Trace Event → Type 0
  Good start = Unit {0}
  Good (h ▸ e) = Good h × ((step E (at h) e.call).0 ≡ e.outcome) × Plain e.call e.outcome

  good_holds : (h : Trace Event) → Good h → Holds (at h)
  unfolding run calls
  good_holds start g = holds_fresh E.cell_room E.trail_room E.mark_room law.some_room
  good_holds (h ▸ e) g = (moves (at h) (good_holds h g.0) e.call (subst (Plain e.call) (sym g.1) g.2)).keeps

  -- b is where mark k of h was set
  record Stands (h : Trace Event) (k : ℕ) (b : Trace Event) : Type 0 where
    good : Good b
    number : (at b).marked ≡ k
    ext : Ext (at b) (at h)

  stands : (h : Trace Event) → Good h → (k : ℕ) → 1 ≤ k → k ≤ (at h).marked → Stands h k (back_to k h)
  unfolding run calls back_to
  stands start g k a b = absurd (omega arith)
  stands (h ▸ e) g k a b = by_bool (Stands (h ▸ e) k) (sets k e.call e.outcome) (h ▸ e) (back_to k h) here (λ q. before q (stands h g.0 k a (m.stood k q b)))
    where
      m : Moves (at h) e.call e.outcome (at (h ▸ e))
      m = subst (λ (o : Outcome). Moves (at h) e.call o (at (h ▸ e))) g.1 (moves (at h) (good_holds h g.0) e.call (subst (Plain e.call) (sym g.1) g.2))

      here : sets k e.call e.outcome ≡ true → Stands (h ▸ e) k (h ▸ e)
      here q = let x = m.begins k q in record { good = g; number = x.1; ext = x.0 }

      before : sets k e.call e.outcome ≡ false → Stands h k (back_to k h) → Stands (h ▸ e) k (back_to k h)
      before q x = let n = x.number in record { good = x.good; number = x.number; ext = m.extends (at (back_to k h)) x.ext (omega arith) }

  -- rolling back to a standing mark gives the state in which it was set, so it is not refused
  module _ (h : Trace Event) (g : Good h) (k : ℕ) (a : 1 ≤ k) (b : k ≤ (at h).marked) where
    back_is : rolled (at h) k ≡ at (back_to k h)
    back_is =
        let x = stands h g k a b in
        ap (rolled (at h)) (sym x.number) ∙ rolled_is (at (back_to k h)) (at h) x.ext (zeros_of _ (good_holds (back_to k h) x.good))

    back_done : (rolling (at h) k).0 ≡ done 0
    back_done =
        let x = stands h g k a b in
        not_refused (at h) (good_holds h g) k a b (ap holds back_is ∙ holds_whole _ (good_holds (back_to k h) x.good))

  -- ---- the theorem
  record Replays (h : Trace Call) (k : Trace Event) : Type 0 where
    good : Good k
    same : at k ≡ run E h

  module _ (h : Trace Call) (k : Trace Event) (r : Replays h k) where
    good_run : Holds (run E h)
    good_run = subst Holds r.same (good_holds k r.good)

    -- one kept call more
    kept_more : (c : Call) (n : ℕ) → Plain c (done n) → (step E (run E h) c).0 ≡ done n → Replays (h ▸ c) (k ▸ record { call = c; outcome = done n })
    unfolding run calls
    kept_more c n p q = record { good = (r.good, ap (λ (s : State). (step E s c).0) r.same ∙ q, p); same = ap (λ (s : State). (step E s c).1) r.same }

    struck : (c : Call) → (step E (run E h) c).1 ≡ run E h → Replays (h ▸ c) k
    unfolding run
    struck c e = record { good = r.good; same = r.same ∙ sym e }

    rolled_more : (j n : ℕ) → (step E (run E h) (rollback j)).0 ≡ done n → Replays (h ▸ rollback j) (back_to j k)
    unfolding run step
    rolled_more j n q =
        let b = subst (λ (o : Outcome). Back (run E h) good_run j o (rolling (run E h) j).1) q (rolls_back (run E h) good_run j) in
        let l = subst (λ (s : State). j ≤ s.marked) (sym r.same) b.1 in
        record { good = (stands k r.good j b.0 l).good; same = sym (back_is k r.good j b.0 l) ∙ ap (λ (s : State). rolled s j) r.same ∙ sym b.2 }

    one_more : (c : Call) (o : Outcome) → (step E (run E h) c).0 ≡ o → Replays (h ▸ c) (keep k c o)
    unfolding keep
    one_more c failed q = struck c (subst (λ (o : Outcome). Still (run E h) o (step E (run E h) c).1) q (still (run E h) good_run c))
    one_more c (refused n) q = struck c (subst (λ (o : Outcome). Still (run E h) o (step E (run E h) c).1) q (still (run E h) good_run c))
    one_more (append ws) (done n) q = kept_more (append ws) n tt q
    one_more mark (done n) q = kept_more mark n tt q
    one_more (unify b x y) (done n) q = kept_more (unify b x y) n tt q
    one_more (copy x) (done n) q = kept_more (copy x) n tt q
    one_more (cut j) (done n) q = kept_more (cut j) n tt q
    one_more (rollback j) (done n) q = rolled_more j n q

  replays : (h : Trace Call) → Replays h (kept (history E h))
  unfolding kept history run calls
  replays start = record { good = tt; same = refl }
  replays (h ▸ c) = one_more h (kept (history E h)) (replays h) c (step E (run E h) c).0 refl

  -- ---- the logbook has the same lines unstruck
  -- walking back, an unstruck line sets mark k before any line sets a number up to k
  abbrev Clear : ℕ → Trace Line → Type 0
  Clear k start = ⊥
  Clear k (h ▸ l) = ((l.struck ≡ false) × (sets k l.event.call l.event.outcome ≡ true)) ⊎ (((n : ℕ) → n ≤ k → sets n l.event.call l.event.outcome ≡ false) × Clear k h)

  clear_struck : (j k : ℕ) → k ≤ j → (h : Trace Line) → Clear k h → Clear j h → Clear k (strike_back j h)
  unfolding strike_back
  clear_struck j k le start a b = a
  clear_struck j k le (h ▸ l) a b = by_bool (Clear k) (sets j l.event.call l.event.outcome) _ _ (λ _. a) (λ f. later f a b (clear_struck j k le h))
    where
      later : sets j l.event.call l.event.outcome ≡ false → Clear k (h ▸ l) → Clear j (h ▸ l) → (Clear k h → Clear j h → Clear k (strike_back j h)) → Clear k (strike_back j h ▸ record { event = l.event; struck = true })
      later f (inl x) (inl y) ih = absurd (false≢true (sym f ∙ y.1))
      later f (inl x) (inr y) ih = absurd (false≢true (sym (y.0 k le) ∙ x.1))
      later f (inr x) (inl y) ih = absurd (false≢true (sym f ∙ y.1))
      later f (inr x) (inr y) ih = inr (x.0, ih x.1 y.1)

  struck_back : (k : ℕ) (h : Trace Line) → Clear k h → unstruck (strike_back k h) ≡ back_to k (unstruck h)
  unfolding strike_back unstruck back_to
  struck_back k start a = absurd a
  struck_back k (h ▸ l) a = by_bool (λ (x : Trace Line). unstruck x ≡ back_to k (unstruck (h ▸ l))) (sets k l.event.call l.event.outcome) _ _ (λ t. here t a) (λ f. later f a (struck_back k h))
    where
      here : sets k l.event.call l.event.outcome ≡ true → Clear k (h ▸ l) → unstruck (h ▸ l) ≡ back_to k (unstruck (h ▸ l))
      here t (inl x) = rw (x.0, t)
      here t (inr y) = absurd (false≢true (sym (y.0 k (omega arith)) ∙ t))

      later : sets k l.event.call l.event.outcome ≡ false → Clear k (h ▸ l) → (Clear k h → unstruck (strike_back k h) ≡ back_to k (unstruck h)) → unstruck (strike_back k h) ≡ back_to k (unstruck (h ▸ l))
      later f (inl x) ih = absurd (false≢true (sym f ∙ x.1))
      later f (inr y) ih = ih y.1 ∙ by_bool (λ (x : Trace Event). back_to k (unstruck h) ≡ back_to k x) l.struck _ _ (λ _. refl) (λ _. rw f)

  record Book (h : Trace Call) (b : Trace Line) (k : Trace Event) : Type 0 where
    same : unstruck b ≡ k
    clear : (k : ℕ) → 1 ≤ k → k ≤ (run E h).marked → Clear k b

  module _ (h : Trace Call) (b : Trace Line) (t : Trace Event) (r : Replays h t) (u : Book h b t) where
    abbrev s : State
    s = run E h

    struck_line : (c : Call) (o : Outcome) → ((n : ℕ) → sets n c o ≡ false) → (step E s c).1 ≡ s → Book (h ▸ c) (b ▸ line c o true) t
    unfolding unstruck run
    struck_line c o f e = record { same = u.same; clear = λ k a l. inr (λ n _. f n, u.clear k a (subst (λ (x : State). k ≤ x.marked) e l)) }

    plain_line : (c : Call) (n : ℕ) → Plain c (done n) → (step E s c).0 ≡ done n → Book (h ▸ c) (b ▸ line c (done n) false) (t ▸ record { call = c; outcome = done n })
    unfolding unstruck run
    plain_line c n p q = record { same = ap (λ (x : Trace Event). x ▸ record { call = c; outcome = done n }) u.same; clear = λ k a l. go k a l (sets k c (done n)) refl }
      where
        m : Moves s c (done n) (step E s c).1
        m = subst (λ (o : Outcome). Moves s c o (step E s c).1) q (moves s (good_run h t r) c (subst (Plain c) (sym q) p))

        low : (k : ℕ) → k ≤ (step E s c).1.marked → sets k c (done n) ≡ false → (i : ℕ) → i ≤ k → (x : Bool) → sets i c (done n) ≡ x → x ≡ false
        low k l f i g true y = let z : (step E s c).1.marked ≡ i = (m.begins i y).1 in let w : i ≡ k = omega arith in absurd (false≢true (sym f ∙ subst (λ (j : ℕ). sets j c (done n) ≡ true) w y))
        low k l f i g false y = refl

        go : (k : ℕ) → 1 ≤ k → k ≤ (step E s c).1.marked → (x : Bool) → sets k c (done n) ≡ x → Clear k (b ▸ line c (done n) false)
        go k a l true y = inl (refl, y)
        go k a l false y = inr (λ i g. low k l y i g (sets i c (done n)) refl, u.clear k a (m.stood k y l))

    back_line : (j n : ℕ) → (step E s (rollback j)).0 ≡ done n → Book (h ▸ rollback j) (strike_back j b ▸ line (rollback j) (done n) true) (back_to j t)
    unfolding unstruck run step sets
    back_line j n q =
        let x = subst (λ (o : Outcome). Back s (good_run h t r) j o (rolling s j).1) q (rolls_back s (good_run h t r) j) in
        let y = x.1 in
        let z = u.clear j x.0 x.1 in
        record { same = struck_back j b z ∙ ap (back_to j) u.same; clear = λ k a l. (let g : k ≤ j = subst (λ (w : State). k ≤ w.marked) x.2 l in inr (λ i _. refl, clear_struck j k g b (u.clear k a (omega arith)) z)) }

    next_line : (c : Call) (o : Outcome) → (step E s c).0 ≡ o → Book (h ▸ c) (write b c o) (keep t c o)
    unfolding write keep
    next_line c failed q = struck_line c failed (never_failed c) (subst (λ (o : Outcome). Still s o (step E s c).1) q (still s (good_run h t r) c))
    next_line c (refused n) q = struck_line c (refused n) (never_refused c n) (subst (λ (o : Outcome). Still s o (step E s c).1) q (still s (good_run h t r) c))
    next_line (append ws) (done n) q = plain_line (append ws) n tt q
    next_line mark (done n) q = plain_line mark n tt q
    next_line (unify x y z) (done n) q = plain_line (unify x y z) n tt q
    next_line (copy x) (done n) q = plain_line (copy x) n tt q
    next_line (cut j) (done n) q = plain_line (cut j) n tt q
    next_line (rollback j) (done n) q = back_line j n q

  books : (h : Trace Call) → Book h (logbook (history E h)) (kept (history E h))
  unfolding logbook history kept unstruck run
  books start = record { same = refl; clear = λ k a l. absurd (omega arith) }
  books (h ▸ c) = next_line h (logbook (history E h)) (kept (history E h)) (replays h) (books h) c (step E (run E h) c).0 refl

  replays_rest : (h : Trace Call) → Replays h (unstruck (logbook (history E h)))
  replays_rest h = subst (Replays h) (sym (books h).same) (replays h)

  -- replaying the calls that are not struck gives the same cells, trail, marks and counts
  pub replay_same : (h : Trace Call) → run E (calls (unstruck (logbook (history E h)))) ≡ run E h
  replay_same h = (replays_rest h).same

  -- a rollback to a standing mark is done
  pub rollback_done : (h : Trace Call) (k : ℕ) → 1 ≤ k → k ≤ (run E h).marked → (step E (run E h) (rollback k)).0 ≡ done 0
  unfolding step
  rollback_done h k a b =
      let r = replays_rest h in
      ap (λ (s : State). (rolling s k).0) (sym r.same) ∙ back_done (unstruck (logbook (history E h))) r.good k a (subst (λ (s : State). k ≤ s.marked) (sym r.same) b)

  -- and the replay has the same answers
  good_history : (h : Trace Event) → Good h → history E (calls h) ≡ h
  unfolding history calls
  good_history start g = refl
  good_history (h ▸ e) g = λ i. good_history h g.0 i ▸ record { call = e.call; outcome = g.1 i }

  pub replay_answers : (h : Trace Call) → history E (calls (unstruck (logbook (history E h)))) ≡ unstruck (logbook (history E h))
  replay_answers h = good_history _ (replays_rest h).good

  -- every state that is reached keeps the rules
  pub run_holds : (h : Trace Call) → holds (run E h) ≡ true
  run_holds h = let r = replays_rest h in subst (λ (s : State). holds s ≡ true) r.same (holds_whole _ (good_holds _ r.good))

  -- ---- the marks that stand, by the history
  module _ (s : State) (h : Holds s) where
    stand_more : (c : Call) (o : Outcome) → (step E s c).0 ≡ o → (step E s c).1.marked ≡ standing_after s.marked c o
    unfolding standing_after step sets
    stand_more c failed q = ap (λ (x : State). x.marked) (subst (λ (o : Outcome). Still s o (step E s c).1) q (still s h c))
    stand_more c (refused n) q = ap (λ (x : State). x.marked) (subst (λ (o : Outcome). Still s o (step E s c).1) q (still s h c))
    stand_more mark (done n) q = ((subst (λ (o : Outcome). Moves s mark o (marking s).1) q (marks_moves s h (subst (Plain mark) (sym q) tt))).begins n (eq-eqb n n refl)).1
    stand_more (cut k) (done n) q = subst (λ (o : Outcome). Cut k o (cutting s k).1) q (cuts_to s h k)
    stand_more (rollback k) (done n) q = ap (λ (x : State). x.marked) (subst (λ (o : Outcome). Back s h k o (rolling s k).1) q (rolls_back s h k)).2
    stand_more (append ws) (done n) q = lawful_marked s (appending s ws).0 (appending s ws).1 (append_obeys s (holds_whole s h) ws)
    stand_more (unify b x y) (done n) q = lawful_marked s (E.unifying s b x y).0 (E.unifying s b x y).1 (law.unifies s (holds_whole s h) b x y)
    stand_more (copy x) (done n) q = lawful_marked s (E.copying s x).0 (E.copying s x).1 (law.copies s (holds_whole s h) x)

  pub run_marked : (h : Trace Call) → (run E h).marked ≡ standing (history E h)
  unfolding run history standing
  run_marked start = refl
  run_marked (h ▸ c) =
      stand_more (run E h) (holds_parts _ (run_holds h)) c (step E (run E h) c).0 refl ∙ ap (λ (m : ℕ). standing_after m c (step E (run E h) c).0) (run_marked h)
