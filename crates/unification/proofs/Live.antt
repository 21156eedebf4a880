-- What holds of a running machine, that each turn keeps it, and that what an act keeps a whole run keeps. So a run ends before its fuel is spent.
use Rattle.std.specs.Prelude.{◌≡◌, Bool, true, false, ◌⊎◌, length, get_or}
use Rattle.std.proofs.Math.Path.{refl, ap, subst}
use Rattle.std.proofs.Common.{sym, ◌∙◌, inl, inr, arith, eq-eqb, ne_eqb}
use Rattle.std.proofs.lemmas.Bool.{false≢true}
use mathlib.Core.List.{List, [], ◌∷◌}
use Prim.Native.Nat.{ℕ, zero, suc, ◌+◌, ◌<◌, ◌≤◌}
use Rattle.store.specs.Store.{term_at, end_of, WellFormed}
use Rattle.store.specs.Steps.{term_used, term_plain}
use Rattle.store.specs.WellFormed.{end_stays, steps_in}
use Rattle.trail.specs.State.{State}
use Rattle.terms.specs.View.{View, free, con, nod, Shape, arity_of, look_at, shape_of}
use Rattle.unification.specs.Machine.{Act, skip, bind, join, clash, rule, Machine, Ending, yes, clashes, occurs, popped, joined, other, act_of, is_compound, stopped, after, turn, run, start, fuel}
use Rattle.unification.specs.Calls.{unbound}
use Rattle.unification.specs.Cases.{Apart, Case, binds, binds', joins, parts}
use Rattle.unification.proofs.Cases.{case, act_is}
use Rattle.unification.specs.Nodes.{end_term, look_end, free_end, var_look, node_args}
use Rattle.unification.specs.Seen.{Seen, seen_of, pushed, apply, All, all_map}
use Rattle.unification.proofs.Seen.{all_args}
use Rattle.unification.specs.Write.{Bindable, write_store, write_term, write_shape, write_look, word_v, write_bound, write_target, write_count}
use Rattle.unification.specs.Weight.{Classed, weight}
use Rattle.unification.proofs.Weight.{level, classed_step, classed_start, weight_start}
use Rattle.unification.specs.Wrote.{Wrote, wrote_start, wrote_more}
use Rattle.unification.specs.Occurs.{Below}
use Rattle.unification.proofs.Occurs.{stops_below, passes_clear}
use Rattle.unification.specs.Live.{Live, applied, Passes, Stops, Ends}

bindable : (cells : List ℕ) (top : ℕ) → WellFormed cells top → (i j v : ℕ) (x : View) → term_at cells top i ≡ true → term_at cells top j ≡ true → look_at cells top i ≡ free v → look_at cells top j ≡ x → (x ≡ free v → ⊥) → Bindable cells top v (end_of cells top j) x × (end_of cells top i ≡ v)
bindable cells top wf i j v x ti tj ei ej n =
    let ui = term_used cells top i ti in
    let uj = term_used cells top j tj in
    let f = free_end cells top wf i v ui.0 ui.1 ei in
    let q = f.0 in
    let a = steps_in cells top wf top i ui.0 ui.1 in
    let b = steps_in cells top wf top j uj.0 uj.1 in
    let sh = look_end cells top wf j uj.0 uj.1 ∙ ej in (
      record {
        low_v = omega arith;
        high_v = omega arith;
        low_e = b.0;
        high_e = b.1;
        free_v = f.1;
        stays = end_stays cells top wf j uj.0 uj.1;
        plain = term_plain cells top (end_of cells top j) (end_term cells top wf j tj);
        apart = λ z. n (sym sh ∙ ap (look_at cells top) z ∙ var_look cells top wf v f.1);
        shows = sh;
      },
      f.0,
    )

-- a plain run stops nowhere
pub not_stopped : (cells : List ℕ) (top v : ℕ) (x : View) (e : ℕ) → stopped false cells top v x e ≡ false
unfolding stopped
not_stopped cells top v x e = refl

-- only a compound stops
stopped_node : (check : Bool) (cells : List ℕ) (top v : ℕ) (x : View) (e : ℕ) → stopped check cells top v x e ≡ true → (check ≡ true) × ((n : ℕ) × (x ≡ nod n))
unfolding stopped is_compound
stopped_node true cells top v (free w) e h = absurd (false≢true h)
stopped_node true cells top v (con c) e h = absurd (false≢true h)
stopped_node true cells top v (nod n) e h = (refl, (n, refl))
stopped_node false cells top v x e h = absurd (false≢true h)

-- ---- one turn
module _ (s : State) (f : ℕ) (m : Machine) (p : ℕ × ℕ) (rest : List (ℕ × ℕ)) (e : m.pairs ≡ p ∷ rest) (l : Live s (suc f) m) where
  abbrev top : ℕ
  top = s.top

  abbrev sh : Shape
  sh = shape_of s.cells

  -- the two cells that the pair comes to
  abbrev pub end_a : ℕ
  end_a = end_of m.cells top p.0

  abbrev pub end_b : ℕ
  end_b = end_of m.cells top p.1

  abbrev pub to : Act → Machine
  to u = applied sh (popped m rest) end_a end_b u

  all_terms : All (λ i j. (term_at m.cells top i ≡ true) × (term_at m.cells top j ≡ true)) (p ∷ rest)
  all_terms = rw e at l.terms

  pub term_a : term_at m.cells top p.0 ≡ true
  term_a = all_terms.0.0

  pub term_b : term_at m.cells top p.1 ≡ true
  term_b = all_terms.0.1

  abbrev pub CaseHere : Act → Type 0
  CaseHere u = Case sh m.classes (look_at m.cells top p.0) (look_at m.cells top p.1) u

  pub case_here : CaseHere (act_of m end_a end_b)
  unfolding look_at
  case_here =
      subst CaseHere (sym (act_is m end_a end_b))
      (subst (λ (h : Shape). CaseHere (rule h m.classes (look_at m.cells top p.0) (look_at m.cells top p.1))) (sym l.shape) (case sh m.classes (look_at m.cells top p.0) (look_at m.cells top p.1)))

  -- the Var that is bound, and the cell whose word it gets
  pub bound : (v : ℕ) (x : View) → CaseHere (bind v x) → Bindable m.cells top v (other end_a end_b v) x
  bound v x (binds _ _ ea eb n) =
      let w = bindable m.cells top l.store p.0 p.1 v x term_a term_b ea eb n in
      rw (eq-eqb end_a v w.1) w.0
  bound v x (binds' _ _ ea eb n) =
      let w = bindable m.cells top l.store p.1 p.0 v x term_b term_a eb ea n in
      rw (ne_eqb end_a v w.0.apart) w.0

  -- a node's arguments stand for terms
  pub arg_term : (i n k : ℕ) → look_at m.cells top i ≡ nod n → k < arity_of sh n → term_at m.cells top (sh.arg n k) ≡ true
  arg_term i n k q =
      subst (λ (h : Shape). k < arity_of h n → term_at m.cells top (h.arg n k) ≡ true) l.shape (node_args m.cells top l.store i n k q)

  -- what is shown after an act
  pub seen_step : (u : Act) → CaseHere u → seen_of top (to u) ≡ apply sh (seen_of top (popped m rest)) u
  unfolding apply
  seen_step skip c = refl
  seen_step (bind v x) c =
      let b = bound v x c in
      λ i. record { look = write_look m.cells top l.store v (other end_a end_b v) x b i; classes = m.classes; pairs = rest }
  seen_step (join n k) c = refl
  seen_step clash c = refl

  -- the words after an act
  abbrev Kept : Machine → Type 0
  Kept t = WellFormed t.cells top × (shape_of t.cells ≡ sh) × All (λ i j. (term_at t.cells top i ≡ true) × (term_at t.cells top j ≡ true)) t.pairs × Wrote s t.cells t.trail t.trailed

  kept : (u : Act) → CaseHere u → Kept (to u)
  kept skip c = (l.store, l.shape, all_terms.1, l.wrote)
  kept (bind v x) c =
      let b = bound v x c in
      let y = other end_a end_b v in
      let h = b.high_v in
      let r = l.store.room in
      let up = write_term m.cells top l.store v y x b in (
        write_store m.cells top l.store v y x b,
        write_shape m.cells top l.store v y x b ∙ l.shape,
        all_map _ _ (λ i j t. (up i t.0, up j t.1)) rest all_terms.1,
        wrote_more s m.cells m.trail m.trailed l.wrote v (get_or m.cells y 0) b.low_v b.high_v (omega arith)
            (word_v m.cells top l.store v y x b)
            (write_bound m.cells top l.store v y x b)
            (write_target m.cells top l.store v y x b)
            (write_count m.cells top l.store v y x b),
      )
  kept (join n k) (joins _ _ ea eb q z) =
      (l.store, l.shape, all_args _ sh n k rest (arity_of sh n) 0 (λ j _ b. (arg_term p.0 n j ea (omega arith), arg_term p.1 k j eb (omega (arith, ap (λ x. x.1) q)))) all_terms.1, l.wrote)
  kept clash c = (l.store, l.shape, all_terms.1, l.wrote)

  abbrev old : Seen
  old = seen_of top (popped m rest)

  classed_old : Classed sh top old
  classed_old = record { below = l.classed.below; rep = l.classed.rep; funs = l.classed.funs }

  pub live_step : (u : Act) → CaseHere u → Live s f (to u)
  live_step u c =
      let k = kept u c in
      let r = seen_step u c in
      let less : weight sh top old < f = let t = l.time in omega (arith, ap length e) in
      record {
        store = k.0;
        shape = k.1;
        terms = k.2;
        classed = subst (Classed sh top) (sym r) (classed_step sh top old p.0 p.1 u c classed_old);
        time = subst (λ (x : Seen). weight sh top x < f) (sym r) (subst (λ (x : ℕ). x < f) (sym (level sh top old p.0 p.1 u c classed_old)) less);
        wrote = k.3;
      }

  -- ---- what the occurs check lets pass, and what it stops
  module _ (check : Bool) (v : ℕ) (x : View) (c : CaseHere (bind v x)) where
    abbrev y : ℕ
    y = other end_a end_b v

    pub lets_pass : stopped check m.cells top v x y ≡ false → Passes check sh (look_at m.cells top) (bind v x)
    lets_pass z ck w n q bl =
        let b = bound v x c in
        let qv : w ≡ v = cc in
        let qx : x ≡ nod n = cc in
        let t : stopped true m.cells top v (nod n) y ≡ false = subst (λ (k : View). stopped true m.cells top v k y ≡ false) qx (sym (ap (λ (k : Bool). stopped k m.cells top v x y) ck) ∙ z) in
        passes_clear m.cells top l.store v y n b.free_v b.low_e b.high_e b.stays (b.shows ∙ qx) t
        (subst (λ (h : Shape). Below h (look_at m.cells top) v n) (sym l.shape) (subst (λ (k : ℕ). Below sh (look_at m.cells top) k n) qv bl))

    sides : (n : ℕ) → x ≡ nod n → CaseHere (bind v x) → ((look_at m.cells top p.0 ≡ free v) × (look_at m.cells top p.1 ≡ nod n)) ⊎ ((look_at m.cells top p.1 ≡ free v) × (look_at m.cells top p.0 ≡ nod n))
    sides n q (binds _ _ ea eb z) = inl (ea, eb ∙ q)
    sides n q (binds' _ _ ea eb z) = inr (eb, ea ∙ q)

    pub stops_checked : stopped check m.cells top v x y ≡ true → check ≡ true
    stops_checked z = (stopped_node check m.cells top v x y z).0

    pub stops_at : stopped check m.cells top v x y ≡ true → Stops sh old p.0 p.1
    stops_at z =
        let b = bound v x c in
        let d = stopped_node check m.cells top v x y z in
        let n = d.1.0 in
        let qx = d.1.1 in
        let t : stopped true m.cells top v (nod n) y ≡ true = subst (λ (k : View). stopped true m.cells top v k y ≡ true) qx (sym (ap (λ (k : Bool). stopped k m.cells top v x y) d.0) ∙ z) in
        record {
          variable = v;
          node = n;
          sides = sides n qx c;
          below = subst (λ (h : Shape). Below h (look_at m.cells top) v n) l.shape (stops_below m.cells top l.store v y n b.free_v b.low_e b.high_e b.stays (b.shows ∙ qx) t);
        }

  -- ---- where the turn leads
  module _ (check : Bool) where
    pub turn_is : (u : Act) → act_of m end_a end_b ≡ u → run check top (suc f) m ≡ after check top (λ t. run check top f t) (popped m rest) end_a end_b u
    unfolding run
    turn_is u q = ap (λ (S : List (ℕ × ℕ)). turn check top (λ t. run check top f t) m S) e ∙ ap (λ (u : Act). after check top (λ t. run check top f t) (popped m rest) end_a end_b u) q

    pub turn_skip : act_of m end_a end_b ≡ skip → run check top (suc f) m ≡ run check top f (to skip)
    turn_skip q = turn_is skip q

    pub turn_join : (n k : ℕ) → act_of m end_a end_b ≡ join n k → run check top (suc f) m ≡ run check top f (to (join n k))
    turn_join n k q = turn_is (join n k) q ∙ ap (λ (h : Shape). run check top f (joined h (popped m rest) n k)) l.shape

    pub turn_clash : act_of m end_a end_b ≡ clash → run check top (suc f) m ≡ clashes
    turn_clash q = turn_is clash q

    module _ (v : ℕ) (x : View) (q : act_of m end_a end_b ≡ bind v x) where
      pub turn_bind : stopped check m.cells top v x (other end_a end_b v) ≡ false → run check top (suc f) m ≡ run check top f (to (bind v x))
      turn_bind z = turn_is (bind v x) q ∙ rw z

      pub turn_occurs : stopped check m.cells top v x (other end_a end_b v) ≡ true → run check top (suc f) m ≡ occurs
      turn_occurs z = turn_is (bind v x) q ∙ rw z

-- no pair is left
pub live_done : (s : State) (f : ℕ) (m : Machine) → Live s f m → m.pairs ≡ [] → (check : Bool) → run check s.top f m ≡ yes m
unfolding run
live_done s zero m l e check = let t = l.time in absurd (omega arith)
live_done s (suc f) m l e check = rw e

-- ---- the start
pub live_start : (s : State) (a b : ℕ) → WellFormed s.cells s.top → term_at s.cells s.top a ≡ true → term_at s.cells s.top b ≡ true → s.trailed + unbound s.cells s.top ≤ length s.trail → Live s (fuel s.top) (start s a b)
live_start s a b wf ta tb r =
    record {
      store = wf;
      shape = refl;
      terms = ((ta, tb), tt);
      classed = classed_start s.cells s.top wf a b;
      time = let z = weight_start s.cells s.top wf a b in omega arith;
      wrote = wrote_start s r;
    }

module _ (s : State) (check : Bool) (A : Seen → Type 0) (C O : Type 0)
    (on : (t : Seen) (a b : ℕ) (u : Act) → Case (shape_of s.cells) t.classes (t.look a) (t.look b) u → (u ≡ clash → ⊥) → Passes check (shape_of s.cells) t.look u → A (pushed a b t) → A (apply (shape_of s.cells) t u))
    (at_clash : (t : Seen) (a b : ℕ) → Apart (shape_of s.cells) (t.look a) (t.look b) → A (pushed a b t) → C)
    (at_stop : check ≡ true → (t : Seen) (a b : ℕ) → Stops (shape_of s.cells) t a b → A (pushed a b t) → O) where
  pub run_keeps : (f : ℕ) (m : Machine) → Live s f m → A (seen_of s.top m) → Ends s A C O (run check s.top f m)
  unfolding run
  run_keeps zero m l h = let t = l.time in absurd (omega arith)
  run_keeps (suc f) m l h = go m.pairs refl (λ t. run_keeps f t)
    where
      To : Ending → Type 0
      To = Ends s A C O

      Next : Type 0
      Next = (t : Machine) → Live s f t → A (seen_of s.top t) → To (run check s.top f t)

      step : (p : ℕ × ℕ) (rest : List (ℕ × ℕ)) (e : m.pairs ≡ p ∷ rest) → Next → (u : Act) → CaseHere s f m p rest e l u → (u ≡ clash → ⊥) → Passes check (shape_of s.cells) (look_at m.cells s.top) u → A (pushed p.0 p.1 (seen_of s.top (popped m rest))) → run check s.top (suc f) m ≡ run check s.top f (to s f m p rest e l u) → To (run check s.top (suc f) m)
      step p rest e ih u c n ps k r =
          subst To (sym r) (ih (to s f m p rest e l u) (live_step s f m p rest e l u c) (subst A (sym (seen_step s f m p rest e l u c)) (on (seen_of s.top (popped m rest)) p.0 p.1 u c n ps k)))

      binding : (p : ℕ × ℕ) (rest : List (ℕ × ℕ)) (e : m.pairs ≡ p ∷ rest) → Next → (v : ℕ) (x : View) → act_of m (end_a s f m p rest e l) (end_b s f m p rest e l) ≡ bind v x → CaseHere s f m p rest e l (bind v x) → A (pushed p.0 p.1 (seen_of s.top (popped m rest))) → (t : Bool) → stopped check m.cells s.top v x (other (end_a s f m p rest e l) (end_b s f m p rest e l) v) ≡ t → To (run check s.top (suc f) m)
      binding p rest e ih v x q c k true z = subst To (sym (turn_occurs s f m p rest e l check v x q z)) (at_stop (stops_checked s f m p rest e l check v x c z) (seen_of s.top (popped m rest)) p.0 p.1 (stops_at s f m p rest e l check v x c z) k)
      binding p rest e ih v x q c k false z = step p rest e ih (bind v x) c (λ b. cc) (lets_pass s f m p rest e l check v x c z) k (turn_bind s f m p rest e l check v x q z)

      clashing : (p : ℕ × ℕ) (rest : List (ℕ × ℕ)) (e : m.pairs ≡ p ∷ rest) → CaseHere s f m p rest e l clash → A (pushed p.0 p.1 (seen_of s.top (popped m rest))) → C
      clashing p rest e (parts x) k = at_clash (seen_of s.top (popped m rest)) p.0 p.1 x k

      one : (p : ℕ × ℕ) (rest : List (ℕ × ℕ)) (e : m.pairs ≡ p ∷ rest) → Next → (u : Act) → act_of m (end_a s f m p rest e l) (end_b s f m p rest e l) ≡ u → CaseHere s f m p rest e l u → A (pushed p.0 p.1 (seen_of s.top (popped m rest))) → To (run check s.top (suc f) m)
      one p rest e ih skip q c k = step p rest e ih skip c (λ b. cc) (λ ck v n b. cc) k (turn_skip s f m p rest e l check q)
      one p rest e ih (bind v x) q c k = binding p rest e ih v x q c k (stopped check m.cells s.top v x (other (end_a s f m p rest e l) (end_b s f m p rest e l) v)) refl
      one p rest e ih (join n j) q c k = step p rest e ih (join n j) c (λ b. cc) (λ ck v n b. cc) k (turn_join s f m p rest e l check n j q)
      one p rest e ih clash q c k = subst To (sym (turn_clash s f m p rest e l check q)) (clashing p rest e c k)

      go : (S : List (ℕ × ℕ)) → m.pairs ≡ S → Next → To (run check s.top (suc f) m)
      go [] e ih = subst To (sym (live_done s (suc f) m l e check)) (suc f, l, h, e)
      go (p ∷ rest) e ih =
          one p rest e ih (act_of m (end_a s f m p rest e l) (end_b s f m p rest e l)) refl (case_here s f m p rest e l)
          (subst (λ (S : List (ℕ × ℕ)). A (record { look = look_at m.cells s.top; classes = m.classes; pairs = S })) e h)
