-- A running unification: the words that the code holds between two turns are those of a machine, whose run from there is the whole run. And that each turn of the code is a turn of the machine.
use Rattle.std.specs.Prelude.{◌≡◌, Bool, true, false, List, ◌∷◌, ◌++◌, ℕ, zero, suc, ◌+◌, ◌<◌, ◌≤◌, length, get_or, set}
use Rattle.std.proofs.Math.Path.{refl}
use Rattle.std.proofs.Common.{sym, ap, ap₂, subst, ◌∙◌, arith, eq-eqb, ne_eqb, length-append, get_or-drop}
use Rattle.store.specs.Store.{kind_at}
use Rattle.store.specs.Steps.{term_used}
use Rattle.trail.specs.State.{State}
use Rattle.terms.specs.View.{View, nod, Shape, arity_of, behind, look_at, shape_of}
use Rattle.terms.specs.Shows.{arity_some}
use Rattle.chains.specs.Work.{work_need}
use Rattle.chains.specs.Chains.{Hops}
use Rattle.chains.specs.Bind.{hops_bind}
use Rattle.classes.specs.Classes.{Classes}
use Rattle.unification.specs.Machine.{same_constant, same_fun, Act, skip, bind, join, clash, rule, Machine, clashes, merge, args, other, view_at, act_of, run, fuel, unified}
use Rattle.unification.specs.Cases.{Apart, cc, cn, nc, nn}
use Rattle.unification.proofs.Cases.{constant_true, fun_true, fun_same, rule_same, act_is}
use Rattle.unification.specs.Nodes.{node_args, node_lt}
use Rattle.unification.specs.Write.{Bindable, word_v}
use Rattle.unification.proofs.Weight.{length_args}
use Rattle.unification.specs.Wrote.{Wrote, entry_free}
use Rattle.unification.specs.Live.{Live}
use Rattle.unification.proofs.Live.{not_stopped, to, term_a, term_b, CaseHere, case_here, bound, live_step, turn_skip, turn_join, turn_clash, turn_bind}
use Rattle.unify.specs.declared.Act.{Act as Deed}
use Rattle.unify.specs.declared.Act.TheVariants.{Skip, Bind, Join, Clash}
use Rattle.unify.specs.declared.Compounds.{Compounds}
use Rattle.unify.specs.Internal.{lent}
use Rattle.unify.specs.Layout.{hops_of, pair_at, standing, standing_same, length_standing, row}
use Rattle.unify.specs.Following.{Followed}
use Rattle.unify.specs.Decided.{Binding, Nodes, Decided}
use Rattle.unify.specs.Looking.{Looks, Looked, end_left, end_right}
use Rattle.unify.specs.Joining.{Funs, unread, unread_near, classes_near, Meets, Meeting, together, grew, Met}

-- a call: the lent words at entry, how many trail entries stood, and the two roots
pub record Call : Type 0 where
  pub cells : List ℕ
  pub trail : List ℕ
  pub work : List ℕ
  pub trailed : ℕ
  pub left : ℕ
  pub right : ℕ

-- the state at entry
abbrev pub entry : Call → ℕ → State
entry c top = lent c.cells top c.trail c.trailed

-- what the code holds between two turns: the lent words, and how many pairs and trail entries stand
pub record Held : Type 0 where
  pub cells : List ℕ
  pub trail : List ℕ
  pub work : List ℕ
  pub pairs : ℕ
  pub trailed : ℕ

-- these, put together
abbrev pub holds : List ℕ → List ℕ → List ℕ → ℕ → ℕ → Held
holds cells trail work pairs trailed = record { cells = cells; trail = trail; work = work; pairs = pairs; trailed = trailed }

-- the machine with these words, whose classes have these names
abbrev pub machine : ℕ → (ℕ → ℕ) → Held → Machine
machine top classes h = record { cells = h.cells; trail = h.trail; trailed = h.trailed; classes = classes; pairs = standing top h.work h.pairs }

-- of the work buffer only the words that a call may use have changed
pub record Kept (top : ℕ) (old new : List ℕ) : Type 0 where
  pub wide : work_need top ≤ length old
  pub long : length new ≡ length old
  pub far : (j : ℕ) → work_need top ≤ j → get_or new j 0 ≡ get_or old j 0

-- at most f turns are left
pub record Going (c : Call) (top f : ℕ) (h : Held) : Type 0 where
  pub classes : ℕ → ℕ
  pub live : Live (entry c top) f (machine top classes h)
  pub whole : unified false (entry c top) c.left c.right ≡ run false top f (machine top classes h)
  pub turns : f ≤ fuel top
  pub named : Classes h.work top classes
  pub hops : Hops h.cells top (hops_of top h.work)
  pub kept : Kept top c.work h.work

-- two terms clashed
pub record Stuck (c : Call) (top : ℕ) (h : Held) : Type 0 where
  pub ends : unified false (entry c top) c.left c.right ≡ clashes
  pub wrote : Wrote (entry c top) h.cells h.trail h.trailed
  pub kept : Kept top c.work h.work

-- what is left to take: the pairs that stand, and those that joins may still push. It falls with each turn.
abbrev pub ahead : ℕ → Held → ℕ
ahead top h = h.pairs + unread (shape_of h.cells) top h.work

-- ---- what one turn asks and leaves
-- some call has come here, with a turn left
pub record Ready (top : ℕ) (h : Held) : Type 0 where
  pub call : Call
  pub turns : ℕ
  pub going : Going call top (suc turns) h

-- the turn goes on and leaves less to take, or two terms clash
abbrev pub Next : Call → ℕ → ℕ → Held → Bool → Held → Type 0
Next c top f h true h' = Going c top f h' × (ahead top h' < ahead top h)
Next c top f h false h' = Stuck c top h'

-- so for any call that has come here
pub record Went (top : ℕ) (h : Held) (ok : Bool) (h' : Held) : Type 0 where
  pub next : (c : Call) (f : ℕ) → Going c top (suc f) h → Next c top f h ok h'

-- ---- what no tree shows both of clashes
module _ (sh : Shape) (classes : ℕ → ℕ) (funs : Funs sh classes) where
  differ : (x : Bool) → (x ≡ true → ⊥) → x ≡ false
  differ true n = absurd (n refl)
  differ false n = refl

  pub apart_clash : {X Y : View} → Apart sh X Y → rule sh classes X Y ≡ clash
  unfolding rule
  apart_clash (cc c d n) = rw (differ (same_constant c d) (λ e. n (constant_true c d e)))
  apart_clash (cn c n) = refl
  apart_clash (nc n c) = refl
  apart_clash (nn n m f) = rw (ne_eqb (classes n) (classes m) (λ e. f (funs n m e)), differ (same_fun (sh.fun n) (sh.fun m)) (λ e. f (fun_true _ _ e)))

-- the pairs of arguments that the code pushes are the machine's
pub row_args : (cells : List ℕ) (x y k i : ℕ) → row (x + behind (kind_at cells x)) (y + behind (kind_at cells y)) k i ≡ args (shape_of cells) x y k i
unfolding row args
row_args cells x y zero i = refl
row_args cells x y (suc k) i = ap (λ l. (x + behind (kind_at cells x) + i, y + behind (kind_at cells y) + i) ∷ l) (row_args cells x y k (suc i))

-- ---- one turn
module _ (c : Call) (top f : ℕ) (cells trail work : List ℕ) (n m : ℕ) (g : Going c top (suc f) (holds cells trail work (suc n) m)) where
  abbrev s : State
  s = entry c top

  abbrev M : Machine
  M = machine top g.classes (holds cells trail work (suc n) m)

  abbrev p : ℕ × ℕ
  p = pair_at top work n

  abbrev rest : List (ℕ × ℕ)
  rest = standing top work n

  -- the pairs that stand are fewer than the turns left
  few : suc n ≤ f
  few = let t = g.live.time in omega (arith, length_standing top work n)

  pub looks : Looks cells top work n
  looks =
      let w = g.kept.wide in
      let l = g.kept.long in
      let t = g.turns in
      let k = few in
      let o = g.live.store.low in
      record {
        store = g.live.store;
        hops = g.hops;
        wide = omega arith;
        left = term_used cells top p.0 (term_a s f M p rest refl g.live);
        right = term_used cells top p.1 (term_b s f M p rest refl g.live);
      }

  abbrev A : ℕ
  A = end_left cells top work n

  abbrev B : ℕ
  B = end_right cells top work n

  rules : act_of M A B ≡ rule (shape_of cells) g.classes (view_at cells A) (view_at cells B)
  rules = act_is M A B

  abbrev next : Act → Machine
  next u = to s f M p rest refl g.live u

  case : (u : Act) → act_of M A B ≡ u → CaseHere s f M p rest refl g.live u
  case u q = subst (CaseHere s f M p rest refl g.live) q (case_here s f M p rest refl g.live)

  live_next : (u : Act) → act_of M A B ≡ u → Live s f (next u)
  live_next u q = live_step s f M p rest refl g.live u (case u q)

  -- words that are those of the next machine
  goes : (u : Act) → act_of M A B ≡ u → run false top (suc f) M ≡ run false top f (next u) → (classes : ℕ → ℕ) (h : Held) → machine top classes h ≡ next u → Classes h.work top classes → Hops h.cells top (hops_of top h.work) → Kept top c.work h.work → Going c top f h
  goes u q r classes h e cl hp k =
      let t = g.turns in
      record {
        classes = classes;
        live = subst (Live s f) (sym e) (live_next u q);
        whole = g.whole ∙ r ∙ ap (run false top f) (sym e);
        turns = omega arith;
        named = cl;
        hops = hp;
        kept = k;
      }

  same_funs : Funs (shape_of cells) g.classes
  same_funs i j q = subst (λ (h : Shape). h.fun i ≡ h.fun j) (sym g.live.shape) (g.live.classed.funs i j q)

  -- ---- the pair is taken and followed, and the work buffer is now w
  module _ (w : List ℕ) (size : length w ≡ length work) (l : Followed cells top work w) where
    named_now : Classes w top g.classes
    named_now = classes_near work w top size l.near g.classes g.named

    stand_now : standing top w n ≡ rest
    stand_now = standing_same top work w n (λ j a _. l.far j a)

    unread_now : (sh : Shape) → unread sh top w ≡ unread sh top work
    unread_now sh = unread_near sh top work w l.near

    kept_now : Kept top c.work w
    kept_now = let k = g.kept in record { wide = k.wide; long = size ∙ k.long; far = λ j h. l.far j (omega arith) ∙ k.far j h }

    skipped : act_of M A B ≡ skip → (w' : List ℕ) → standing top w' n ≡ rest → Classes w' top g.classes → Hops cells top (hops_of top w') → Kept top c.work w' → unread (shape_of cells) top w' ≡ unread (shape_of cells) top work → Next c top f (holds cells trail work (suc n) m) true (holds cells trail w' n m)
    skipped q w' e cl hp k u =
        (goes skip q (turn_skip s f M p rest refl g.live false q) g.classes (holds cells trail w' n m) (λ i. record { cells = cells; trail = trail; trailed = m; classes = g.classes; pairs = e i }) cl hp k, omega arith)

    pub go_skip : view_at cells A ≡ view_at cells B → Next c top f (holds cells trail work (suc n) m) true (holds cells trail w n m)
    go_skip e = skipped (rules ∙ rule_same (shape_of cells) g.classes _ _ e) w stand_now named_now l.hops kept_now (unread_now (shape_of cells))

    pub go_clash : Apart (shape_of cells) (view_at cells A) (view_at cells B) → Stuck c top (holds cells trail w n m)
    go_clash x =
        record {
          ends = g.whole ∙ turn_clash s f M p rest refl g.live false (rules ∙ apart_clash (shape_of cells) g.classes same_funs x);
          wrote = g.live.wrote;
          kept = kept_now;
        }

    -- ---- a binding
    module _ (v e : ℕ) (d : Binding (view_at cells A) (view_at cells B) A B v e) where
      abbrev u : Act
      u = bind v d.shows

      is_bind : act_of M A B ≡ u
      is_bind = rules ∙ d.rules (shape_of cells) g.classes

      binds_at : Bindable cells top v (other A B v) d.shows
      binds_at = bound s f M p rest refl g.live v d.shows (case u is_bind)

      pub bind_room : (v < length cells) × (e < length cells) × (m < length trail)
      bind_room =
          let r = g.live.store.room in
          let a = binds_at.high_v in
          let b = binds_at.high_e in
          let q = d.from in
          (omega arith, omega arith, entry_free s cells trail m g.live.wrote v a (word_v cells top g.live.store v (other A B v) d.shows binds_at))

      pub go_bind : Next c top f (holds cells trail work (suc n) m) true (holds (set cells v (get_or cells e 0)) (set trail m v) w n (m + 1))
      go_bind =
          let now = holds (set cells v (get_or cells e 0)) (set trail m v) w n (m + 1) in
          let same : machine top g.classes now ≡ next u = λ i. record { cells = set cells v (get_or cells (d.from i) 0); trail = set trail m v; trailed = m + 1; classes = g.classes; pairs = stand_now i } in
          let shape : shape_of now.cells ≡ shape_of cells = ap (λ (x : Machine). shape_of x.cells) same ∙ (live_next u is_bind).shape ∙ sym g.live.shape in (
            goes u is_bind (turn_bind s f M p rest refl g.live false v d.shows is_bind (not_stopped cells top v d.shows (other A B v))) g.classes now same named_now
                (hops_bind cells top v (get_or cells e 0) (hops_of top w) g.live.store binds_at.free_v l.hops) kept_now,
            omega (arith, ap (λ (h : Shape). unread h top w) shape, unread_now (shape_of cells)),
          )

    -- ---- two nodes
    module _ (x y first second arity : ℕ) (d : Nodes cells (view_at cells A) (view_at cells B) x y first second arity) where
      abbrev sh : Shape
      sh = shape_of cells

      is_node : act_of M A B ≡ rule sh g.classes (nod x) (nod y)
      is_node = rules ∙ ap₂ (rule sh g.classes) d.left_node d.right_node

      is_skip : g.classes x ≡ g.classes y → act_of M A B ≡ skip
      unfolding rule
      is_skip e = is_node ∙ rw (eq-eqb (g.classes x) (g.classes y) e)

      is_join : (g.classes x ≡ g.classes y → ⊥) → act_of M A B ≡ join x y
      unfolding rule
      is_join z = is_node ∙ rw (ne_eqb (g.classes x) (g.classes y) z, fun_same (sh.fun x) (sh.fun y) d.alike)

      look_x : look_at cells top p.0 ≡ nod x
      unfolding look_at
      look_x = d.left_node

      look_y : look_at cells top p.1 ≡ nod y
      unfolding look_at
      look_y = d.right_node

      -- a node's arguments end below `top`
      args_end : (i z k : ℕ) → look_at cells top i ≡ nod z → k ≡ arity_of sh z → z + behind (kind_at cells z) + k ≤ top
      args_end i z k q e =
          let a = arity_some cells z in
          let b = a.1 in
          let t = term_used cells top _ (node_args cells top g.live.store i z a.0 q (omega arith)) in
          let h = t.1 in
          omega arith

      arity_y : arity ≡ arity_of sh y
      arity_y = d.arity_is ∙ ap (λ q. q.1) d.alike

      pairs_next : (g.classes x ≡ g.classes y → ⊥) → n + arity < f
      pairs_next z =
          let o = (live_next (join x y) (is_join z)).time in
          let sh₀ = shape_of c.cells in
          let q : arity ≡ arity_of sh₀ x = d.arity_is ∙ ap (λ (h : Shape). arity_of h x) g.live.shape in
          omega (arith, length-append (args sh₀ x y (arity_of sh₀ x) 0) rest, length_args sh₀ x y (arity_of sh₀ x) 0, length_standing top work n)

      pub meets : Meets w top n x y first second arity
      meets =
          let k = kept_now in
          let wd = k.wide in
          let lg = k.long in
          let t = g.turns in
          let fw = few in
          let lo = g.live.store.low in
          let hi = g.live.store.high in
          let ax = args_end p.0 x arity look_x d.arity_is in
          let ay = args_end p.1 y arity look_y arity_y in
          let lf = d.left_first in
          let rf = d.right_first in
          record {
            classes = g.classes;
            named = named_now;
            left_node = node_lt cells top g.live.store p.0 x look_x;
            right_node = node_lt cells top g.live.store p.1 y look_y;
            left_args = omega arith;
            right_args = omega arith;
            wide = omega arith;
            stand = omega arith;
            room = λ z. let o = pairs_next z in omega arith;
          }

      module _ (w' : List ℕ) (size' : length w' ≡ length w) (r : ℕ) (q : Met w top n x y first second arity w' r) where
        -- no shortcut has changed
        hops_then : Hops cells top (hops_of top w')
        hops_then =
            record {
              ahead = λ i a b z.
                  let e : get_or (hops_of top w') i 0 ≡ get_or (hops_of top w) i 0 = get_or-drop top w' i 0 ∙ q.between (top + i) (omega arith) (omega arith) ∙ sym (get_or-drop top w i 0) in
                  rw e (l.hops.ahead i a b (λ o. z (e ∙ o)));
            }

        kept_then : Kept top c.work w'
        kept_then = let k = kept_now in record { wide = k.wide; long = size' ∙ k.long; far = λ j h. q.far j h ∙ k.far j h }

        shape : sh ≡ shape_of c.cells
        shape = g.live.shape

        pushed_args : row first second arity 0 ≡ args (shape_of c.cells) x y (arity_of (shape_of c.cells) x) 0
        pushed_args = rw (d.left_first, d.right_first, d.arity_is) (row_args cells x y (arity_of sh x) 0) ∙ ap (λ (h : Shape). args h x y (arity_of h x) 0) shape

        pub go_join : Next c top f (holds cells trail work (suc n) m) true (holds cells trail w' r m)
        go_join = by (q.meets g.classes named_now)
          where
            by : Meeting w top n x y first second arity w' r g.classes → Next c top f (holds cells trail work (suc n) m) true (holds cells trail w' r m)
            by (together o) =
                subst (λ (k : ℕ). Next c top f (holds cells trail work (suc n) m) true (holds cells trail w' k m)) (sym o.count)
                (skipped (is_skip o.one) w' (standing_same top w w' n (λ j a b. q.between j (omega arith) b) ∙ stand_now) o.named hops_then kept_then (o.unread_same sh ∙ unread_now sh))
            by (grew o) =
                let less = o.unread_less sh same_funs d.alike in
                let a = d.arity_is in
                let k = o.count in (
                  goes (join x y) (is_join o.two) (turn_join s f M p rest refl g.live false x y (is_join o.two)) (λ i. merge (g.classes x) (g.classes y) (g.classes i)) (holds cells trail w' r m)
                      (λ i. record { cells = cells; trail = trail; trailed = m; classes = λ i. merge (g.classes x) (g.classes y) (g.classes i); pairs = (ap (standing top w') o.count ∙ o.pushed ∙ ap₂ ◌++◌ pushed_args stand_now) i })
                      o.named hops_then kept_then,
                  omega (arith, unread_now sh),
                )

-- ---- what the code returns, by what the pair asks for
decided_as : {cells : List ℕ} {top : ℕ} {work : List ℕ} {n : ℕ} {w : List ℕ} {act : Deed} → Looked cells top work n w act → (a : Deed) → act ≡ a → Decided cells (end_left cells top work n) (kind_at cells (end_left cells top work n)) (end_right cells top work n) (kind_at cells (end_right cells top work n)) a
decided_as {cells} {top} {work} {n} l a e =
    subst (λ (x : Deed). Decided cells (end_left cells top work n) (kind_at cells (end_left cells top work n)) (end_right cells top work n) (kind_at cells (end_right cells top work n)) x) e l.decided

module _ {top : ℕ} {cells trail work : List ℕ} {n m : ℕ} {w : List ℕ} (size : length w ≡ length work) {act : Deed} (l : Looked cells top work n w act) where
  pub went_skip : act ≡ Skip → Went top (holds cells trail work (suc n) m) true (holds cells trail w n m)
  went_skip e = record { next = λ c f g. go_skip c top f cells trail work n m g w size l.followed (decided_as l Skip e) }

  pub went_clash : act ≡ Clash → Went top (holds cells trail work (suc n) m) false (holds cells trail w n m)
  went_clash e = record { next = λ c f g. go_clash c top f cells trail work n m g w size l.followed (decided_as l Clash e) }

  module _ {v e : ℕ} (is : act ≡ Bind v e) where
    pub bind_asks : Ready top (holds cells trail work (suc n) m) → (v < length cells) × (e < length cells) × (m < length trail)
    bind_asks r = bind_room r.call top r.turns cells trail work n m r.going w size l.followed v e (decided_as l (Bind v e) is)

    pub went_bind : {cells' trail' : List ℕ} → cells' ≡ set cells v (get_or cells e 0) → trail' ≡ set trail m v → Went top (holds cells trail work (suc n) m) true (holds cells' trail' w n (m + 1))
    went_bind ec et = record { next = λ c f g. rw (ec, et) (go_bind c top f cells trail work n m g w size l.followed v e (decided_as l (Bind v e) is)) }

  module _ {q : Compounds} (is : act ≡ Join q) where
    pub join_asks : Ready top (holds cells trail work (suc n) m) → Meets w top n q.n q.m q.left q.right q.arity
    join_asks r = meets r.call top r.turns cells trail work n m r.going w size l.followed q.n q.m q.left q.right q.arity (decided_as l (Join q) is)

    pub went_join : {w' : List ℕ} {r : ℕ} → length w' ≡ length w → Met w top n q.n q.m q.left q.right q.arity w' r → Went top (holds cells trail work (suc n) m) true (holds cells trail w' r m)
    went_join {w'} {r} e o = record { next = λ c f g. go_join c top f cells trail work n m g w size l.followed q.n q.m q.left q.right q.arity (decided_as l (Join q) is) w' e r o }

pub ready_looks : {top : ℕ} {cells trail work : List ℕ} {n m : ℕ} → Ready top (holds cells trail work (suc n) m) → Looks cells top work n
ready_looks {top} {cells} {trail} {work} {n} {m} r = looks r.call top r.turns cells trail work n m r.going
