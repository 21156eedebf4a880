-- The whole run: where it starts, that each turn goes on or clashes, and what it leaves.
use Rattle.std.specs.Prelude.{◌≡◌, refl, Bool, true, false, List, [], ◌∷◌, ℕ, suc, ◌+◌, ◌-◌, ◌<◌, ◌≤◌, length, get_or, drop}
use Rattle.std.proofs.Common.{sym, ap, subst, ◌∙◌, arith, length-drop, ext_get_or, get_or-drop}
use Rattle.trail.specs.State.{State}
use Rattle.chains.specs.Hops.{hops_none}
use Rattle.chains.specs.Work.{work_need}
use Rattle.classes.specs.Classes.{Classes, Apart}
use Rattle.unification.specs.Machine.{run, start, fuel, unified}
use Rattle.unification.specs.Live.{Live}
use Rattle.unification.proofs.Live.{live_start, live_done}
use Rattle.unify.specs.Internal.{lent, Begins, Left}
use Rattle.unify.specs.Layout.{hops_of, pair_place, standing, length_standing, Grown, Forgot}
use Rattle.unify.specs.Joining.{classes_near}
use Rattle.unify.specs.Going.{Call, Held, holds, machine, Kept, Going, Stuck, ahead, Ready, Next, Went}

-- ---- the start
-- each node is a class of its own, no shortcut is known, and the roots are the one pair
pub record Started (w : List ℕ) (top a b : ℕ) (w' : List ℕ) : Type 0 where
  pub classes : Classes w' top (λ n. n)
  pub none : (i : ℕ) → i < top → get_or (hops_of top w') i 0 ≡ 0
  pub roots : standing top w' 1 ≡ (a, b) ∷ []
  pub far : (j : ℕ) → pair_place top 1 ≤ j → get_or w' j 0 ≡ get_or w j 0

pub start_is : {w w₁ w₂ w₃ : List ℕ} {top a b : ℕ} → length w₂ ≡ length w₁ → length w₃ ≡ length w₂ → Apart w top w₁ → Forgot w₁ top w₂ → Grown w₂ top 0 1 ((a, b) ∷ []) w₃ → Started w top a b w₃
start_is {w} {w₁} {w₂} {w₃} {top} s t p f g =
    record {
      classes = classes_near w₂ w₃ top t (λ j h. g.near j (omega arith)) (λ n. n) (classes_near w₁ w₂ top s f.near (λ n. n) p.classes);
      none = λ i h. get_or-drop top w₃ i 0 ∙ g.near (top + i) (omega arith) ∙ sym (get_or-drop top w₂ i 0) ∙ f.none i h;
      roots = g.pairs;
      far = λ j h. g.far j h ∙ f.far j (omega arith) ∙ p.rest j (omega arith);
    }

-- ---- the loop
-- a call by its parts
abbrev pub called : List ℕ → List ℕ → List ℕ → ℕ → ℕ → ℕ → Call
called cells trail work trailed a b = record { cells = cells; trail = trail; work = work; trailed = trailed; left = a; right = b }

-- it goes on, with some turns left
abbrev pub Runs : Call → ℕ → Held → Type 0
Runs c top h = (f : ℕ) × Going c top f h

pub run_starts : {cells trail work w : List ℕ} {top trailed a b : ℕ} → Begins (lent cells top trail trailed) work a b → length w ≡ length work → Started work top a b w → Runs (called cells trail w trailed a b) top (holds cells trail w 1 trailed)
unfolding unified
run_starts {cells} {trail} {work} {w} {top} {trailed} {a} {b} g e s =
    let wd = g.wide in
    let lo = g.store.low in
    let same : machine top (λ n. n) (holds cells trail w 1 trailed) ≡ start (lent cells top trail trailed) a b = λ i. record { cells = cells; trail = trail; trailed = trailed; classes = λ n. n; pairs = s.roots i } in (
      fuel top,
      record {
        classes = λ n. n;
        live = subst (Live (lent cells top trail trailed) (fuel top)) (sym same) (live_start (lent cells top trail trailed) a b g.store g.left g.right g.room);
        whole = ap (run false top (fuel top)) (sym same);
        turns = omega arith;
        named = s.classes;
        hops = hops_none cells top (hops_of top w) s.none;
        kept = record { wide = omega arith; long = refl; far = λ j h. refl };
      },
    )

module _ {c : Call} {top : ℕ} {cells trail work : List ℕ} {n m : ℕ} (r : Runs c top (holds cells trail work n m)) where
  pub run_sizes : (length cells ≡ length c.cells) × (length trail ≡ length c.trail) × (length work ≡ length c.work)
  run_sizes = let g = r.1 in (g.live.wrote.cells_size, g.live.wrote.trail_size, g.kept.long)

  -- the pairs that stand are within the work buffer
  pub run_room : pair_place top n ≤ length work
  run_room =
      let g = r.1 in
      let w = g.kept.wide in
      let l = g.kept.long in
      let t = g.turns in
      let f = g.live.time in
      let o = g.live.store.low in
      omega (arith, length_standing top work n)

  -- a pair stands, so a turn is left
  module _ {k : ℕ} (more : 0 < n) (is : k ≡ n - 1) where
    turn_left : Going c top (suc (r.0 - 1)) (holds cells trail work (suc k) m)
    turn_left =
        let t = r.1.live.time in
        let e : n ≡ suc k = omega arith in
        let f : r.0 ≡ suc (r.0 - 1) = omega arith in
        subst (λ (x : ℕ). Going c top x (holds cells trail work (suc k) m)) f (subst (λ (x : ℕ). Going c top r.0 (holds cells trail work x m)) e r.1)

    pub run_ready : Ready top (holds cells trail work (suc k) m)
    run_ready = record { call = c; turns = r.0 - 1; going = turn_left }

    module _ {ok : Bool} {h : Held} (o : Went top (holds cells trail work (suc k) m) ok h) where
      pub run_on : ok ≡ true → Runs c top h × (ahead top h < ahead top (holds cells trail work n m))
      run_on e =
          let q = subst (λ (x : Bool). Next c top (r.0 - 1) (holds cells trail work (suc k) m) x h) e (o.next c (r.0 - 1) turn_left) in
          let l = q.1 in
          ((r.0 - 1, q.0), omega arith)

      pub run_stuck : ok ≡ false → Stuck c top h
      run_stuck e = subst (λ (x : Bool). Next c top (r.0 - 1) (holds cells trail work (suc k) m) x h) e (o.next c (r.0 - 1) turn_left)

-- ---- what it leaves; w was the work buffer at entry, and `work` where the loop began
rest_same : {work w new : List ℕ} {top a b : ℕ} → 1 ≤ top → length work ≡ length w → Started w top a b work → Kept top work new → drop (work_need top) new ≡ drop (work_need top) w
rest_same {work} {w} {new} {top} low e s k =
    ext_get_or 0 (drop (work_need top) new) (drop (work_need top) w) (simp length-drop (ap (λ (x : ℕ). x - work_need top) (k.long ∙ e)))
    (λ i _. get_or-drop (work_need top) new i 0 ∙ k.far (work_need top + i) (omega arith) ∙ s.far (work_need top + i) (omega arith) ∙ sym (get_or-drop (work_need top) w i 0))

module _ {cells trail work w : List ℕ} {top trailed a b : ℕ} (low : 1 ≤ top) (e : length work ≡ length w) (s : Started w top a b work) {h : Held} where
  -- no pair is left
  pub left_yes : Runs (called cells trail work trailed a b) top h → h.pairs ≡ 0 → Left (lent cells top trail trailed) w a b h.cells h.trail h.trailed h.work true
  left_yes (f, g) z =
      let m = machine top g.classes h in
      record {
        ended = (m, g.whole ∙ live_done (lent cells top trail trailed) f m g.live (ap (standing top h.work) z) false, refl, refl, refl);
        wrote = g.live.wrote;
        long = g.kept.long ∙ e;
        rest = rest_same low e s g.kept;
      }

  pub left_no : Stuck (called cells trail work trailed a b) top h → Left (lent cells top trail trailed) w a b h.cells h.trail h.trailed h.work false
  left_no k = record { ended = k.ends; wrote = k.wrote; long = k.kept.long ∙ e; rest = rest_same low e s k.kept }

-- the same words under other names
pub left_same : {s : State} {w : List ℕ} {a b : ℕ} {cells cells' trail trail' : List ℕ} {n n' : ℕ} {work work' : List ℕ} {ok : Bool} → cells' ≡ cells → trail' ≡ trail → n' ≡ n → work' ≡ work → Left s w a b cells trail n work ok → Left s w a b cells' trail' n' work' ok
left_same p q r t l = rw (p, q, r, t) l
