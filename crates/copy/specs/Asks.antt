-- What each part of the code asks of the arrays, and that the invariant of a copy gives it.
use Rattle.std.specs.Prelude.{◌≡◌, List, ℕ, ◌+◌, ◌<◌, ◌≤◌, length}
use Rattle.std.proofs.Math.Path.{refl, subst}
use Rattle.std.proofs.Common.{sym, ap, ◌∙◌, get_or-take, eq-eqb}
use Rattle.std.proofs.Math.Logic.{inl, inr}
use native.Mathlib.Omega.{arith}
use Rattle.std.proofs.Math.Decide.{ℕ_discrete}
use Rattle.std.proofs.Math.ListN.{get_or}
use Rattle.cell.specs.declared.Kind.{Kind}
use Rattle.cell.specs.declared.Kind.TheVariants.{Var, Str, Lis, Atom, Fixnum, Bad}
use Rattle.cell.specs.Kinds.{kind_of}
use Rattle.store.specs.Store.{limit, kind_at}
use Rattle.cycle.specs.Kids.{arity_at}
use Rattle.cycle.specs.Room.{room_of}
use Rattle.chains.specs.Chains.{Chained, Hops}
use Rattle.chains.specs.Hops.{chained, same_chained, same_hops}
use Rattle.copy.specs.Rules.{State, table_words, home_at, structure_at, pair_at, end_word, run, scanned}
use Rattle.copy.specs.Inv.{Given, Run, From, End, Inv, Which, fits_in}
use Rattle.copy.specs.Follow.{arity_agree, var_used, Good, end_good}
use Rattle.copy.specs.Steps.{used, word_is, ran, stepped, str_there, lis_there}
use Rattle.copy.specs.Buffer.{tables_of, hops_of}

-- the cells, the tables and the count of cells, put together
abbrev pub state_of : List ℕ → List ℕ → ℕ → State
state_of cells tables end = record { cells = cells; tables = tables; end = end }

-- ---- what is asked
-- a copy of the run of n cells at b is noted at i, or there is room for it
pub record Able (cells tables : List ℕ) (top end i b n : ℕ) : Type 0 where
  pub index : i < top + top
  pub old : b + n ≤ top
  pub fits : get_or tables i 0 ≡ 0 → (end + n ≤ length cells) × (end + n ≤ limit)
  pub small : get_or tables i 0 ≤ limit

-- a cell of this kind may be copied
abbrev pub Can : List ℕ → List ℕ → ℕ → ℕ → Kind → Type 0
Can cells tables top end (Var v) = (v < top) × (get_or tables (home_at top v) 0 ≤ limit)
Can cells tables top end (Str f) = Able cells tables top end (structure_at top f) f (1 + arity_at cells f)
Can cells tables top end (Lis l) = Able cells tables top end (pair_at top l) l 2
Can cells tables top end (Atom n a) = Unit {0}
Can cells tables top end (Fixnum z) = Unit {0}
Can cells tables top end Bad = Unit {0}

-- the scanned cell p may be followed
pub record Follows (cells work : List ℕ) (top p : ℕ) : Type 0 where
  pub chains : Chained cells top
  pub hops : Hops cells top (hops_of top work)
  pub names : (v : ℕ) → kind_at cells p ≡ Var v → (1 ≤ v) × (v < top)

-- the old store, and where the copy of its term stands when p is next
pub record Ready (cells work : List ℕ) (top end p : ℕ) : Type 0 where
  pub s : List ℕ
  pub root : ℕ
  pub given : Given s top root
  pub inv : Inv s top root cells (tables_of top work) end p
  pub hops : Hops s top (hops_of top work)

-- ---- tables that are the front of a longer list
module _ (cells work : List ℕ) (top end : ℕ) where
  able_whole : (i b n : ℕ) → Able cells (tables_of top work) top end i b n → Able cells work top end i b n
  able_whole i b n a =
      let x = a.index in
      let e = get_or-take (table_words top) work i 0 (omega arith) in
      record { index = a.index; old = a.old; fits = λ z. a.fits (e ∙ z); small = rw e at a.small }

  pub can_whole : (k : Kind) → Can cells (tables_of top work) top end k → Can cells work top end k
  can_whole (Var v) (l, h) = (l, rw (get_or-take (table_words top) work (home_at top v) 0 (omega arith)) at h)
  can_whole (Str f) a = able_whole (structure_at top f) f (1 + arity_at cells f) a
  can_whole (Lis l) a = able_whole (pair_at top l) l 2 a
  can_whole (Atom n a) h = h
  can_whole (Fixnum z) h = h
  can_whole Bad h = h

-- ---- what the invariant gives
module _ (cells work : List ℕ) (top end p : ℕ) (r : Ready cells work top end p) where
  abbrev tabs : List ℕ
  tabs = tables_of top work

  pub end_high : end ≤ top + room_of r.s top r.root
  end_high = let c = r.inv.count in omega (arith, fits_in r.s top r.root r.given tabs r.inv.str_reached_lem r.inv.lis_reached_lem)

  pub follows : p < end → Follows cells work top p
  follows h =
      let I = r.inv in
      let wf = r.given.wf in
      let ch = chained r.s top wf in
      let c = I.cover p I.above h in
      let u = used r.given I p c.0 c.1 in
      let l = I.long in
      let m = wf.room in
      record {
        chains = same_chained r.s cells top ch I.agree (omega arith);
        hops = same_hops r.s cells top ch I.agree r.hops;
        names = λ v e. var_used r.s top wf c.0 v u.0 u.1 (ap kind_of (sym (I.raw p c.0 c.1 (omega arith))) ∙ e);
      }

  module _ (h : p < end) where
    able : (i b n : ℕ) → Which r.s top r.root i b n → 1 ≤ b → b + n ≤ top → i < top + top → get_or tabs i 0 ≤ limit → Able cells tabs top end i b n
    unfolding run
    able i b n which l u ix sm = record { index = ix; old = u; small = sm; fits = room }
      where
        ends : get_or tabs i 0 ≡ 0 → end + n ≡ (run (state_of cells tabs end) i b n).end
        ends z = rw (eq-eqb (get_or tabs i 0) 0 z)

        room : get_or tabs i 0 ≡ 0 → (end + n ≤ length cells) × (end + n ≤ limit)
        room z =
            let t = ran r.given r.inv h i b n which l u in
            let c = t.inv.count in
            let f = fits_in r.s top r.root r.given (run (state_of cells tabs end) i b n).tables t.inv.str_reached_lem t.inv.lis_reached_lem in
            let e = ends z in
            let g = r.given.fits in
            let m = r.given.lim in
            let ll = r.inv.long in
            (omega arith, omega arith)

    entry : (b g n : ℕ) → Run r.s top r.root tabs b g n → g ≤ limit
    entry b g n q = let t = r.inv.run b g n q in let y = t.3 in let e = end_high in let m = r.given.lim in omega arith

    pub can : Can cells tabs top end (kind_of (end_word cells top (get_or cells p 0)))
    unfolding Good
    can =
        let c = r.inv.cover p r.inv.above h in
        let u = used r.given r.inv p c.0 c.1 in
        subst (λ (w : ℕ). Can cells tabs top end (kind_of w)) (sym (word_is r.given r.inv c.0 c.1))
        (by c.0 c.1 (kind_of (End r.s top r.root c.0)) refl (end_good r.s top r.given.wf c.0 u.0 u.1))
      where
        by : (x : ℕ) → From r.s top r.root tabs p x → (k : Kind) → kind_of (End r.s top r.root x) ≡ k → Good r.s top r.given.wf x k → Can cells tabs top end k
        by x f (Var v) e (l, g) = (l, elim (ℕ_discrete (get_or tabs (top + top + v) 0) 0) [ yes z ↦ omega arith | no z ↦ (let o = r.inv.homes v l z in let q = o.1 in let b = r.inv.bound in let y = end_high in let m = r.given.lim in omega arith) ])
        by x f (Str b) e (l, g, c) =
            let t = arity_agree r.s top r.given.wf cells r.inv.agree b (omega arith) in
            rw t (able b b (1 + arity_at r.s b) (inl (refl, refl, str_there r.given r.inv p x b f e c)) l g (omega arith)
            (elim (ℕ_discrete (get_or tabs b 0) 0) [ yes z ↦ omega arith | no z ↦ entry b (get_or tabs b 0) (1 + arity_at r.s b) (omega arith, z, inl (refl, refl)) ]))
        by x f (Lis b) e (l, g, c) =
            able (top + b) b 2 (inr (refl, refl, lis_there r.given r.inv p x b f e c)) l g (omega arith)
            (elim (ℕ_discrete (get_or tabs (top + b) 0) 0) [ yes z ↦ omega arith | no z ↦ entry b (get_or tabs (top + b) 0) 2 (omega arith, z, inr (refl, refl)) ])
        by x f (Atom n a) e g = tt
        by x f (Fixnum z) e g = tt
        by x f Bad e g = tt

    -- and again after the cell, with what is remembered as it was or grown
    pub again : (cells' work' : List ℕ) (end' : ℕ) → state_of cells' (tables_of top work') end' ≡ scanned top (state_of cells tabs end) p → Hops cells top (hops_of top work') → Ready cells' work' top end' (p + 1)
    again cells' work' end' e hp =
        let ch = chained r.s top r.given.wf in
        let f = follows h in
        record {
          s = r.s;
          root = r.root;
          given = r.given;
          inv = subst (λ (t : State). Inv r.s top r.root t.cells t.tables t.end (p + 1)) (sym e) (stepped r.given r.inv h);
          hops = same_hops cells r.s top f.chains (λ j g. sym (r.inv.agree j g)) hp;
        }
