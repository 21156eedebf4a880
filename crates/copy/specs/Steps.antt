-- Each scanned cell keeps the invariant of a copy.
use Rattle.std.specs.Prelude.{◌≡◌, List, length, set}
use Rattle.std.proofs.Math.Path.{refl, sym, ap, subst}
use Rattle.std.proofs.Common.{◌∙◌, length-set, eq-eqb, ne_eqb}
use Rattle.std.proofs.Math.Bool.{true, false≢true}
use Rattle.std.proofs.Math.Logic.{inl, inr}
use Prim.Native.Nat.{ℕ, zero, suc, ◌+◌, ◌<◌, ◌≤◌}
use native.Mathlib.Omega.{arith}
use Rattle.std.proofs.Math.Decide.{ℕ_discrete}
use Rattle.std.proofs.Math.ListN.{get_or}
use Rattle.std.proofs.Math.Seq.{get_or-set_same, get_or-set_other}
use Rattle.cell.specs.Kinds.{kind_of, word_of_kind}
use Rattle.cell.specs.declared.Kind.{Kind}
use Rattle.cell.specs.declared.Kind.TheVariants.{Var, Str, Lis, Atom, Fixnum, Bad}
use Rattle.store.specs.Store.{kind_at, is_atom}
use Rattle.store.specs.Steps.{term_used}
use Rattle.cycle.specs.Graph.{Reach, arg, first, second, here, join, one}
use Rattle.cycle.specs.Kids.{arity_at, str_atom}
use Rattle.cycle.specs.Reached.{StrReached, LisReached, reach_used}
use Rattle.copy.specs.Rules.{State, end_kind, end_word, run, homed, put, act, scanned}
use Rattle.copy.specs.Tally.{tally_home}
use Rattle.copy.specs.Inv.{Given, Run, From, Match, End, Inv, Which, fits_in, filled, grown, str_reached', lis_reached', count', before, new_at}
use Rattle.copy.specs.Follow.{arity_agree, end_agree, var_used, Good, end_good}

module _ {s : List ℕ} {top root : ℕ} (gv : Given s top root) where
  pub from_root : (y : ℕ) → Reach s root y → (1 ≤ y) × (y < top)
  from_root y r = let u = term_used s top root gv.term in reach_used s top gv.wf u.0 u.1 r

  -- the functor cell of a structure that is reached is an atom's
  pub functor : (f : ℕ) → StrReached s root f → (n : ℕ) × (kind_at s f ≡ Atom n (arity_at s f))
  functor f (y, r, t) = let u = from_root y r in str_atom s top gv.wf y u.0 u.1 f t

  pub functor_atom : (f : ℕ) → StrReached s root f → is_atom (kind_at s f) ≡ true
  unfolding is_atom
  functor_atom f r = ap is_atom (functor f r).1

  -- an atom's cell ends at its own word
  atom_end : (x : ℕ) → is_atom (kind_at s x) ≡ true → is_atom (kind_of (end_word s top (get_or s x 0))) ≡ true
  unfolding end_word end_kind is_atom
  atom_end x h = go (kind_at s x) refl h
    where
      go : (k : Kind) → kind_at s x ≡ k → is_atom k ≡ true → is_atom (kind_of (end_kind s top (get_or s x 0) k)) ≡ true
      go (Var v) e t = absurd (false≢true t)
      go (Str v) e t = absurd (false≢true t)
      go (Lis v) e t = absurd (false≢true t)
      go (Atom n a) e t = rw e
      go (Fixnum z) e t = absurd (false≢true t)
      go Bad e t = absurd (false≢true t)

  module _ {cells tables : List ℕ} {end p : ℕ} (I : Inv s top root cells tables end p) where
    pub used : (q x : ℕ) → From s top root tables q x → (1 ≤ x) × (x < top)
    used q x (inl (e, d)) = let u = term_used s top root gv.term in (omega arith, omega arith)
    used q x (inr (b, g, n, k, r, l, e, d)) = let t = I.run b g n r in let a = t.0 in let c = t.1 in (omega arith, omega arith)

    pub within : end ≤ length s
    within = let c = I.count in let lo = gv.wf.low in omega (arith, fits_in s top root gv tables I.str_reached_lem I.lis_reached_lem)

    alive : (q x : ℕ) → From s top root tables q x → (is_atom (kind_at s x) ≡ true → ⊥) → Reach s root x
    alive q x (inl (e, d)) n = subst (Reach s root) (sym d) here
    alive q x (inr (b, g, n, k, (a, z, inl (e, m)), l, c, d)) no_atom_lem = by k l d (I.str_reached_lem b a (λ y. z (sym e ∙ y)))
      where
        by : (k : ℕ) → k < n → x ≡ b + k → StrReached s root b → Reach s root x
        by zero i j o = let w : b ≡ x = omega arith in absurd (no_atom_lem (subst (λ (v : ℕ). is_atom (kind_at s v) ≡ true) w (functor_atom b o)))
        by (suc k) i j (y, r, t) =
            let w : b + 1 + k ≡ x = omega arith in
            let v = functor b (y, r, t) in
            subst (Reach s root) w (join r (one (arg b v.0 (arity_at s b) k t v.1 (omega arith))))
    alive q x (inr (b, g, n, k, (a, z, inr (e, m)), l, c, d)) no_atom_lem = by k l d (I.lis_reached_lem b a (λ y. z (sym e ∙ y)))
      where
        by : (k : ℕ) → k < n → x ≡ b + k → LisReached s root b → Reach s root x
        by zero i j (y, r, t) = let w : b ≡ x = omega arith in subst (Reach s root) w (join r (one (first t)))
        by (suc zero) i j (y, r, t) = let w : b + 1 ≡ x = omega arith in subst (Reach s root) w (join r (one (second b t)))
        by (suc (suc k)) i j o = absurd (omega arith)

    -- a Str or Lis where a copied cell ends is reached
    pub str_there : (q x f : ℕ) → From s top root tables q x → kind_of (End s top root x) ≡ Str f → ((c : ℕ) × Reach s x c × (kind_at s c ≡ Str f)) → StrReached s root f
    unfolding is_atom
    str_there q x f fr e (c, r, t) = (c, join (alive q x fr (λ h. false≢true (sym (ap is_atom e) ∙ atom_end x h))) r, t)

    pub lis_there : (q x f : ℕ) → From s top root tables q x → kind_of (End s top root x) ≡ Lis f → ((c : ℕ) × Reach s x c × (kind_at s c ≡ Lis f)) → LisReached s root f
    unfolding is_atom
    lis_there q x f fr e (c, r, t) = (c, join (alive q x fr (λ h. false≢true (sym (ap is_atom e) ∙ atom_end x h))) r, t)

    pub word_is : (x : ℕ) → From s top root tables p x → end_word cells top (get_or cells p 0) ≡ End s top root x
    word_is x f =
        let u = used p x f in
        ap (end_word cells top) (I.raw p x f (omega arith)) ∙ end_agree s top gv.wf cells I.agree (get_or s x 0) (λ v e. var_used s top gv.wf x v u.0 u.1 e)

    -- what stands at p decides
    pub same_end : (x y : ℕ) → From s top root tables p x → From s top root tables p y → End s top root x ≡ End s top root y
    same_end x y f g = sym (word_is x f) ∙ word_is y g

    -- after `run` the table has the run, and p stands as it did
    pub record Ran (t : State) (i : ℕ) : Type 0 where
      pub inv : Inv s top root t.cells t.tables t.end p
      pub has : get_or t.tables i 0 ≡ 0 → ⊥
      pub more : p < t.end
      pub still : get_or t.cells p 0 ≡ get_or cells p 0

    pub ran : p < end → (i b n : ℕ) → Which s top root i b n → 1 ≤ b → b + n ≤ top → Ran (run (record { cells = cells; tables = tables; end = end }) i b n) i
    unfolding run
    ran h i b n which l u = elim (ℕ_discrete (get_or tables i 0) 0) [ yes z ↦ fresh z | no z ↦ rw (ne_eqb (get_or tables i 0) 0 z) (record { inv = I; has = z; more = h; still = refl }) ]
      where
        fresh : get_or tables i 0 ≡ 0 → Ran (run (record { cells = cells; tables = tables; end = end }) i b n) i
        fresh z =
            let c = count' s top root cells tables end p I i b n which z l u in
            let f = fits_in s top root gv (set tables i end) (str_reached' s top root cells tables end p I i b n which z l u) (lis_reached' s top root cells tables end p I i b n which z l u) in
            let lo = I.low in
            rw (eq-eqb (get_or tables i 0) 0 z)
            (record {
              inv = grown s top root cells tables end p I i b n which z l u (omega arith);
              has = λ y. let w = sym (new_at s top root cells tables end p I i b n which z l u) ∙ y in omega arith;
              more = omega arith;
              still = before s top root cells tables end p I i b n which z l u p h;
            })

    -- p gets a word that matches, and no table changes
    pub fill : p < end → (w x : ℕ) (k : Kind) → From s top root tables p x → kind_of (End s top root x) ≡ k → Match s top root tables w (End s top root x) k → Inv s top root (set cells p w) tables end (p + 1)
    fill h w x k f e m =
        filled s top root cells tables end p I h within w tables refl (λ b g n r. r) (λ i n. refl) refl (λ i l. refl) 0
        (λ y g. let z = same_end x y f g in subst (λ (v : ℕ). Match s top root tables w v (kind_of v)) z (subst (Match s top root tables w (End s top root x)) (sym e) m))
        (λ v l n. inl n)

-- the rules, one by one
module _ {s : List ℕ} {top root : ℕ} (gv : Given s top root) {cells tables : List ℕ} {end p : ℕ} (I : Inv s top root cells tables end p) (h : p < end) where
  abbrev State0 : State
  State0 = record { cells = cells; tables = tables; end = end }

  abbrev Next : State → Type 0
  Next t = Inv s top root t.cells t.tables t.end (p + 1)

  -- the run is there: p names it
  module _ (x i : ℕ) (f : From s top root tables p x) (t : State) (r : Ran gv I t i) where
    there : (x' : ℕ) × From s top root t.tables p x' × (End s top root x' ≡ End s top root x)
    there =
        let a = I.above in
        let c = r.inv.cover p a r.more in
        (c.0, c.1, ap (end_word s top) (sym (r.inv.raw p c.0 c.1 (omega arith)) ∙ r.still ∙ I.raw p x f (omega arith)))

    name : (w : ℕ) (k : Kind) → kind_of (End s top root x) ≡ k → ((e : ℕ) → Match s top root t.tables w e k) → Inv s top root (set t.cells p w) t.tables t.end (p + 1)
    name w k e m =
        let o = there in
        fill gv r.inv r.more w o.0 k o.1 (ap kind_of o.2 ∙ e) (m (End s top root o.0))

  module _ (x : ℕ) (f : From s top root tables p x) where
    on_str : (b : ℕ) → kind_of (End s top root x) ≡ Str b → Good s top gv.wf x (Str b) → Next (act top State0 p (End s top root x) (Str b))
    unfolding act put Good Match
    on_str b e (l, u, c) =
        let g = arity_agree s top gv.wf cells I.agree b (omega arith) in
        let r = ran gv I h b b (1 + arity_at s b) (inl (refl, refl, str_there gv I p x b f e c)) l u in
        rw g (name x b f (run State0 b b (1 + arity_at s b)) r _ (Str b) e (λ v. (omega arith, r.has, refl)))

    on_lis : (b : ℕ) → kind_of (End s top root x) ≡ Lis b → Good s top gv.wf x (Lis b) → Next (act top State0 p (End s top root x) (Lis b))
    unfolding act put Good Match
    on_lis b e (l, u, c) =
        let r = ran gv I h (top + b) b 2 (inr (refl, refl, lis_there gv I p x b f e c)) l u in
        name x (top + b) f (run State0 (top + b) b 2) r _ (Lis b) e (λ v. (omega arith, r.has, refl))

    on_plain : (k : Kind) → kind_of (End s top root x) ≡ k → Match s top root tables (End s top root x) (End s top root x) k → Inv s top root (set cells p (End s top root x)) tables end (p + 1)
    on_plain k e m = fill gv I h (End s top root x) x k f e m

    module _ (v : ℕ) (e : kind_of (End s top root x) ≡ Var v) (good : Good s top gv.wf x (Var v)) where
      new_home : get_or tables (top + top + v) 0 ≡ 0 → Inv s top root (set cells p (word_of_kind (Var (get_or (set tables (top + top + v) p) (top + top + v) 0)))) (set tables (top + top + v) p) end (p + 1)
      unfolding Good Match
      new_home z =
          let i = top + top + v in
          let l = good.0 in
          let wd = I.wide in
          let ab = I.above in
          let lo = gv.wf.low in
          let now : get_or (set tables i p) i 0 ≡ p = get_or-set_same tables i p 0 (omega arith) in
          let w : ℕ = word_of_kind (Var (get_or (set tables i p) i 0)) in
          let off : (j : ℕ) → (j ≡ i → ⊥) → get_or (set tables i p) j 0 ≡ get_or tables j 0 = λ j n. get_or-set_other tables i j p 0 n in
          filled s top root cells tables end p I h (within gv I) w (set tables i p)
          (length-set tables i p)
          (λ b g n r. low_run b g n r (off b) (off (top + b)))
          (λ j n. off j (λ y. n (ap (λ (u : ℕ). get_or tables u 0) y ∙ z)))
          (tally_home s top tables i p (omega arith) lo)
          (λ j g. off j (λ y. omega arith))
          v
          (λ y g. let q = same_end gv I x y f g in subst (λ (u : ℕ). Match s top root (set tables i p) w u (kind_of u)) q (subst (Match s top root (set tables i p) w (End s top root x)) (sym e) (l, (λ y. let o = sym now ∙ y in omega arith), refl)))
          (λ u g n. elim (ℕ_discrete u v) [ yes y ↦ inr (y, ap (λ (j : ℕ). get_or (set tables i p) (top + top + j) 0) y ∙ now, ap (λ (j : ℕ). word_of_kind (Var j)) now, subst (λ (j : ℕ). kind_at s j ≡ Var j) (sym y) good.1) | no y ↦ inl (λ o. n (off (top + top + u) (λ q. y (omega arith)) ∙ o)) ])
        where
          low_run : (b g n : ℕ) → Run s top root (set tables (top + top + v) p) b g n → ((b ≡ top + top + v → ⊥) → get_or (set tables (top + top + v) p) b 0 ≡ get_or tables b 0) → ((top + b ≡ top + top + v → ⊥) → get_or (set tables (top + top + v) p) (top + b) 0 ≡ get_or tables (top + b) 0) → Run s top root tables b g n
          low_run b g n (a, c, inl (d, m)) o r = (a, c, inl (sym (o (λ y. omega arith)) ∙ d, m))
          low_run b g n (a, c, inr (d, m)) o r = (a, c, inr (sym (r (λ y. omega arith)) ∙ d, m))

      on_var : Next (act top State0 p (End s top root x) (Var v))
      unfolding act put homed Good Match
      on_var = elim (ℕ_discrete (get_or tables (top + top + v) 0) 0) [ yes z ↦ rw (eq-eqb (get_or tables (top + top + v) 0) 0 z) (new_home z) | no z ↦ rw (ne_eqb (get_or tables (top + top + v) 0) 0 z) (fill gv I h _ x (Var v) f e (good.0, z, refl)) ]

    acted : (k : Kind) → kind_of (End s top root x) ≡ k → Good s top gv.wf x k → Next (act top State0 p (End s top root x) k)
    unfolding act put Good Match
    acted (Var v) e g = on_var v e g
    acted (Str b) e g = on_str b e g
    acted (Lis b) e g = on_lis b e g
    acted (Atom n a) e g = on_plain (Atom n a) e refl
    acted (Fixnum z) e g = on_plain (Fixnum z) e refl
    acted Bad e g = absurd g

  pub stepped : Next (scanned top State0 p)
  unfolding scanned
  stepped =
      let ab = I.above in
      let c = I.cover p ab h in
      let u = used gv I p c.0 c.1 in
      subst (λ (w : ℕ). Next (act top State0 p w (kind_of w))) (sym (word_is gv I c.0 c.1))
      (acted c.0 c.1 (kind_of (End s top root c.0)) refl (end_good s top gv.wf c.0 u.0 u.1))
