-- A copied cell shows what its original shows, cell for cell, and every cell that is reached has a copy.
use Rattle.std.specs.Prelude.{◌≡◌, List, ℕ, zero, suc, ◌+◌, ◌<◌, ◌≤◌}
use Rattle.std.proofs.Math.Path.{refl, sym, ap, subst}
use Rattle.std.proofs.Common.{◌∙◌, inl, inr, ⊎_elim}
use Rattle.std.proofs.Math.Bool.{true}
use Rattle.std.proofs.lemmas.Bool.{false≢true}
use native.Mathlib.Omega.{arith}
use Rattle.std.proofs.Math.ListN.{get_or}
use Rattle.cell.specs.declared.Kind.{Kind}
use Rattle.cell.specs.declared.Kind.TheVariants.{Var, Str, Lis, Atom, Fixnum, Bad}
use Rattle.cell.specs.Kinds.{kind_of, word_of_kind, Proper}
use Rattle.cell.specs.RoundTrips.{kind_back}
use Rattle.store.specs.Store.{limit, kind_at, is_atom, step, step_kind, steps, end_of}
use Rattle.store.specs.Steps.{term_used, steps_fixed, term_plain}
use Rattle.cycle.specs.Graph.{Edge, bound, arg, first, second, Reach, here, over}
use Rattle.cycle.specs.Kids.{arity_at, no_arguments, atom_arity, lis_terms}
use Rattle.cycle.specs.Room.{str_reached, lis_reached, room_of}
use Rattle.cycle.specs.Reached.{StrReached, LisReached, true_str, true_lis, reach_used}
use Rattle.chains.specs.Hops.{chained, next_end}
use Rattle.copy.specs.Rules.{end_kind, end_word}
use Rattle.copy.specs.Tally.{noted, is_noted, room_le}
use Rattle.copy.specs.Inv.{Given, Run, From, Match, End, Inv, fits_in}
use Rattle.copy.specs.Steps.{used, functor_atom}
use Rattle.copy.specs.Meaning.{Places, Shown, Agree, Variable}

shown_map : (s c : List ℕ) (m : Places) (F G : ℕ → ℕ → Type 0) → ((q x : ℕ) → F q x → G q x) → (q e : ℕ) (k : Kind) → Shown s c m F q e k → Shown s c m G q e k
unfolding Shown
shown_map s c m F G f q e (Var v) h = h
shown_map s c m F G f q e (Str b) (t, w, a) = (t, w, λ k l. f _ _ (a k l))
shown_map s c m F G f q e (Lis b) (t, a, d) = (t, f _ _ a, f _ _ d)
shown_map s c m F G f q e (Atom n a) h = h
shown_map s c m F G f q e (Fixnum z) h = h
shown_map s c m F G f q e Bad h = h

module _ {s : List ℕ} {top root : ℕ} (gv : Given s top root) {cells tables : List ℕ} {end : ℕ} (I : Inv s top root cells tables end end) where
  -- the tables say where the copies stand
  abbrev pub at : Places
  at = record { variables = λ v. get_or tables (top + top + v) 0; structures = λ f. get_or tables f 0; pairs = λ l. get_or tables (top + l) 0 }

  pub small : end ≤ limit
  small = let c = I.count in let m = gv.lim in omega (arith, fits_in s top root gv tables I.str_reached_lem I.lis_reached_lem)

  pub below : (q x : ℕ) → From s top root tables q x → (top ≤ q) × (q < end)
  below q x (inl (e, d)) = let lo = I.low in (omega arith, omega arith)
  below q x (inr (b, g, n, k, r, m, e, d)) = let t = I.run b g n r in let y = t.3 in let z = t.2 in (omega arith, omega arith)

  pub str_run : (f : ℕ) → f < top → (get_or tables f 0 ≡ 0 → ⊥) → Run s top root tables f (get_or tables f 0) (1 + arity_at s f)
  str_run f l n = (l, n, inl (refl, refl))

  pub lis_run : (f : ℕ) → f < top → (get_or tables (top + f) 0 ≡ 0 → ⊥) → Run s top root tables f (get_or tables (top + f) 0) 2
  lis_run f l n = (l, n, inr (refl, refl))

  pub var_back : (h : ℕ) → h < end → kind_of (word_of_kind (Var h)) ≡ Var h
  unfolding Proper
  var_back h l = let m = small in kind_back (Var h) (omega arith)

  pub str_back : (h : ℕ) → h < end → kind_of (word_of_kind (Str h)) ≡ Str h
  unfolding Proper
  str_back h l = let m = small in kind_back (Str h) (omega arith)

  pub lis_back : (h : ℕ) → h < end → kind_of (word_of_kind (Lis h)) ≡ Lis h
  unfolding Proper
  lis_back h l = let m = small in kind_back (Lis h) (omega arith)

  -- an atom's word is copied as it is
  pub atom_word_lem : (x : ℕ) → is_atom (kind_at s x) ≡ true → End s top root x ≡ get_or s x 0
  unfolding end_word end_kind is_atom
  atom_word_lem x h = go (kind_at s x) h
    where
      go : (k : Kind) → is_atom k ≡ true → end_kind s top (get_or s x 0) k ≡ get_or s x 0
      go (Var v) t = absurd (false≢true t)
      go (Str v) t = absurd (false≢true t)
      go (Lis v) t = absurd (false≢true t)
      go (Atom n a) t = refl
      go (Fixnum z) t = absurd (false≢true t)
      go Bad t = absurd (false≢true t)

  atom_match : (w e : ℕ) (k : Kind) → is_atom k ≡ true → Match s top root tables w e k → w ≡ e
  unfolding Match is_atom
  atom_match w e (Var v) t m = absurd (false≢true t)
  atom_match w e (Str v) t m = absurd (false≢true t)
  atom_match w e (Lis v) t m = absurd (false≢true t)
  atom_match w e (Atom n a) t m = m
  atom_match w e (Fixnum z) t m = absurd (false≢true t)
  atom_match w e Bad t m = absurd (false≢true t)

  pub atom_same : (q x : ℕ) → From s top root tables q x → is_atom (kind_at s x) ≡ true → get_or cells q 0 ≡ get_or s x 0
  atom_same q x f t =
      let e = atom_word_lem x t in
      atom_match (get_or cells q 0) (End s top root x) (kind_of (End s top root x)) (ap (λ (w : ℕ). is_atom (kind_of w)) e ∙ t) (I.done q x f (below q x f).1) ∙ e

  pub noted_atom : (f : ℕ) → f < top → (get_or tables f 0 ≡ 0 → ⊥) → is_atom (kind_at s f) ≡ true
  noted_atom f l n = functor_atom gv f (I.str_reached_lem f l n)

  pub run_from : (b g n k : ℕ) → Run s top root tables b g n → k < n → From s top root tables (g + k) (b + k)
  run_from b g n k r l = inr (b, g, n, k, r, l, refl, refl)

  pub str_from : (f k : ℕ) → f < top → (get_or tables f 0 ≡ 0 → ⊥) → k < arity_at s f → From s top root tables (get_or tables f 0 + 1 + k) (f + 1 + k)
  str_from f k l n h = inr (f, get_or tables f 0, 1 + arity_at s f, 1 + k, str_run f l n, omega arith, omega arith, omega arith)

  pub lis_from : (f k : ℕ) → f < top → (get_or tables (top + f) 0 ≡ 0 → ⊥) → k < 2 → From s top root tables (get_or tables (top + f) 0 + k) (f + k)
  lis_from f k l n h = run_from f (get_or tables (top + f) 0) 2 k (lis_run f l n) h

  pub plus_zero : (q x : ℕ) → From s top root tables (q + 0) (x + 0) → From s top root tables q x
  plus_zero q x f = let a : q + 0 ≡ q = omega arith in let b : x + 0 ≡ x = omega arith in rw (a, b) at f

  -- every copied cell has the shape of its original: a bisimulation
  pub shaped : (q x : ℕ) → From s top root tables q x → Shown s cells at (From s top root tables) q (End s top root x) (kind_of (End s top root x))
  unfolding Match Shown
  shaped q x f = go (kind_of (End s top root x)) (I.done q x f (below q x f).1)
    where
      go : (k : Kind) → Match s top root tables (get_or cells q 0) (End s top root x) k → Shown s cells at (From s top root tables) q (End s top root x) k
      go (Var v) (l, n, w) =
          let o = I.homes v l n in
          (o.3, ap kind_of w ∙ var_back (at.variables v) o.1, ap kind_of o.2 ∙ var_back (at.variables v) o.1)
      go (Str b) (l, n, w) =
          let g = get_or tables b 0 in
          let t = I.run b g (1 + arity_at s b) (str_run b l n) in
          let y = t.3 in
          (ap kind_of w ∙ str_back g (omega arith), atom_same g b (plus_zero g b (run_from b g (1 + arity_at s b) 0 (str_run b l n) (omega arith))) (noted_atom b l n), λ k h. str_from b k l n h)
      go (Lis b) (l, n, w) =
          let m = get_or tables (top + b) 0 in
          let t = I.run b m 2 (lis_run b l n) in
          let y = t.3 in
          (ap kind_of w ∙ lis_back m (omega arith), plus_zero m b (lis_from b 0 l n (omega arith)), lis_from b 1 l n (omega arith))
      go (Atom nm a) m = m
      go (Fixnum z) m = m
      go Bad m = m

  on_step : (x : ℕ) → 1 ≤ x → x < top → end_of s top (step s x) ≡ end_of s top x
  on_step = next_end s top (chained s top gv.wf)

  pub end_is : (x : ℕ) → 1 ≤ x → x < top → End s top root x ≡ get_or s (steps s top x) 0
  unfolding end_word end_kind step step_kind
  end_is x l h = go (kind_at s x) refl
    where
      go : (k : Kind) → kind_at s x ≡ k → end_kind s top (get_or s x 0) (kind_at s x) ≡ get_or s (steps s top x) 0
      go (Var v) e = ap (end_kind s top (get_or s x 0)) e ∙ ap (λ (j : ℕ). get_or s j 0) (ap (steps s top) (sym (ap (step_kind x) e)) ∙ on_step x l h)
      go (Str v) e = ap (end_kind s top (get_or s x 0)) e ∙ ap (λ (j : ℕ). get_or s j 0) (sym (steps_fixed s top x (ap (step_kind x) e)))
      go (Lis v) e = ap (end_kind s top (get_or s x 0)) e ∙ ap (λ (j : ℕ). get_or s j 0) (sym (steps_fixed s top x (ap (step_kind x) e)))
      go (Atom n a) e = ap (end_kind s top (get_or s x 0)) e ∙ ap (λ (j : ℕ). get_or s j 0) (sym (steps_fixed s top x (ap (step_kind x) e)))
      go (Fixnum z) e = ap (end_kind s top (get_or s x 0)) e ∙ ap (λ (j : ℕ). get_or s j 0) (sym (steps_fixed s top x (ap (step_kind x) e)))
      go Bad e = ap (end_kind s top (get_or s x 0)) e ∙ ap (λ (j : ℕ). get_or s j 0) (sym (steps_fixed s top x (ap (step_kind x) e)))

  pub agrees : (d q x : ℕ) → From s top root tables q x → Agree s top cells at d q x
  agrees zero q x f = tt
  agrees (suc d) q x f =
      let u = used gv I q x f in
      subst (λ (w : ℕ). Shown s cells at (Agree s top cells at d) q w (kind_of w)) (end_is x u.0 u.1)
      (shown_map s cells at (From s top root tables) (Agree s top cells at d) (agrees d) q (End s top root x) (kind_of (End s top root x)) (shaped q x f))

  -- the copied root and the root
  pub root_agrees : (d : ℕ) → Agree s top cells at d top root
  root_agrees d = agrees d top root (inl (refl, refl))

  -- ---- every reached cell has a copy of where it ends
  -- a copied cell ends where x does
  abbrev Cov : ℕ → Type 0
  Cov x = (q : ℕ) × (y : ℕ) × (_ : From s top root tables q y) × (steps s top y ≡ steps s top x)

  cov_match : (x : ℕ) → step s x ≡ x → (c : Cov x) → Match s top root tables (get_or cells c.0 0) (get_or s x 0) (kind_at s x)
  cov_match x st (q, y, f, e) =
      let u = used gv I q y f in
      let w : End s top root y ≡ get_or s x 0 = end_is y u.0 u.1 ∙ ap (λ (j : ℕ). get_or s j 0) (e ∙ steps_fixed s top x st) in
      subst (λ (v : ℕ). Match s top root tables (get_or cells q 0) v (kind_of v)) w (I.done q y f (below q y f).1)

  str_marked : (x f : ℕ) → kind_at s x ≡ Str f → Cov x → (f < top) × (get_or tables f 0 ≡ 0 → ⊥)
  unfolding Match step step_kind
  str_marked x f e c = let m : Match s top root tables (get_or cells c.0 0) (get_or s x 0) (Str f) = subst (Match s top root tables (get_or cells c.0 0) (get_or s x 0)) e (cov_match x (ap (step_kind x) e) c) in (m.0, m.1)

  lis_marked : (x f : ℕ) → kind_at s x ≡ Lis f → Cov x → (f < top) × (get_or tables (top + f) 0 ≡ 0 → ⊥)
  unfolding Match step step_kind
  lis_marked x f e c = let m : Match s top root tables (get_or cells c.0 0) (get_or s x 0) (Lis f) = subst (Match s top root tables (get_or cells c.0 0) (get_or s x 0)) e (cov_match x (ap (step_kind x) e) c) in (m.0, m.1)

  var_cov : (x v : ℕ) → kind_at s x ≡ Var v → 1 ≤ x → x < top → Cov x → Cov v
  unfolding step step_kind
  var_cov x v e l h (q, y, f, t) = (q, y, f, t ∙ sym (on_step x l h) ∙ ap (steps s top) (ap (step_kind x) e))

  cov_edge : (x z : ℕ) → 1 ≤ x → x < top → Edge s x z → Cov x → Cov z
  cov_edge x z l h (bound e n) c = var_cov x z e l h c
  cov_edge x z l h (arg f n a k e d b) c =
      let m = str_marked x f e c in
      let t = atom_arity s f n a d in
      (get_or tables f 0 + 1 + k, f + 1 + k, str_from f k m.0 m.1 (omega arith), refl)
  cov_edge x z l h (first e) c = let m = lis_marked x z e c in (get_or tables (top + z) 0, z, plus_zero (get_or tables (top + z) 0) z (lis_from z 0 m.0 m.1 (omega arith)), refl)
  cov_edge x z l h (second b e) c = let m = lis_marked x b e c in (get_or tables (top + b) 0 + 1, b + 1, lis_from b 1 m.0 m.1 (omega arith), refl)

  cov_reach : (x z : ℕ) → (1 ≤ x) × (x < top) → Reach s x z → Cov x → Cov z
  cov_reach x z u here c = c
  cov_reach x z u (over {j = y} e r) c = cov_reach y z (reach_used s top gv.wf u.0 u.1 (over e here)) r (cov_edge x y u.0 u.1 e c)

  pub covered : (x : ℕ) → Reach s root x → Cov x
  covered x r = cov_reach root x (term_used s top root gv.term) r (top, root, inl (refl, refl), refl)

  -- ---- the variables that are reached have homes
  home_noted : (v : ℕ) → Variable s root v → (v < top) × (get_or tables (top + top + v) 0 ≡ 0 → ⊥)
  unfolding Match step step_kind
  home_noted v o =
      let c = covered v o.reached in
      let m : Match s top root tables (get_or cells c.0 0) (get_or s v 0) (Var v) = subst (Match s top root tables (get_or cells c.0 0) (get_or s v 0)) o.unbound (cov_match v (ap (step_kind v) o.unbound) c) in
      (m.0, m.1)

  pub var_fresh : (v : ℕ) → Variable s root v → (top ≤ at.variables v) × (at.variables v < end) × (kind_at cells (at.variables v) ≡ Var (at.variables v))
  var_fresh v o =
      let n = home_noted v o in
      let h = I.homes v n.0 n.1 in
      (h.0, h.1, ap kind_of h.2 ∙ var_back (at.variables v) h.1)

  pub var_apart : (v u : ℕ) → Variable s root v → Variable s root u → at.variables v ≡ at.variables u → v ≡ u
  var_apart v u a b e = let n = home_noted v a in let m = home_noted u b in I.single v u n.0 m.0 n.1 e

  -- ---- the structures and pairs that are reached have copies apart from each other
  str_noted : (f : ℕ) → StrReached s root f → (f < top) × (get_or tables f 0 ≡ 0 → ⊥)
  str_noted f (x, r, e) = str_marked x f e (covered x r)

  lis_noted : (l : ℕ) → LisReached s root l → (l < top) × (get_or tables (top + l) 0 ≡ 0 → ⊥)
  lis_noted l (x, r, e) = lis_marked x l e (covered x r)

  one_run : (b g n b' g' n' : ℕ) → Run s top root tables b g n → Run s top root tables b' g' n' → 1 ≤ n → 1 ≤ n' → g ≡ g' → (b ≡ b') × (n ≡ n')
  one_run b g n b' g' n' r r' l l' e = ⊎_elim (λ q. q) (λ q. absurd (⊎_elim (λ h. omega arith) (λ h. omega arith) q)) (I.apart b g n b' g' n' r r')

  pub str_apart : (f h : ℕ) → StrReached s root f → StrReached s root h → at.structures f ≡ at.structures h → f ≡ h
  str_apart f h a b e =
      let n = str_noted f a in
      let m = str_noted h b in
      (one_run f _ _ h _ _ (str_run f n.0 n.1) (str_run h m.0 m.1) (omega arith) (omega arith) e).0

  pub lis_apart : (l m : ℕ) → LisReached s root l → LisReached s root m → at.pairs l ≡ at.pairs m → l ≡ m
  lis_apart l m a b e =
      let n = lis_noted l a in
      let k = lis_noted m b in
      (one_run l _ _ m _ _ (lis_run l n.0 n.1) (lis_run m k.0 k.1) (omega arith) (omega arith) e).0

  -- a pair begins at no header, so it is no structure of one argument
  pub mixed_apart : (f l : ℕ) → StrReached s root f → LisReached s root l → at.structures f ≡ at.pairs l → ⊥
  unfolding arity_at
  mixed_apart f l a (x, r, q) e =
      let n = str_noted f a in
      let k = lis_noted l (x, r, q) in
      let o = one_run f _ _ l _ _ (str_run f n.0 n.1) (lis_run l k.0 k.1) (omega arith) (omega arith) e in
      let u = term_used s top root gv.term in
      let v = reach_used s top gv.wf u.0 u.1 r in
      let z = no_arguments (kind_at s l) (term_plain s top l (lis_terms s top gv.wf x v.0 v.1 l q).0) in
      let y : arity_at s f ≡ arity_at s l = ap (arity_at s) o.0 in
      omega arith

  -- ---- the count of new cells is the room
  pub exact_room : end ≡ top + room_of s top root
  unfolding room_of
  exact_room =
      let c = I.count in
      let u = term_used s top root gv.term in
      let le = fits_in s top root gv tables I.str_reached_lem I.lis_reached_lem in
      let ge = room_le s top (str_reached s top root) (lis_reached s top root) (noted tables) (λ l. noted tables (top + l))
      (λ f a b m. is_noted tables f (str_noted f (true_str s top gv.wf root u.0 u.1 f a m)).1)
      (λ f a b m. is_noted tables (top + f) (lis_noted f (true_lis s top gv.wf root u.0 u.1 f a m)).1) in
      omega arith
