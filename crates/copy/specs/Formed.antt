-- The store with the copy is well formed.
use Rattle.std.specs.Prelude.{◌≡◌, Bool, false, List}
use Rattle.std.proofs.Math.Path.{refl, sym, ap}
use Rattle.std.proofs.Common.{subst, ◌∙◌, inl, inr, arith}
use Rattle.std.proofs.Math.Bool.{true, not, and-eq-true_iff}
use Rattle.std.proofs.lemmas.Bool.{false≢true}
use Prim.Native.Nat.{ℕ, zero, suc, ◌+◌, ◌-◌, ◌<◌, ◌≤◌}
use Rattle.std.proofs.Math.Decide.{dec_lt}
use Rattle.std.proofs.Math.ListN.{get_or}
use borrow.Author.Tests.{lt-ltb, le-leb}
use Rattle.cell.specs.declared.Kind.{Kind}
use Rattle.cell.specs.declared.Kind.TheVariants.{Var, Str, Lis, Atom, Fixnum, Bad}
use Rattle.cell.specs.Kinds.{kind_of}
use Rattle.store.specs.All.{all_true}
use Rattle.store.specs.Store.{kind_at, is_header, is_atom, no_header, term_at, atom_at, run_at, keeps, keeps_at, step, step_kind, steps, Ends, WellFormed}
use Rattle.store.specs.Steps.{step_used, term_plain}
use Rattle.store.specs.WellFormed.{keeps_cells}
use Rattle.store.specs.Over.{old_keep, old_ends}
use Rattle.cycle.specs.Kids.{arity_kind, arity_at, no_arguments, run_term, lis_terms, atom_arity}
use Rattle.cycle.specs.Reached.{LisReached}
use Rattle.copy.specs.Inv.{Given, From, Match, End, Inv}
use Rattle.copy.specs.Steps.{used, within, from_root}
use Rattle.copy.specs.Same.{small, below, str_run, lis_run, var_back, str_back, lis_back, atom_word_lem, atom_same, noted_atom, run_from, str_from, lis_from, plus_zero, end_is}

-- ---- the tests of a cell, from what they ask
module _ (t : List ℕ) (end : ℕ) where
  term_made : (v : ℕ) → 1 ≤ v → v < end → no_header t v ≡ true → term_at t end v ≡ true
  unfolding term_at
  term_made v l h n = rw (le-leb 1 v l, lt-ltb v end h) n

  atom_made : (f : ℕ) → 1 ≤ f → f < end → is_atom (kind_at t f) ≡ true → atom_at t end f ≡ true
  unfolding atom_at
  atom_made f l h n = rw (le-leb 1 f l, lt-ltb f end h) n

  run_made : (f a : ℕ) → f + a < end → ((i : ℕ) → f + 1 ≤ i → i < f + 1 + a → no_header t i ≡ true) → run_at t end f a ≡ true
  unfolding run_at
  run_made f a h n = rw (lt-ltb (f + a) end h) (all_true (no_header t) a (f + 1) n)

module _ {s : List ℕ} {top root : ℕ} (gv : Given s top root) {cells tables : List ℕ} {end : ℕ} (I : Inv s top root cells tables end end) where
  -- no step along Vars comes to a header
  plain_step : (v : ℕ) → 1 ≤ v → v < top → no_header s v ≡ true → no_header s (step s v) ≡ true
  unfolding step step_kind keeps
  plain_step v l h n = go (kind_at s v) (gv.wf.keep v l h)
    where
      go : (k : Kind) → keeps s top v k ≡ true → no_header s (step_kind v k) ≡ true
      go (Var u) e = term_plain s top u e
      go (Str u) e = n
      go (Lis u) e = n
      go (Atom m a) e = n
      go (Fixnum z) e = n
      go Bad e = n

  plain_steps : (m v : ℕ) → 1 ≤ v → v < top → no_header s v ≡ true → no_header s (steps s m v) ≡ true
  unfolding steps
  plain_steps zero v l h n = n
  plain_steps (suc m) v l h n = let u = step_used s top (keeps_cells s top gv.wf) v l h in plain_steps m (step s v) u.0 u.1 (plain_step v l h n)

  end_plain : (x : ℕ) → 1 ≤ x → x < top → no_header s x ≡ true → not (is_header (kind_of (End s top root x))) ≡ true
  end_plain x l h n = ap (λ (w : ℕ). not (is_header (kind_of w))) (end_is gv I x l h) ∙ plain_steps top x l h n

  uses : (q x : ℕ) → From s top root tables q x → (1 ≤ x) × (x < top)
  uses = used gv I

  -- the copy of no header is no header
  pub no_head : (q x : ℕ) → From s top root tables q x → no_header s x ≡ true → no_header cells q ≡ true
  unfolding Match is_header
  no_head q x f n = go (kind_of (End s top root x)) refl (I.done q x f (below gv I q x f).1)
    where
      same : get_or cells q 0 ≡ End s top root x → no_header cells q ≡ true
      same e = let u = uses q x f in ap (λ (w : ℕ). not (is_header (kind_of w))) e ∙ end_plain x u.0 u.1 n

      go : (k : Kind) → kind_of (End s top root x) ≡ k → Match s top root tables (get_or cells q 0) (End s top root x) k → no_header cells q ≡ true
      go (Var v) e (l, z, w) = let o = I.homes v l z in ap (λ (k : Kind). not (is_header k)) (ap kind_of w ∙ var_back gv I (get_or tables (top + top + v) 0) o.1)
      go (Str b) e (l, z, w) = let t = I.run b (get_or tables b 0) (1 + arity_at s b) (str_run gv I b l z) in let y = t.3 in ap (λ (k : Kind). not (is_header k)) (ap kind_of w ∙ str_back gv I (get_or tables b 0) (omega arith))
      go (Lis b) e (l, z, w) = let t = I.run b (get_or tables (top + b) 0) 2 (lis_run gv I b l z) in let y = t.3 in ap (λ (k : Kind). not (is_header k)) (ap kind_of w ∙ lis_back gv I (get_or tables (top + b) 0) (omega arith))
      go (Atom m a) e w = same w
      go (Fixnum z) e w = same w
      go Bad e w = absurd w

  -- the cells behind a functor cell, and of a pair, are no headers
  run_plain : (f : ℕ) → 1 ≤ f → f < top → (k : ℕ) → k < arity_at s f → no_header s (f + 1 + k) ≡ true
  run_plain f l h k d = term_plain s top (f + 1 + k) (run_term s top gv.wf f k l h d)

  pub pair_plain : (l : ℕ) → LisReached s root l → (no_header s l ≡ true) × (no_header s (l + 1) ≡ true)
  pair_plain l (y, r, t) =
      let u = from_root gv y r in
      let b = lis_terms s top gv.wf y u.0 u.1 l t in
      (term_plain s top l b.0, term_plain s top (l + 1) b.1)

  -- the copy of a header is a functor cell's
  header_from : (q x : ℕ) → From s top root tables q x → no_header s x ≡ false → (x < top) × (get_or tables x 0 ≡ 0 → ⊥) × (q ≡ get_or tables x 0)
  header_from q x (inl (e, d)) n = absurd (false≢true (sym n ∙ ap (no_header s) d ∙ term_plain s top root gv.term))
  header_from q x (inr (b, g, m, k, (a, z, inl (e, c)), l, d, t)) n = by k l d t
    where
      by : (k : ℕ) → k < m → q ≡ g + k → x ≡ b + k → (x < top) × (get_or tables x 0 ≡ 0 → ⊥) × (q ≡ get_or tables x 0)
      by zero i j o = let w : x ≡ b = omega arith in let y : q ≡ g = omega arith in rw w (a, (λ v. z (sym e ∙ v)), y ∙ sym e)
      by (suc k) i j o =
          let r = I.run b g m (a, z, inl (e, c)) in
          let w : b + 1 + k ≡ x = omega arith in
          absurd (false≢true (sym n ∙ ap (no_header s) (sym w) ∙ run_plain b r.0 a k (omega arith)))
  header_from q x (inr (b, g, m, k, (a, z, inr (e, c)), l, d, t)) n = by k l t (pair_plain b (I.lis_reached_lem b a (λ v. z (sym e ∙ v))))
    where
      by : (k : ℕ) → k < m → x ≡ b + k → (no_header s b ≡ true) × (no_header s (b + 1) ≡ true) → (x < top) × (get_or tables x 0 ≡ 0 → ⊥) × (q ≡ get_or tables x 0)
      by zero i o (p, r) = let w : b ≡ x = omega arith in absurd (false≢true (sym n ∙ ap (no_header s) (sym w) ∙ p))
      by (suc zero) i o (p, r) = let w : b + 1 ≡ x = omega arith in absurd (false≢true (sym n ∙ ap (no_header s) (sym w) ∙ r))
      by (suc (suc k)) i o p = absurd (omega arith)

  header_atom : (k : Kind) → not (is_header k) ≡ false → is_atom k ≡ true
  unfolding is_header is_atom
  header_atom (Var v) h = sym h
  header_atom (Str v) h = sym h
  header_atom (Lis v) h = sym h
  header_atom (Atom n a) h = refl
  header_atom (Fixnum z) h = sym h
  header_atom Bad h = sym h

  home_plain : (h : ℕ) → kind_at cells h ≡ Var h → no_header cells h ≡ true
  unfolding is_header
  home_plain h e = ap (λ (k : Kind). not (is_header k)) e

  keep_new : (q x : ℕ) → From s top root tables q x → keeps_at cells end q ≡ true
  unfolding Match keeps arity_kind
  keep_new q x f = go (kind_of (End s top root x)) refl (I.done q x f bq.1)
    where
      bq : (top ≤ q) × (q < end)
      bq = below gv I q x f

      is : (k : Kind) → kind_at cells q ≡ k → keeps cells end q k ≡ true → keeps_at cells end q ≡ true
      is k e h = subst (λ (y : Kind). keeps cells end q y ≡ true) (sym e) h

      atom : (n a : ℕ) → kind_of (End s top root x) ≡ Atom n a → (b : Bool) → no_header s x ≡ b → keeps cells end q (Atom n a) ≡ true
      atom n a e true h =
          let u = uses q x f in
          let z : a ≡ 0 = sym (ap arity_kind e) ∙ no_arguments _ (end_plain x u.0 u.1 h) in
          let y = bq in
          let b = y.1 in
          run_made cells end q a (omega arith) (λ i c d. absurd (omega arith))
      atom n a e false h =
          let hd = header_from q x f h in
          let t = atom_arity s x n a (ap kind_of (sym (atom_word_lem gv I x (header_atom (kind_at s x) h))) ∙ e) in
          let r = I.run x (get_or tables x 0) (1 + arity_at s x) (str_run gv I x hd.0 hd.1) in
          let y = r.3 in
          let w = hd.2 in
          run_made cells end q a (omega arith) (λ i c d. behind i c d t hd.0 hd.1 hd.2 r.0)
        where
          behind : (i : ℕ) → q + 1 ≤ i → i < q + 1 + a → arity_at s x ≡ a → x < top → (get_or tables x 0 ≡ 0 → ⊥) → q ≡ get_or tables x 0 → 1 ≤ x → no_header cells i ≡ true
          behind i c d t l z w o =
              let k = i - (q + 1) in
              let j : get_or tables x 0 + 1 + k ≡ i = omega arith in
              subst (λ (y : ℕ). no_header cells y ≡ true) j (no_head (get_or tables x 0 + 1 + k) (x + 1 + k) (str_from gv I x k l z (omega arith)) (run_plain x o l k (omega arith)))

      go : (k : Kind) → kind_of (End s top root x) ≡ k → Match s top root tables (get_or cells q 0) (End s top root x) k → keeps_at cells end q ≡ true
      go (Var v) e (l, z, w) =
          let o = I.homes v l z in
          let a = o.0 in
          let lo = gv.wf.low in
          let h = get_or tables (top + top + v) 0 in
          is (Var h) (ap kind_of w ∙ var_back gv I h o.1) (term_made cells end h (omega arith) o.1 (home_plain h (ap kind_of o.2 ∙ var_back gv I h o.1)))
      go (Str b) e (l, z, w) =
          let g = get_or tables b 0 in
          let rr = str_run gv I b l z in
          let t = I.run b g (1 + arity_at s b) rr in
          let y = t.3 in
          let a = t.2 in
          let fa = noted_atom gv I b l z in
          let same = atom_same gv I g b (plus_zero gv I g b (run_from gv I b g (1 + arity_at s b) 0 rr (omega arith))) fa in
          is (Str g) (ap kind_of w ∙ str_back gv I g (omega arith)) (atom_made cells end g (omega arith) (omega arith) (ap (λ (v : ℕ). is_atom (kind_of v)) same ∙ fa))
      go (Lis b) e (l, z, w) =
          let m = get_or tables (top + b) 0 in
          let t = I.run b m 2 (lis_run gv I b l z) in
          let y = t.3 in
          let a = t.2 in
          let pp = pair_plain b (I.lis_reached_lem b l z) in
          let f0 = plus_zero gv I m b (lis_from gv I b 0 l z (omega arith)) in
          let f1 = lis_from gv I b 1 l z (omega arith) in
          is (Lis m) (ap kind_of w ∙ lis_back gv I m (omega arith))
          ((and-eq-true_iff (term_at cells end m) (term_at cells end (m + 1))).1 (term_made cells end m (omega arith) (omega arith) (no_head m b f0 pp.0), term_made cells end (m + 1) (omega arith) (omega arith) (no_head (m + 1) (b + 1) f1 pp.1)))
      go (Atom n a) e w = is (Atom n a) (ap kind_of w ∙ e) (atom n a e (no_header s x) refl)
      go (Fixnum z) e w = is (Fixnum z) (ap kind_of w ∙ e) refl
      go Bad e w = absurd w

  ends_new : (q x : ℕ) → From s top root tables q x → Ends cells q
  unfolding Match step step_kind steps
  ends_new q x f = go (kind_of (End s top root x)) refl (I.done q x f (below gv I q x f).1)
    where
      go : (k : Kind) → kind_of (End s top root x) ≡ k → Match s top root tables (get_or cells q 0) (End s top root x) k → Ends cells q
      go (Var v) e (l, z, w) =
          let o = I.homes v l z in
          let h = get_or tables (top + top + v) 0 in
          let vb = var_back gv I h o.1 in
          let a : step cells q ≡ h = ap (step_kind q) (ap kind_of w ∙ vb) in
          let b : step cells h ≡ h = ap (step_kind h) (ap kind_of o.2 ∙ vb) in
          (1, ap (step cells) a ∙ b ∙ sym a)
      go (Str b) e (l, z, w) = let t = I.run b (get_or tables b 0) (1 + arity_at s b) (str_run gv I b l z) in let y = t.3 in (0, ap (step_kind q) (ap kind_of w ∙ str_back gv I (get_or tables b 0) (omega arith)))
      go (Lis b) e (l, z, w) = let t = I.run b (get_or tables (top + b) 0) 2 (lis_run gv I b l z) in let y = t.3 in (0, ap (step_kind q) (ap kind_of w ∙ lis_back gv I (get_or tables (top + b) 0) (omega arith)))
      go (Atom n a) e w = (0, ap (step_kind q) (ap kind_of w ∙ e))
      go (Fixnum z) e w = (0, ap (step_kind q) (ap kind_of w ∙ e))
      go Bad e w = absurd w

  pub formed : WellFormed cells end
  formed =
      let lo = I.low in
      let wl = gv.wf.low in
      record {
        low = omega arith;
        high = small gv I;
        room = let g = within gv I in let e = I.long in omega arith;
        zeroth = I.agree 0 (omega arith) ∙ gv.wf.zeroth;
        rest = I.rest;
        keep = λ i l h. elim (dec_lt i top) [ yes y ↦ old_keep s cells top end gv.wf (omega arith) I.agree i l y | no y ↦ (let c = I.cover i (omega arith) h in keep_new i c.0 c.1) ];
        ends = λ i l h. elim (dec_lt i top) [ yes y ↦ old_ends s cells top end gv.wf (omega arith) I.agree i l y | no y ↦ (let c = I.cover i (omega arith) h in ends_new i c.0 c.1) ];
      }
