-- An unbound Var gets the word of another followed cell: the store stays well formed, no header comes or goes, each cell shows what it showed with the variable put aside, and one unbound Var is less.
use Rattle.std.proofs.Math.Path.{◌≡◌, refl, sym, ap, subst, fun_ext}
use Rattle.std.proofs.Common.{◌∙◌, length-set, get_or-set_same, get_or-set_other, lt-ltb, eq-eqb, ne_eqb}
use Rattle.std.proofs.Math.Bool.{true, cond}
use Rattle.std.specs.Prelude.{false, not, List, ◌⊎◌, ℕ, zero, suc, ◌+◌, ◌<◌, ◌≤◌, eqb, set}
use Rattle.std.proofs.lemmas.Bool.{false≢true, not-true}
use Rattle.std.proofs.Math.Logic.{inl, inr, ⊎_elim}
use native.Mathlib.Omega.{arith}
use Rattle.std.proofs.Math.Decide.{ℕ_discrete}
use Rattle.std.proofs.Math.ListN.{get_or}
use Rattle.cell.specs.declared.Kind.{Kind}
use Rattle.cell.specs.declared.Kind.TheVariants.{Var, Str, Lis, Atom, Fixnum, Bad}
use Rattle.cell.specs.Word.{var_word}
use Rattle.cell.specs.Kinds.{kind_of, word_of_kind, Proper}
use Rattle.cell.specs.RoundTrips.{word_back, kind_back}
use Rattle.store.specs.All.{all_from}
use Rattle.store.specs.Store.{limit, kind_at, is_header, is_atom, no_header, term_at, run_at, keeps, keeps_at, step, step_kind, steps, Ends, WellFormed}
use Rattle.store.specs.Steps.{same_step}
use Rattle.store.specs.Over.{keeps_over, term_over}
use Rattle.store.specs.WellFormed.{along}
use Rattle.cycle.specs.Sum.{sum_from}
use Rattle.cycle.specs.Kids.{str_atom}
use Rattle.terms.specs.View.{View, free, con, atom, str_view, view_kind, look_at, fun_kind, behind, shape_of}
use Rattle.terms.specs.Shows.{flat, look_here, look_over}
use Rattle.unification.specs.Machine.{view_at}
use Rattle.unification.specs.Calls.{free_at, unbound}
use Rattle.unification.specs.Seen.{put, put_here, put_not}
use Rattle.unification.specs.Sums.{sum_drop}
use Rattle.unification.specs.Nodes.{used_or, free_var, var_look}

-- ---- the word of an unbound Var, and its kind
pub var_word_lem : (w v : ℕ) → kind_of w ≡ Var v → w ≡ var_word v
unfolding word_of_kind
var_word_lem w v e = sym (word_back w (λ b. cc)) ∙ ap word_of_kind e

pub word_var : (v : ℕ) → v < limit → kind_of (var_word v) ≡ Var v
unfolding word_of_kind Proper
word_var v h = kind_back (Var v) (omega arith)

-- a kind that is no header is kept at any used place
moves : (s : List ℕ) (top e i : ℕ) → i < top → (k : Kind) → is_header k ≡ false → keeps s top e k ≡ true → keeps s top i k ≡ true
unfolding keeps is_header run_at all_from
moves s top e i h (Var v) n k = k
moves s top e i h (Str v) n k = k
moves s top e i h (Lis v) n k = k
moves s top e i h (Atom m zero) n k = rw (lt-ltb (i + 0) top (omega arith))
moves s top e i h (Atom m (suc a)) n k = absurd (false≢true (sym n ∙ lt-ltb 0 (suc a) (omega arith)))
moves s top e i h (Fixnum z) n k = k
moves s top e i h Bad n k = k

-- v is an unbound Var, and e another cell, where following ends, that shows x: so v may get its word
pub record Bindable (cells : List ℕ) (top v e : ℕ) (x : View) : Type 0 where
  pub low_v : 1 ≤ v
  pub high_v : v < top
  pub low_e : 1 ≤ e
  pub high_e : e < top
  pub free_v : kind_at cells v ≡ Var v
  pub stays : step cells e ≡ e
  pub plain : no_header cells e ≡ true
  pub apart : e ≡ v → ⊥
  pub shows : look_at cells top e ≡ x

module _ (s : List ℕ) (top : ℕ) (wf : WellFormed s top) (v e : ℕ) (x : View) (k : Bindable s top v e x) where
  abbrev new : List ℕ
  new = set s v (get_or s e 0)

  at_v : get_or new v 0 ≡ get_or s e 0
  at_v = let r = wf.room in get_or-set_same s v (get_or s e 0) 0 (omega arith)

  at_other : (j : ℕ) → (j ≡ v → ⊥) → get_or new j 0 ≡ get_or s j 0
  at_other j n = get_or-set_other s v j (get_or s e 0) 0 n

  -- what holds of the kind of e at v, and of each other cell's own kind, holds in the new store
  by_cell : (P : ℕ → Kind → Type 0) → P v (kind_at s e) → ((j : ℕ) → (j ≡ v → ⊥) → P j (kind_at s j)) → (j : ℕ) → P j (kind_at new j)
  by_cell P a b j = elim (ℕ_discrete j v) [ yes q ↦ subst (λ (m : ℕ). P m (kind_at new m)) (sym q) (subst (λ (w : ℕ). P v (kind_of w)) (sym at_v) a) | no n ↦ subst (λ (w : ℕ). P j (kind_of w)) (sym (at_other j n)) (b j n) ]

  -- ---- the store stays well formed
  heads : (j : ℕ) → no_header s j ≡ true → no_header new j ≡ true
  heads = by_cell (λ (j : ℕ) (k : Kind). no_header s j ≡ true → not (is_header k) ≡ true) (λ _. k.plain) (λ j _ h. h)

  atoms : (j : ℕ) → is_atom (kind_at s j) ≡ true → is_atom (kind_at new j) ≡ true
  unfolding is_atom
  atoms = by_cell (λ (j : ℕ) (k : Kind). is_atom (kind_at s j) ≡ true → is_atom k ≡ true) (λ h. absurd (false≢true (ap is_atom (sym k.free_v) ∙ h))) (λ j _ h. h)

  no_header_lem : is_header (kind_at s e) ≡ false
  no_header_lem = not-true (is_header (kind_at s e)) k.plain

  keep : (j : ℕ) → 1 ≤ j → j < top → keeps_at new top j ≡ true
  keep = by_cell (λ (j : ℕ) (k : Kind). 1 ≤ j → j < top → keeps new top j k ≡ true)
      (λ _ _. keeps_over s new top top (omega arith) (λ j _. heads j) (λ j _. atoms j) v (kind_at s e) (moves s top e v k.high_v (kind_at s e) no_header_lem (wf.keep e k.low_e k.high_e)))
      (λ j _ l h. keeps_over s new top top (omega arith) (λ j _. heads j) (λ j _. atoms j) j (kind_at s j) (wf.keep j l h))

  step_other : (j : ℕ) → (j ≡ v → ⊥) → step new j ≡ step s j
  step_other j n = same_step s new j (at_other j n)

  step_v : step s v ≡ v
  unfolding step step_kind
  step_v = ap (step_kind v) k.free_v

  step_new : step new v ≡ step_kind v (kind_at s e)
  unfolding step
  step_new = ap (λ (w : ℕ). step_kind v (kind_of w)) at_v

  -- v now goes to e, or stays
  next : (k : Kind) → step_kind e k ≡ e → (step_kind v k ≡ e) ⊎ (step_kind v k ≡ v)
  unfolding step_kind
  next (Var w) h = inl h
  next (Str w) h = inr refl
  next (Lis w) h = inr refl
  next (Atom n a) h = inr refl
  next (Fixnum z) h = inr refl
  next Bad h = inr refl

  goes : (step new v ≡ e) ⊎ (step new v ≡ v)
  unfolding step
  goes = ⊎_elim (λ q. inl (step_new ∙ q)) (λ q. inr (step_new ∙ q)) (next (kind_at s e) k.stays)

  ends_e : Ends new e
  unfolding steps
  ends_e = (0, step_other e k.apart ∙ k.stays)

  before : (j : ℕ) → Ends new (step new j) → Ends new j
  unfolding steps
  before j (n, q) = (suc n, q)

  ends_v : Ends new v
  unfolding steps
  ends_v = ⊎_elim (λ q. before v (subst (Ends new) (sym q) ends_e)) (λ q. (0, q)) goes

  ends : (j : ℕ) → 1 ≤ j → j < top → Ends new j
  unfolding steps
  ends =
      along s top wf (Ends new)
      (λ j l h q. elim (ℕ_discrete j v) [ yes r ↦ subst (Ends new) (sym r) ends_v | no n ↦ (0, step_other j n ∙ q) ])
      (λ j l h n p. elim (ℕ_discrete j v) [ yes r ↦ subst (Ends new) (sym r) ends_v | no m ↦ before j (subst (Ends new) (sym (step_other j m)) p) ])

  pub write_store : WellFormed new top
  write_store = record { low = wf.low; high = wf.high; room = rw (length-set s v (get_or s e 0)) wf.room; zeroth = at_other 0 (λ q. omega arith) ∙ wf.zeroth; rest = λ j l. at_other j (λ q. omega arith) ∙ wf.rest j l; keep = keep; ends = ends }

  pub write_term : (i : ℕ) → term_at s top i ≡ true → term_at new top i ≡ true
  write_term = term_over s new top top (omega arith) (λ j _. heads j) (λ j _. atoms j)

  -- ---- no header comes or goes
  same_fun_lem : (n : ℕ) → fun_kind (kind_at new n) ≡ fun_kind (kind_at s n)
  unfolding fun_kind
  same_fun_lem = by_cell (λ (n : ℕ) (k : Kind). fun_kind k ≡ fun_kind (kind_at s n)) ((flat (kind_at s e) k.plain).0 ∙ sym (ap fun_kind k.free_v)) (λ j _. refl)

  same_behind : (n : ℕ) → behind (kind_at new n) ≡ behind (kind_at s n)
  unfolding behind
  same_behind = by_cell (λ (n : ℕ) (k : Kind). behind k ≡ behind (kind_at s n)) ((flat (kind_at s e) k.plain).1 ∙ sym (ap behind k.free_v)) (λ j _. refl)

  pub write_shape : shape_of new ≡ shape_of s
  write_shape i = record { fun = λ n. same_fun_lem n i; arg = λ n k. n + same_behind n i + k }

  -- ---- what the cells show
  -- a kind of the store shows the same
  same_view : (j : ℕ) → 1 ≤ j → j < top → view_kind new (kind_at s j) ≡ view_kind s (kind_at s j)
  unfolding view_kind
  same_view j l h = go (kind_at s j) refl
    where
      not_v : (f n a : ℕ) → kind_at s f ≡ Atom n a → f ≡ v → ⊥
      not_v f n a q z = let k : kind_at s f ≡ Var v = ap (kind_at s) z ∙ k.free_v in cc

      go : (k : Kind) → kind_at s j ≡ k → view_kind new k ≡ view_kind s k
      go (Var w) q = refl
      go (Str f) q = let a = str_atom s top wf j l h f q in ap (λ (w : ℕ). str_view f (kind_of w)) (at_other f (not_v f a.0 _ a.1))
      go (Lis w) q = refl
      go (Atom n a) q = refl
      go (Fixnum z) q = refl
      go Bad q = refl

  look_e : look_at new top e ≡ view_at s e
  look_e = look_here new top write_store e k.low_e k.high_e (step_other e k.apart ∙ k.stays) ∙ ap (λ (w : ℕ). view_kind new (kind_of w)) (at_other e k.apart) ∙ same_view e k.low_e k.high_e

  look_v : look_at new top v ≡ view_at s e
  look_v = ⊎_elim
      (λ q. look_over new top write_store v k.low_v k.high_v ∙ ap (look_at new top) q ∙ look_e)
      (λ q. look_here new top write_store v k.low_v k.high_v q ∙ ap (λ (w : ℕ). view_kind new (kind_of w)) at_v ∙ same_view e k.low_e k.high_e)
      goes

  -- an end that is not v
  other_end : (i : ℕ) → (i ≡ v → ⊥) → step s i ≡ i → view_at s i ≡ free v → ⊥
  unfolding step step_kind
  other_end i n st q = n (sym st ∙ ap (step_kind i) (free_var s top wf (kind_at s i) v q))

  look_used : (i : ℕ) → 1 ≤ i → i < top → look_at new top i ≡ put v (view_at s e) (look_at s top i)
  look_used =
      along s top wf (λ (i : ℕ). look_at new top i ≡ put v (view_at s e) (look_at s top i))
      (λ i l h st. elim (ℕ_discrete i v) [
        | yes q ↦ ap (look_at new top) q ∙ look_v ∙ sym (put_here v (view_at s e) (look_at s top i) (ap (look_at s top) q ∙ var_look s top wf v k.free_v))
        | no q ↦ look_here new top write_store i l h (step_other i q ∙ st) ∙ ap (λ (w : ℕ). view_kind new (kind_of w)) (at_other i q) ∙ same_view i l h ∙ sym (ap (put v (view_at s e)) (look_here s top wf i l h st) ∙ put_not v (view_at s e) (view_at s i) (other_end i q st))
      ])
      (λ i l h m ih. look_over new top write_store i l h ∙ ap (look_at new top) (step_other i (λ q. m (ap (step s) q ∙ step_v ∙ sym q))) ∙ ih ∙ ap (put v (view_at s e)) (sym (look_over s top wf i l h)))

  look_any : (i : ℕ) → look_at new top i ≡ put v (view_at s e) (look_at s top i)
  unfolding put
  look_any i = ⊎_elim (λ u. look_used i u.0 u.1) (λ q. ⊎_elim (λ u. look_used i u.0 u.1) (λ r. r ∙ sym (ap (put v (view_at s e)) q ∙ put_con)) (used_or new top write_store i)) (used_or s top wf i)
    where
      put_con : put v (view_at s e) (con (atom 0)) ≡ con (atom 0)
      put_con = refl

  pub write_look : look_at new top ≡ (λ i. put v x (look_at s top i))
  write_look = fun_ext (λ i. look_any i ∙ ap (λ (y : View). put v y (look_at s top i)) (sym (look_here s top wf e k.low_e k.high_e k.stays) ∙ k.shows))

  -- ---- one unbound Var is less
  pub word_v : get_or s v 0 ≡ var_word v
  word_v = var_word_lem (get_or s v 0) v k.free_v

  pub write_bound : get_or new v 0 ≡ var_word v → ⊥
  unfolding step step_kind
  write_bound q =
      let h = wf.high in
      let is : kind_at s e ≡ Var v = ap kind_of (sym at_v ∙ q) ∙ word_var v (omega arith) in
      k.apart (sym k.stays ∙ ap (step_kind e) is)

  -- a Var that v now names is unbound
  pub write_target : (t : ℕ) → kind_at s e ≡ Var t → get_or s t 0 ≡ var_word t
  unfolding step step_kind
  write_target t q =
      let z : t ≡ e = sym (ap (step_kind e) q) ∙ k.stays in
      ap (λ (j : ℕ). get_or s j 0) z ∙ var_word_lem (get_or s e 0) t q

  pub write_count : unbound s top ≡ unbound new top + 1
  unfolding unbound
  write_count =
      let one : free_at s v ≡ 1 = rw (eq-eqb (get_or s v 0) (var_word v) word_v) in
      let none : free_at new v ≡ 0 = rw (ne_eqb (get_or new v 0) (var_word v) write_bound) in
      let d = sum_drop (free_at s) (free_at new) v top 0 (omega arith) (omega arith) none (λ k n. ap (λ (w : ℕ). cond (eqb w (var_word k)) 1 0) (at_other k n)) in
      d ∙ ap (λ (x : ℕ). sum_from 0 top (free_at new) + x) one
