-- Where following an old cell ends, in the old store and in one that agrees with it below `top`.
use Rattle.std.specs.Prelude.{◌≡◌, List}
use Rattle.std.proofs.Math.Path.{refl, sym, ap, subst}
use Rattle.std.proofs.Common.{◌∙◌}
use Rattle.std.proofs.Math.Bool.{true, false≢true}
use Prim.Native.Nat.{ℕ, zero, suc, ◌+◌, ◌<◌, ◌≤◌}
use native.Mathlib.Omega.{arith}
use Rattle.std.proofs.Math.Decide.{ℕ_discrete}
use Rattle.std.proofs.Math.ListN.{get_or}
use Rattle.cell.specs.Kinds.{kind_of}
use Rattle.cell.specs.declared.Kind.{Kind}
use Rattle.cell.specs.declared.Kind.TheVariants.{Var, Str, Lis, Atom, Fixnum, Bad}
use Rattle.store.specs.Store.{kind_at, keeps, step, step_kind, steps, WellFormed}
use Rattle.store.specs.Steps.{term_used}
use Rattle.store.specs.WellFormed.{end_stays, steps_in}
use Rattle.cycle.specs.Graph.{Reach, here, bound, join, one}
use Rattle.cycle.specs.Kids.{arity_at, arity_kind, run_used, str_used, lis_terms}
use Rattle.chains.specs.Hops.{chained, same_steps}
use Rattle.copy.specs.Rules.{end_kind, end_word}

module _ (s : List ℕ) (top : ℕ) (wf : WellFormed s top) where
  module _ (cells : List ℕ) (agree : (j : ℕ) → j < top → get_or cells j 0 ≡ get_or s j 0) where
    pub kind_agree : (j : ℕ) → j < top → kind_at cells j ≡ kind_at s j
    kind_agree j h = ap kind_of (agree j h)

    pub arity_agree : (j : ℕ) → j < top → arity_at cells j ≡ arity_at s j
    unfolding arity_at
    arity_agree j h = ap arity_kind (kind_agree j h)

    pub end_agree : (w : ℕ) → ((v : ℕ) → kind_of w ≡ Var v → (1 ≤ v) × (v < top)) → end_word cells top w ≡ end_word s top w
    unfolding end_word end_kind
    end_agree w f = go (kind_of w) f
      where
        go : (k : Kind) → ((v : ℕ) → k ≡ Var v → (1 ≤ v) × (v < top)) → end_kind cells top w k ≡ end_kind s top w k
        go (Var v) g =
            let u = g v refl in
            let t = steps_in s top wf top v u.0 u.1 in
            ap (λ (j : ℕ). get_or cells j 0) (same_steps s cells top (chained s top wf) agree top v u.0 u.1).0 ∙ agree (steps s top v) t.1
        go (Str v) g = refl
        go (Lis v) g = refl
        go (Atom n a) g = refl
        go (Fixnum z) g = refl
        go Bad g = refl

  pub var_used : (x v : ℕ) → 1 ≤ x → x < top → kind_at s x ≡ Var v → (1 ≤ v) × (v < top)
  unfolding keeps
  var_used x v l h e = term_used s top v (subst (λ (k : Kind). keeps s top x k ≡ true) e (wf.keep x l h))

  reach_step : (v : ℕ) → Reach s v (step s v)
  unfolding step step_kind
  reach_step v = go (kind_at s v) refl
    where
      go : (k : Kind) → kind_at s v ≡ k → Reach s v (step_kind v k)
      go (Var x) e = elim (ℕ_discrete x v) [ yes z ↦ subst (Reach s v) (sym z) here | no z ↦ one (bound e z) ]
      go (Str x) e = here
      go (Lis x) e = here
      go (Atom n a) e = here
      go (Fixnum z) e = here
      go Bad e = here

  reach_steps : (n v : ℕ) → Reach s v (steps s n v)
  unfolding steps
  reach_steps zero v = here
  reach_steps (suc n) v = join (reach_step v) (reach_steps n (step s v))

  -- the cell where following x ends
  pub record AtEnd (x : ℕ) : Type 0 where
    pub cell : ℕ
    pub from : 1 ≤ cell
    pub below : cell < top
    pub is : end_word s top (get_or s x 0) ≡ get_or s cell 0
    pub stays : step s cell ≡ cell
    pub reach : Reach s x cell

  pub at_end : (x : ℕ) → 1 ≤ x → x < top → AtEnd x
  unfolding end_word end_kind step step_kind
  at_end x l h = go (kind_at s x) refl
    where
      go : (k : Kind) → kind_at s x ≡ k → AtEnd x
      go (Var v) e =
          let u = var_used x v l h e in
          let t = steps_in s top wf top v u.0 u.1 in
          record {
            cell = steps s top v;
            from = t.0;
            below = t.1;
            is = rw e;
            stays = end_stays s top wf v u.0 u.1;
            reach = join (subst (Reach s x) (ap (step_kind x) e) (reach_step x)) (reach_steps top v);
          }
      go (Str v) e = record { cell = x; from = l; below = h; is = rw e; stays = rw e; reach = here }
      go (Lis v) e = record { cell = x; from = l; below = h; is = rw e; stays = rw e; reach = here }
      go (Atom n a) e = record { cell = x; from = l; below = h; is = rw e; stays = rw e; reach = here }
      go (Fixnum z) e = record { cell = x; from = l; below = h; is = rw e; stays = rw e; reach = here }
      go Bad e = record { cell = x; from = l; below = h; is = rw e; stays = rw e; reach = here }

  -- what the table says of the word there
  unfoldable pub Good : ℕ → Kind → Type 0
  Good x (Var v) = (v < top) × (kind_at s v ≡ Var v)
  Good x (Str f) = (1 ≤ f) × (f + (1 + arity_at s f) ≤ top) × ((c : ℕ) × Reach s x c × (kind_at s c ≡ Str f))
  Good x (Lis l) = (1 ≤ l) × (l + 2 ≤ top) × ((c : ℕ) × Reach s x c × (kind_at s c ≡ Lis l))
  Good x (Atom n a) = Unit {0}
  Good x (Fixnum z) = Unit {0}
  Good x Bad = ⊥

  good : (x : ℕ) → 1 ≤ x → x < top → (e : AtEnd x) → Good x (kind_at s e.cell)
  unfolding Good step step_kind keeps
  good x l h e = go (kind_at s e.cell) refl (wf.keep e.cell e.from e.below) e.stays
    where
      go : (k : Kind) → kind_at s e.cell ≡ k → keeps s top e.cell k ≡ true → step_kind e.cell (kind_at s e.cell) ≡ e.cell → Good x k
      go (Var v) t k st =
          let b = e.below in
          let z : v ≡ e.cell = sym (ap (step_kind e.cell) t) ∙ st in
          (omega arith, subst (λ (y : ℕ). kind_at s y ≡ Var v) (sym z) t)
      go (Str f) t k st =
          let u = str_used s top wf e.cell e.from e.below f t in
          let r = run_used s top wf f u.0 u.1 in
          (u.0, omega arith, (e.cell, e.reach, t))
      go (Lis m) t k st =
          let b = lis_terms s top wf e.cell e.from e.below m t in
          let u = term_used s top m b.0 in
          let w = term_used s top (m + 1) b.1 in
          (u.0, omega arith, (e.cell, e.reach, t))
      go (Atom n a) t k st = tt
      go (Fixnum z) t k st = tt
      go Bad t k st = false≢true k

  pub end_good : (x : ℕ) → 1 ≤ x → x < top → Good x (kind_of (end_word s top (get_or s x 0)))
  end_good x l h = let e = at_end x l h in subst (Good x) (ap kind_of (sym e.is)) (good x l h e)
