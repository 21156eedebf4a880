-- What following a cell answers, and what that means: it runs along Vars to the one cell that stays.
use Rattle.cell.specs.declared.Refusal.{Refusal}
use Rattle.std.specs.Prelude.{◌≡◌, refl, cond, true, false, List, get_or, Ok, Err, Result}
use Rattle.std.proofs.Common.{sym}
use Rattle.std.proofs.Math.Path.{subst}
use Prim.Native.Nat.{ℕ, zero, suc}
use Rattle.std.proofs.Math.Decide.{ℕ_discrete}
use Rattle.cell.specs.declared.Refusal.TheVariants.{Cells, Root}
use Rattle.store.specs.Store.{well_formed, WellFormed, term_at, step, steps, end_of}
use Rattle.store.specs.Steps.{steps_fixed, term_used}
use Rattle.store.specs.WellFormed.{end_stays}

-- a follow answers the word where following ends; refusals 1 and 3
unfoldable pub followed : List ℕ → ℕ → ℕ → Result ℕ Refusal
followed s top at = cond (well_formed s top) (cond (term_at s top at) (Ok (get_or s (end_of s top at) 0)) (Err Root)) (Err Cells)

module _ (s : List ℕ) (top at : ℕ) where
  pub refused_cells : well_formed s top ≡ false → Err Cells ≡ followed s top at
  unfolding followed
  refused_cells h = rw h

  pub refused_root : well_formed s top ≡ true → term_at s top at ≡ false → Err Root ≡ followed s top at
  unfolding followed
  refused_root h p = rw (h, p)

  pub found : (e : ℕ) → well_formed s top ≡ true → term_at s top at ≡ true → e ≡ end_of s top at → Ok (get_or s e 0) ≡ followed s top at
  unfolding followed
  found e h p q = rw (h, p, q)

-- ---- the meaning: i leads along bound Vars to e, which is an unbound Var or of another kind
pub data Leads (s : List ℕ) : ℕ → ℕ → Type 0 where
  here : {i : ℕ} → step s i ≡ i → Leads s i i
  along : {i e : ℕ} → (step s i ≡ i → ⊥) → Leads s (step s i) e → Leads s i e

module _ (s : List ℕ) where
  leads_in : (n i : ℕ) → step s (steps s n i) ≡ steps s n i → Leads s i (steps s n i)
  unfolding steps
  leads_in zero i e = here e
  leads_in (suc n) i e =
      elim (ℕ_discrete (step s i) i) [
        | yes q ↦ subst (Leads s i) (sym (steps_fixed s (suc n) i q)) (here q)
        | no q ↦ along q (leads_in n (step s i) e)
      ]

  -- it leads to one cell only
  pub leads_once : {i a b : ℕ} → Leads s i a → Leads s i b → a ≡ b
  leads_once (here p) (here q) = refl
  leads_once (here p) (along n q) = absurd (n p)
  leads_once (along n p) (here q) = absurd (n q)
  leads_once (along n p) (along m q) = leads_once p q

  -- and following answers the word of that cell
  pub leads : (top at : ℕ) → WellFormed s top → term_at s top at ≡ true → Leads s at (end_of s top at)
  leads top at wf t = let u = term_used s top at t in leads_in top at (end_stays s top wf at u.0 u.1)
