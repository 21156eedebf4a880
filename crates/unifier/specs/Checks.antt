-- The check of a call of either kind: refused as plain unification is, and else the cycle test of a checked call decides.
use Rattle.std.specs.Prelude.{◌≡◌, refl, Bool, true, false, not, ◌&&◌, ◌||◌, List, ℕ, ◌-◌, ◌≤◌, leb, length, Ok, Err}
use Rattle.std.proofs.Common.{sym}
use borrow.Author.Tests.{le-leb}
use Rattle.cell.specs.declared.Refusal.{Refusal}
use Rattle.cell.specs.declared.Refusal.TheVariants.{TrailRoom, Cycle}
use Rattle.store.specs.Store.{term_at}
use Rattle.trail.specs.State.{State, check_of, need, ◌then◌}
use Rattle.cycle.specs.Verdict.{cyclic_at}
use Rattle.chains.specs.Work.{work_need}
use Rattle.unification.specs.Calls.{unbound, plain_check, checked_check, check_by}
use Rattle.unification.proofs.Asked.{refuses_plain, refuses_state}

module _ (s : State) (work : List ℕ) (a b : ℕ) where
  -- with no lower number given, the trail's room decides between done and refusal 5
  pub room_decides : check_of s ≡ Ok tt → term_at s.cells s.top a ≡ true → term_at s.cells s.top b ≡ true → work_need s.top ≤ length work → (x : Bool) → x ≡ leb (unbound s.cells s.top) (length s.trail - s.trailed) → need x TrailRoom ≡ plain_check s work a b
  unfolding plain_check
  room_decides c p q w x e = rw (c, p, q, le-leb (work_need s.top) (length work) w, e)

  module _ (checked : Bool) where
    -- refusals 1 to 5 are those of plain unification
    pub check_refuses : {e : Refusal} → plain_check s work a b ≡ Err e → Err e ≡ check_by checked s work a b
    check_refuses {e} c = go checked
      where
        go : (k : Bool) → Err e ≡ check_by k s work a b
        go false = sym c
        go true = sym (refuses_plain s work a b e c)

    -- refusals 1 and 2 are those of the check of the state
    pub state_refuses : {e : Refusal} → Err e ≡ check_of s → Err e ≡ check_by checked s work a b
    state_refuses r = check_refuses (refuses_state s work a b _ (sym r))

    both : (p q : Bool) → need (not (p || q)) Cycle ≡ (need (not p) Cycle then need (not q) Cycle)
    both true q = refl
    both false q = refl

    -- refusal 6
    pub cycle_decides : plain_check s work a b ≡ Ok tt → (x : Bool) → x ≡ (checked && (cyclic_at s.cells s.top a || cyclic_at s.cells s.top b)) → need (not x) Cycle ≡ check_by checked s work a b
    unfolding checked_check
    cycle_decides c = go checked
      where
        go : (k x : Bool) → x ≡ (k && (cyclic_at s.cells s.top a || cyclic_at s.cells s.top b)) → need (not x) Cycle ≡ check_by k s work a b
        go false x e = rw (c, e)
        go true x e = rw (c, e) (both (cyclic_at s.cells s.top a) (cyclic_at s.cells s.top b))
