-- Laws of chains, of what is remembered along them, and of following by it.
use Rattle.std.specs.Prelude.{◌≡◌, List, length, get_or, set}
use Rattle.std.proofs.Math.Path.{refl}
use Rattle.std.proofs.Common.{sym, ap, subst, ◌∙◌, arith, length-set, get_or-set_same, get_or-set_other}
use Prim.Native.Nat.{ℕ, zero, suc, ◌<◌, ◌≤◌}
use Rattle.std.proofs.Math.Decide.{ℕ_discrete}
use borrow.Author.Tests.{eq-eqb, ne_eqb}
use Rattle.store.specs.Store.{step, steps, end_of, WellFormed}
use Rattle.store.specs.Steps.{step_used, steps_fixed, same_step}
use Rattle.store.specs.Ends.{end_next}
use Rattle.store.specs.WellFormed.{keeps_cells, end_stays}
use Rattle.chains.specs.Chains.{Chained, Ahead, next, later, Onward, stays, goes, Hops, Hopped, left}

-- a well-formed store
pub chained : (s : List ℕ) (top : ℕ) → WellFormed s top → Chained s top
chained s top wf = record { room = wf.room; used = step_used s top (keeps_cells s top wf); ends = end_stays s top wf }

module _ {s : List ℕ} where
  pub ahead_join : {i j k : ℕ} → Ahead s i j → Ahead s j k → Ahead s i k
  ahead_join (next n) q = later n q
  ahead_join (later n p) q = later n (ahead_join p q)

  -- one step is a look
  pub onward_step : (i r : ℕ) → r ≡ step s i → Onward s i r
  onward_step i r e =
      elim (ℕ_discrete (step s i) i) [
        | yes q ↦ subst (Onward s i) (sym (e ∙ q)) (stays q)
        | no q ↦ subst (Onward s i) (sym e) (goes (next q))
      ]

  pub onward_goes : {i j : ℕ} → Onward s i j → (j ≡ i → ⊥) → Ahead s i j
  onward_goes (stays e) n = absurd (n refl)
  onward_goes (goes a) n = a

  -- over one look and another
  pub onward_on : {i j k : ℕ} → Ahead s i j → Onward s j k → Ahead s i k
  onward_on a (stays e) = a
  onward_on a (goes b) = ahead_join a b

module _ (s : List ℕ) (top : ℕ) (ch : Chained s top) where
  -- following from the next cell ends where following ends
  pub next_end : (i : ℕ) → 1 ≤ i → i < top → end_of s top (step s i) ≡ end_of s top i
  next_end i l h = end_next s top i (ch.ends i l h)

  pub ahead_end : {i j : ℕ} → Ahead s i j → 1 ≤ i → i < top → end_of s top j ≡ end_of s top i
  ahead_end {i} (next n) l h = next_end i l h
  ahead_end {i} (later n p) l h = let u = ch.used i l h in ahead_end p u.0 u.1 ∙ next_end i l h

  pub ahead_used : {i j : ℕ} → Ahead s i j → 1 ≤ i → i < top → (1 ≤ j) × (j < top)
  ahead_used {i} (next n) l h = ch.used i l h
  ahead_used {i} (later n p) l h = let u = ch.used i l h in ahead_used p u.0 u.1

  -- ---- fewer steps are left further along
  enough : (n i : ℕ) → step s (steps s n i) ≡ steps s n i → left s (suc n) i ≡ left s n i
  unfolding left steps
  enough zero i e = rw (eq-eqb (step s i) i e)
  enough (suc n) i e =
      elim (ℕ_discrete (step s i) i) [
        | yes q ↦ rw (eq-eqb (step s i) i q)
        | no q ↦ rw (ne_eqb (step s i) i q) (ap suc (enough n (step s i) e))
      ]

  fewer : (i : ℕ) → 1 ≤ i → i < top → (step s i ≡ i → ⊥) → left s top i ≡ suc (left s top (step s i))
  unfolding left steps
  fewer i l h n = go top refl
    where
      go : (t : ℕ) → t ≡ top → left s top i ≡ suc (left s top (step s i))
      go zero q = absurd (omega arith)
      go (suc t) q =
          rw (← q, ne_eqb (step s i) i n, left)
          (ap suc (sym (enough t (step s i) (subst (λ (m : ℕ). step s (steps s m i) ≡ steps s m i) (sym q) (ch.ends i l h)))))

  pub ahead_left : {i j : ℕ} → Ahead s i j → 1 ≤ i → i < top → left s top j < left s top i
  ahead_left {i} (next n) l h = let f = fewer i l h n in omega arith
  ahead_left {i} (later n p) l h = let u = ch.used i l h in let f = fewer i l h n in let r = ahead_left p u.0 u.1 in omega arith

  pub onward_used : {i j : ℕ} → Onward s i j → 1 ≤ i → i < top → (1 ≤ j) × (j < top)
  onward_used (stays e) l h = (l, h)
  onward_used (goes a) l h = ahead_used a l h

  -- a look that comes back is at the end of the chain
  pub onward_stays : {i j : ℕ} → Onward s i j → 1 ≤ i → i < top → j ≡ i → step s i ≡ i
  onward_stays (stays e) l h q = e
  onward_stays {i} {j} (goes a) l h q = let r = ahead_left a l h in absurd (omega (arith, ap (left s top) q))

-- ---- what is remembered
-- nothing
pub hops_none : (s : List ℕ) (top : ℕ) (hops : List ℕ) → ((i : ℕ) → i < top → get_or hops i 0 ≡ 0) → Hops s top hops
hops_none s top hops z = record { ahead = λ i l h n. absurd (n (z i h)) }

module _ {s : List ℕ} {top : ℕ} {hops : List ℕ} (h : Hops s top hops) where
  -- one cell more
  pub hops_more : (i j : ℕ) → i < length hops → Ahead s i j → Hops s top (set hops i j)
  hops_more i j r a =
      record {
        ahead = λ k l b n. elim (ℕ_discrete k i) [
          | yes e ↦ rw (e, get_or-set_same hops i j 0 r) a
          | no e ↦ rw (get_or-set_other hops i k j 0 e) (h.ahead k l b (λ z. n (get_or-set_other hops i k j 0 e ∙ z)))
        ];
      }

  -- where the same cells move and go to the same
  pub hops_over : (t : List ℕ) → ((i : ℕ) → 1 ≤ i → i < top → (step s i ≡ i → ⊥) → step t i ≡ step s i) → Chained s top → Hops t top hops
  hops_over t same ch = record { ahead = λ i l b n. over (h.ahead i l b n) l b }
    where
      over : {i j : ℕ} → Ahead s i j → 1 ≤ i → i < top → Ahead t i j
      over {i} (next n) l b = let e = same i l b n in subst (Ahead t i) e (next (λ z. n (sym e ∙ z)))
      over {i} {j} (later n p) l b =
          let e = same i l b n in
          let u = ch.used i l b in
          later (λ z. n (sym e ∙ z)) (subst (λ (x : ℕ). Ahead t x j) (sym e) (over p u.0 u.1))

-- ---- following with what is remembered, when it has come to `cur` and a look from there finds `far`
pub record Following (s : List ℕ) (top at : ℕ) (old new : List ℕ) (cur far : ℕ) : Type 0 where
  pub low : 1 ≤ cur
  pub high : cur < top
  pub same : end_of s top cur ≡ end_of s top at
  pub look : Onward s cur far
  pub left : Hopped s top old new

module _ (s : List ℕ) (top at : ℕ) (old : List ℕ) (ch : Chained s top) (room : top ≤ length old) where
  module _ (new : List ℕ) (cur far : ℕ) (f : Following s top at old new cur far) where
    pub far_used : (1 ≤ far) × (far < top)
    far_used = onward_used s top ch f.look f.low f.high

    pub room_now : top ≤ length new
    room_now = let l = f.left.long in omega arith

    -- it moved, and a look from there finds `next`
    module _ (moved : far ≡ cur → ⊥) (next : ℕ) (o : Onward s far next) where
      two : Ahead s cur next
      two = onward_on (onward_goes f.look moved) o

      pub next_used : (1 ≤ next) × (next < top)
      next_used = ahead_used s top ch two f.low f.high

      pub follow_less : left s top next < left s top cur
      follow_less = ahead_left s top ch two f.low f.high

      pub follow_hops : Hops s top (set new cur next)
      follow_hops = let h = f.high in let r = room_now in hops_more f.left.hops cur next (omega arith) two

      pub follow_more : (last : ℕ) → Onward s next last → Following s top at old (set new cur next) next last
      follow_more last q =
          let l = f.low in
          let h = f.high in
          let u = next_used in
          record {
            low = u.0;
            high = u.1;
            same = ahead_end s top ch two l h ∙ f.same;
            look = q;
            left = record {
              hops = follow_hops;
              long = length-set new cur next ∙ f.left.long;
              rest = λ j g. get_or-set_other new cur j next 0 (λ z. omega arith) ∙ f.left.rest j g;
            };
          }

    pub follow_done : far ≡ cur → cur ≡ end_of s top at
    follow_done q = sym (steps_fixed s top cur (onward_stays s top ch f.look f.low f.high q)) ∙ f.same

-- a list that agrees below `top`
module _ (s t : List ℕ) (top : ℕ) (ch : Chained s top) (same : (j : ℕ) → j < top → get_or t j 0 ≡ get_or s j 0) where
  pub same_steps : (n i : ℕ) → 1 ≤ i → i < top → (steps t n i ≡ steps s n i) × (steps s n i < top)
  unfolding steps
  same_steps zero i l h = (refl, h)
  same_steps (suc n) i l h =
      let u = ch.used i l h in
      let r = same_steps n (step s i) u.0 u.1 in
      (ap (steps t n) (same_step s t i (same i h)) ∙ r.0, r.1)

  pub same_chained : top ≤ length t → Chained t top
  same_chained r =
      record {
        room = r;
        used = λ i l h. rw (same_step s t i (same i h)) (ch.used i l h);
        ends = λ i l h. let e = same_steps top i l h in ap (step t) e.0 ∙ same_step s t _ (same _ e.1) ∙ ch.ends i l h ∙ sym e.0;
      }

  pub same_hops : {hops : List ℕ} → Hops s top hops → Hops t top hops
  same_hops h = hops_over h t (λ i l b n. same_step s t i (same i b)) ch
