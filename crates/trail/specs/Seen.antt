-- A table of the cells that the trail's first entries name: how one pass finds that all are different.
use Rattle.std.specs.Prelude.{◌≡◌, Bool, true, false, List, ℕ, ◌+◌, ◌/◌, ◌<◌, ◌≤◌, length, get_or, replicate, eqb}
use Rattle.std.proofs.Math.Path.{sym, ap}
use Rattle.std.proofs.Common.{subst, ◌∙◌, arith, eq-eqb, ne_eqb}
use Rattle.std.proofs.Math.Bool.{not}
use Rattle.std.proofs.Math.Decide.{ℕ_discrete}
use Rattle.store.specs.All.{all_true, all_broken}
use Rattle.cell_set.specs.Table.{bit_at, noting, bit_none, bit_same, bit_other}
use Rattle.trail.specs.Rules.{names_bound, entry_new, entry_keeps}

-- an entry from a place to another names cell j
abbrev pub Named : List ℕ → ℕ → ℕ → ℕ → Type 0
Named trail from to j = (i : ℕ) × (from ≤ i) × (i < to) × (get_or trail i 0 ≡ j)

-- the table says 1 of just the cells that the entries from a place to another name
pub record Seen (trail : List ℕ) (from : ℕ) (seen : List ℕ) (to : ℕ) : Type 0 where
  pub known : (j : ℕ) → bit_at seen j ≡ 1 → Named trail from to j
  pub noted : (p : ℕ) → from ≤ p → p < to → bit_at seen (get_or trail p 0) ≡ 1

module _ (trail : List ℕ) (from : ℕ) where
  pub seen_none : (n : ℕ) (seen : List ℕ) → seen ≡ replicate n 0 → Seen trail from seen from
  seen_none n seen e = record { known = λ j h. (let z = ap (λ (l : List ℕ). bit_at l j) e ∙ bit_none n j in absurd (omega arith)); noted = λ p a b. absurd (omega arith) }

  module _ (seen : List ℕ) (i : ℕ) (s : Seen trail from seen i) (e : ℕ) (q : e ≡ get_or trail i 0) where
    pub seen_more : from ≤ i → e / 64 < length seen → (next : List ℕ) → next ≡ noting seen e → Seen trail from next (i + 1)
    seen_more f l next z =
        subst (λ (x : List ℕ). Seen trail from x (i + 1)) (sym z)
        (record {
          known = λ j h. elim (ℕ_discrete j e) [ yes r ↦ (i, f, omega arith, sym (r ∙ q)) | no r ↦ (let n = s.known j (sym (bit_other seen e l j r) ∙ h) in let b = n.2 in (n.0, n.1, omega arith, n.3)) ];
          noted = λ p a h. elim (ℕ_discrete (get_or trail p 0) e) [ yes r ↦ ap (bit_at (noting seen e)) r ∙ bit_same seen e l | no r ↦ bit_other seen e l (get_or trail p 0) r ∙ s.noted p a (less p h r) ];
        })
      where
        less : (p : ℕ) → p < i + 1 → (get_or trail p 0 ≡ e → ⊥) → p < i
        less p h r = elim (ℕ_discrete p i) [ yes z ↦ absurd (r (ap (λ (x : ℕ). get_or trail x 0) z ∙ sym q)) | no z ↦ omega arith ]

-- ---- the table of all entries before i, and what the loop's tests say of entry i
module _ (trail seen : List ℕ) (i : ℕ) (s : Seen trail 0 seen i) (e : ℕ) (q : e ≡ get_or trail i 0) where
  new_false : bit_at seen e ≡ 1 → entry_new trail i ≡ false
  unfolding entry_new
  new_false h = let n = s.known e h in let b = n.2 in all_broken (λ j. not (eqb (get_or trail j 0) (get_or trail i 0))) i 0 n.0 (omega arith) (omega arith) (ap not (eq-eqb (get_or trail n.0 0) (get_or trail i 0) (n.3 ∙ q)))

  new_true : (bit_at seen e ≡ 1 → ⊥) → entry_new trail i ≡ true
  unfolding entry_new
  new_true h = all_true (λ j. not (eqb (get_or trail j 0) (get_or trail i 0))) i 0 (λ p _ b. ap not (ne_eqb (get_or trail p 0) (get_or trail i 0) (λ r. h (subst (λ (x : ℕ). bit_at seen x ≡ 1) (r ∙ sym q) (s.noted p (omega arith) (omega arith))))))

  module _ (cells : List ℕ) (top : ℕ) (x : Bool) (a : x ≡ names_bound cells top e) where
    pub entry_bad : x ≡ false → entry_keeps cells top trail i ≡ false
    entry_bad f = rw (← q, ← a, f)

    pub entry_twice : x ≡ true → bit_at seen e ≡ 1 → entry_keeps cells top trail i ≡ false
    entry_twice t h = rw (new_false h, ← q, ← a, t)

    pub entry_good : x ≡ true → (bit_at seen e ≡ 1 → ⊥) → entry_keeps cells top trail i ≡ true
    entry_good t h = rw (new_true h, ← q, ← a, t)
