-- Parent words: each of the first `top` cells names a cell no higher than itself, and climbing ends at a cell that names itself. And the two writes that keep them so: a cell that gets its parent's parent, and a name that gets a lower one as its parent.
use Rattle.std.specs.Prelude.{◌≡◌, refl, List, ℕ, zero, suc, ◌<◌, ◌≤◌, length, get_or, set}
use Rattle.std.proofs.Common.{sym, ap, subst, ◌∙◌, arith, length-set, get_or-set_same, get_or-set_other}
use Rattle.std.proofs.Math.Decide.{ℕ_discrete}

-- a word for each cell, and no parent above its cell
pub record Lower (w : List ℕ) (top : ℕ) : Type 0 where
  pub fits : top ≤ length w
  pub low : (i : ℕ) → i < top → get_or w i 0 ≤ i

-- climbing from i ends at r, the name of its class
pub data Root (w : List ℕ) : ℕ → ℕ → Type 0 where
  here : {i : ℕ} → get_or w i 0 ≡ i → Root w i i
  up : {i r : ℕ} → Root w (get_or w i 0) r → Root w i r

module _ {w : List ℕ} where
  pub own : {i r : ℕ} → Root w i r → get_or w i 0 ≡ i → r ≡ i
  own (here e) q = refl
  own (up d) q = own d (ap (λ (k : ℕ). get_or w k 0) q) ∙ q

  pub unique : {i r s : ℕ} → Root w i r → Root w i s → r ≡ s
  unique (here e) d = sym (own d e)
  unique (up d) (here e) = own (up d) e
  unique (up d) (up f) = unique d f

  pub names_own : {i r : ℕ} → Root w i r → get_or w r 0 ≡ r
  names_own (here e) = e
  names_own (up d) = names_own d

  pub root_below : {top i r : ℕ} → Lower w top → i < top → Root w i r → r < top
  root_below l h (here e) = h
  root_below {i = i} l h (up d) = let q = l.low i h in root_below l (omega arith) d

-- climbing ends
pub root_of : (w : List ℕ) (top : ℕ) → Lower w top → (i : ℕ) → i < top → (r : ℕ) × Root w i r
root_of w top l i = go i i (omega arith)
  where
    go : (n i : ℕ) → i ≤ n → i < top → (r : ℕ) × Root w i r
    go zero i b h = let q = l.low i h in (i, here {i = i} (omega arith))
    go (suc n) i b h =
        elim (ℕ_discrete (get_or w i 0) i) [
          | yes e ↦ (i, here e)
          | no e ↦ (let q = l.low i h in let d = go n (get_or w i 0) (omega arith) (omega arith) in (d.0, up d.1))
        ]

-- a cell of the forest that gets a parent no higher than itself
lower_set : (w : List ℕ) (top x p : ℕ) → Lower w top → x < top → p ≤ x → Lower (set w x p) top
lower_set w top x p l h b =
    let f = l.fits in
    record {
      fits = rw (length-set w x p) f;
      low = λ i k. elim (ℕ_discrete i x) [
        | yes q ↦ rw (q, get_or-set_same w x p 0 (omega arith)) b
        | no n ↦ rw (get_or-set_other w x i p 0 n) (l.low i k)
      ];
    }

-- ---- x gets its parent's parent
module _ (w : List ℕ) (x : ℕ) (inside : x < length w) where
  abbrev far : ℕ
  far = get_or w (get_or w x 0) 0

  abbrev halved : List ℕ
  halved = set w x far

  at_x : get_or halved x 0 ≡ far
  at_x = get_or-set_same w x far 0 inside

  at_other : (j : ℕ) → (j ≡ x → ⊥) → get_or halved j 0 ≡ get_or w j 0
  at_other j n = get_or-set_other w x j far 0 n

  -- from any cell, climbing goes on from its parent or from its parent's parent
  onward : (j r : ℕ) → Root halved (get_or w j 0) r → Root halved (get_or w (get_or w j 0) 0) r → Root halved j r
  onward j r a b =
      elim (ℕ_discrete j x) [
        | yes q ↦ up (subst (λ (k : ℕ). Root halved k r) (sym (ap (λ (k : ℕ). get_or halved k 0) q ∙ at_x ∙ ap (λ (k : ℕ). get_or w (get_or w k 0) 0) (sym q))) b)
        | no n ↦ up (subst (λ (k : ℕ). Root halved k r) (sym (at_other j n)) a)
      ]

  pub halve : {j r : ℕ} → Root w j r → Root halved j r
  halve {j} (here e) =
      elim (ℕ_discrete j x) [
        | yes q ↦ here (ap (λ (k : ℕ). get_or halved k 0) q ∙ at_x ∙ ap (λ (k : ℕ). get_or w (get_or w k 0) 0) (sym q) ∙ ap (λ (k : ℕ). get_or w k 0) e ∙ e)
        | no n ↦ here (at_other j n ∙ e)
      ]
  halve {j} (up (here e)) =
      let a : Root halved (get_or w j 0) (get_or w j 0) = halve (here e) in
      onward j (get_or w j 0) a (subst (λ (k : ℕ). Root halved k (get_or w j 0)) (sym e) a)
  halve {j} {r} (up (up d)) = onward j r (halve (up d)) (halve d)

module _ (w : List ℕ) (top x : ℕ) (l : Lower w top) (h : x < top) where
  pub far_below : (get_or w x 0 < top) × (get_or w (get_or w x 0) 0 < top)
  far_below = let a = l.low x h in let b = l.low (get_or w x 0) (omega arith) in (omega arith, omega arith)

  pub far_less : (get_or w x 0 ≡ x → ⊥) → get_or w (get_or w x 0) 0 < x
  far_less n = let a = l.low x h in let b = l.low (get_or w x 0) (omega arith) in omega arith

  pub halve_lower : Lower (set w x (get_or w (get_or w x 0) 0)) top
  halve_lower = let a = l.low x h in let b = l.low (get_or w x 0) (omega arith) in lower_set w top x (get_or w (get_or w x 0) 0) l h (omega arith)

-- ---- the name `high` gets the lower name `low` as its parent
module _ (w : List ℕ) (top low high : ℕ) (l : Lower w top) (b : high < top) (less : low < high) (rl : get_or w low 0 ≡ low) (rh : get_or w high 0 ≡ high) where
  abbrev pub hung : List ℕ
  hung = set w high low

  hung_high : get_or hung high 0 ≡ low
  hung_high = let f = l.fits in get_or-set_same w high low 0 (omega arith)

  pub hung_other : (j : ℕ) → (j ≡ high → ⊥) → get_or hung j 0 ≡ get_or w j 0
  hung_other j n = get_or-set_other w high j low 0 n

  pub hung_lower : Lower hung top
  hung_lower = lower_set w top high low l b (omega arith)

  root_low : Root hung low low
  root_low = here (hung_other low (λ q. omega arith) ∙ rl)

  root_high : Root hung high low
  root_high = up (subst (λ (k : ℕ). Root hung k low) (sym hung_high) root_low)

  -- the class of `high` is now named `low`, and any other as it was
  pub hang_to : {i r : ℕ} → r ≡ high → Root w i r → Root hung i low
  hang_to {i} q (here e) = subst (λ (k : ℕ). Root hung k low) (sym q) root_high
  hang_to {i} {r} q (up d) =
      elim (ℕ_discrete i high) [
        | yes z ↦ subst (λ (k : ℕ). Root hung k low) (sym z) root_high
        | no n ↦ up (subst (λ (k : ℕ). Root hung k low) (sym (hung_other i n)) (hang_to q d))
      ]

  pub hang_other : {i r : ℕ} → (r ≡ high → ⊥) → Root w i r → Root hung i r
  hang_other {i} n (here e) = here (hung_other i n ∙ e)
  hang_other {i} {r} n (up d) =
      elim (ℕ_discrete i high) [
        | yes z ↦ absurd (n (own (up d) (ap (λ (k : ℕ). get_or w k 0) z ∙ rh ∙ sym z) ∙ z))
        | no m ↦ up (subst (λ (k : ℕ). Root hung k r) (sym (hung_other i m)) (hang_other n d))
      ]
