-- The classes that parent words keep, of any function that gives each cell the name of its class: the names may differ, but the same cells are in one class. And what finding, joining and setting apart promise.
use Rattle.std.specs.Prelude.{◌≡◌, refl, List, ◌⊎◌, ℕ, min, max, ◌<◌, ◌≤◌, length, get_or, set}
use Rattle.std.proofs.Common.{sym, ap, subst, ◌∙◌, inl, inr, arith, length-set, get_or-set_same, get_or-set_other}
use Rattle.std.proofs.Math.Decide.{ℕ_discrete, dec_lt}
use Rattle.classes.specs.Forest.{Lower, Root, here, up, own, unique, names_own, root_of, halve, far_below, halve_lower, hung, hung_lower, hang_to, hang_other}

-- two of the first `top` cells end at one name exactly if f gives both one
pub record Classes (w : List ℕ) (top : ℕ) (f : ℕ → ℕ) : Type 0 where
  pub lower : Lower w top
  pub to : (i j r : ℕ) → i < top → j < top → Root w i r → Root w j r → f i ≡ f j
  pub back : (i j r s : ℕ) → i < top → j < top → Root w i r → Root w j s → f i ≡ f j → r ≡ s

-- once the classes of n and m are one, i and j are in one class
pub data Tied (f : ℕ → ℕ) (n m i j : ℕ) : Type 0 where
  same : f i ≡ f j → Tied f n m i j
  left : f i ≡ f n → f j ≡ f m → Tied f n m i j
  right : f i ≡ f m → f j ≡ f n → Tied f n m i j

-- g has the classes of f, with those of n and m as one
pub record Joins (f : ℕ → ℕ) (n m : ℕ) (g : ℕ → ℕ) : Type 0 where
  pub tied : (i j : ℕ) → g i ≡ g j → Tied f n m i j
  pub ties : (i j : ℕ) → Tied f n m i j → g i ≡ g j

-- climbing ends where it did
abbrev pub Keeps : List ℕ → ℕ → List ℕ → Type 0
Keeps w top w' = (j s : ℕ) → j < top → Root w j s → Root w' j s

-- ---- what the calls promise; no word from `top` on changes
-- the name that climbing from i ends at, and climbing ends where it did
pub record Found (w : List ℕ) (top i r : ℕ) (w' : List ℕ) : Type 0 where
  pub lower : Lower w' top
  pub root : Root w' i r
  pub keeps : Keeps w top w'
  pub rest : (j : ℕ) → top ≤ j → get_or w' j 0 ≡ get_or w j 0

-- the classes that a and b name are one, and just one of the two names is lost
pub record Joined (w : List ℕ) (top a b : ℕ) (w' : List ℕ) : Type 0 where
  pub keeps : (f g : ℕ → ℕ) → Classes w top f → (n m : ℕ) → n < top → m < top → Root w n a → Root w m b → Joins f n m g → Classes w' top g
  pub lost : ℕ
  pub one : (lost ≡ a) ⊎ (lost ≡ b)
  pub no_name : get_or w' lost 0 ≡ lost → ⊥
  pub rest : (j : ℕ) → (j ≡ lost → ⊥) → get_or w' j 0 ≡ get_or w j 0

-- each cell is its own class
pub record Apart (w : List ℕ) (top : ℕ) (w' : List ℕ) : Type 0 where
  pub classes : Classes w' top (λ n. n)
  pub rest : (j : ℕ) → top ≤ j → get_or w' j 0 ≡ get_or w j 0

-- ---- the classes see only where climbing ends
pub classes_kept : (w w' : List ℕ) (top : ℕ) (f : ℕ → ℕ) → Lower w' top → Keeps w top w' → Classes w top f → Classes w' top f
classes_kept w w' top f l kept c =
    record {
      lower = l;
      to = λ i j r hi hj p q. let a = root_of w top c.lower i hi in let b = root_of w top c.lower j hj in
          let e : b.0 ≡ a.0 = unique (kept j b.0 hj b.1) q ∙ sym (unique (kept i a.0 hi a.1) p) in
          c.to i j _ hi hj a.1 (subst (Root w j) e b.1);
      back = λ i j r s hi hj p q e. let a = root_of w top c.lower i hi in let b = root_of w top c.lower j hj in
          unique p (kept i a.0 hi a.1) ∙ c.back i j _ _ hi hj a.1 b.1 e ∙ unique (kept j b.0 hj b.1) q;
    }

-- a cell that names its class after did so before
pub names_kept : (w w' : List ℕ) (top : ℕ) → Lower w top → Keeps w top w' → (k : ℕ) → k < top → get_or w' k 0 ≡ k → get_or w k 0 ≡ k
names_kept w w' top l kept k h e =
    let r = root_of w top l k h in
    let q : k ≡ r.0 = unique (here e) (kept k r.0 h r.1) in
    subst (λ (x : ℕ). get_or w x 0 ≡ x) (sym q) (names_own r.1)

-- ---- finding: `cur` is the cell that climbing from i has come to, and p its parent
pub record Climbs (w₀ : List ℕ) (top i : ℕ) (w : List ℕ) (cur p : ℕ) : Type 0 where
  pub lower : Lower w top
  pub below : cur < top
  pub parent : p ≡ get_or w cur 0
  pub size : length w ≡ length w₀
  pub rest : (j : ℕ) → top ≤ j → get_or w j 0 ≡ get_or w₀ j 0
  pub keeps : Keeps w₀ top w
  pub on : (s : ℕ) → Root w cur s → Root w i s

module _ (w₀ : List ℕ) (top i : ℕ) (w : List ℕ) (x p : ℕ) (c : Climbs w₀ top i w x p) where
  pub climb_inside : (x < length w) × (p < length w) × (get_or w p 0 < length w)
  climb_inside =
      let g = far_below w top x c.lower c.below in
      let f = c.lower.fits in
      let b = c.below in
      rw c.parent (omega arith, omega arith, omega arith)

  pub climb_more : (q : ℕ) → q ≡ get_or (set w x (get_or w p 0)) (get_or w p 0) 0 → Climbs w₀ top i (set w x (get_or w p 0)) (get_or w p 0) q
  climb_more q e =
      let b = c.below in
      let inside : x < length w = climb_inside.0 in
      let f = (far_below w top x c.lower c.below).1 in
      let z : get_or w p 0 ≡ get_or w (get_or w x 0) 0 = ap (λ (k : ℕ). get_or w k 0) c.parent in
      let new : set w x (get_or w p 0) ≡ set w x (get_or w (get_or w x 0) 0) = ap (set w x) z in
      record {
        lower = subst (λ (y : List ℕ). Lower y top) (sym new) (halve_lower w top x c.lower c.below);
        below = omega arith;
        parent = e;
        size = length-set w x (get_or w p 0) ∙ c.size;
        rest = λ j h. get_or-set_other w x j (get_or w p 0) 0 (λ y. omega arith) ∙ c.rest j h;
        keeps = λ j s h d. subst (λ (y : List ℕ). Root y j s) (sym new) (halve w x inside (c.keeps j s h d));
        on = λ s d.
            let a = root_of w top c.lower (get_or w (get_or w x 0) 0) f in
            let k : Root (set w x (get_or w (get_or w x 0) 0)) (get_or w (get_or w x 0) 0) s = subst (λ (y : ℕ). Root (set w x y) y s) z d in
            let same : a.0 ≡ s = unique (halve w x inside a.1) k in
            subst (λ (y : List ℕ). Root y i s) (sym new) (subst (Root (set w x (get_or w (get_or w x 0) 0)) i) same (halve w x inside (c.on a.0 (up (up a.1)))));
      }

  pub climb_end : p ≡ x → Found w₀ top i x w
  climb_end e = record { lower = c.lower; root = c.on x (here (sym c.parent ∙ e)); keeps = c.keeps; rest = c.rest }

-- ---- joining
pub joins_swap : {f : ℕ → ℕ} {n m : ℕ} {g : ℕ → ℕ} → Joins f n m g → Joins f m n g
joins_swap {f} {n} {m} {g} k = record { tied = λ i j e. swap (k.tied i j e); ties = λ i j t. k.ties i j (swap t) }
  where
    swap : {n m i j : ℕ} → Tied f n m i j → Tied f m n i j
    swap (same e) = same e
    swap (left e q) = right e q
    swap (right e q) = left e q

-- the name `high` is hung below `low`; the classes of x and y are theirs
module _ (w : List ℕ) (top low high : ℕ) (l : Lower w top) (b : high < top) (less : low < high) (rl : get_or w low 0 ≡ low) (rh : get_or w high 0 ≡ high) (f g : ℕ → ℕ) (c : Classes w top f) (x y : ℕ) (lx : x < top) (ly : y < top) (dx : Root w x low) (dy : Root w y high) (k : Joins f x y g) where
  abbrev new : List ℕ
  new = hung w top low high l b less rl rh

  -- the name after, by the name before
  abbrev after : (i r : ℕ) → Root w i r → (r ≡ high → ⊥) → Root new i r
  after i r d n = hang_other w top low high l b less rl rh n d

  abbrev moved : (i r : ℕ) → Root w i r → r ≡ high → Root new i low
  moved i r d q = hang_to w top low high l b less rl rh q d

  hung_to : (i j r : ℕ) → i < top → j < top → Root new i r → Root new j r → g i ≡ g j
  hung_to i j r hi hj p q =
      let a = root_of w top l i hi in
      let d = root_of w top l j hj in
      k.ties i j (elim (ℕ_discrete a.0 high) [
        | yes u ↦ elim (ℕ_discrete d.0 high) [
          | yes v ↦ same (c.to i j _ hi hj (subst (Root w i) u a.1) (subst (Root w j) v d.1))
          | no v ↦ right (c.to i y _ hi ly (subst (Root w i) u a.1) dy) (c.to j x _ hj lx (subst (Root w j) (unique (after j d.0 d.1 v) q ∙ unique p (moved i a.0 a.1 u)) d.1) dx)
        ]
        | no u ↦ elim (ℕ_discrete d.0 high) [
          | yes v ↦ left (c.to i x _ hi lx (subst (Root w i) (unique (after i a.0 a.1 u) p ∙ unique q (moved j d.0 d.1 v)) a.1) dx) (c.to j y _ hj ly (subst (Root w j) v d.1) dy)
          | no v ↦ same (c.to i j _ hi hj (subst (Root w i) (unique (after i a.0 a.1 u) p ∙ unique q (after j d.0 d.1 v)) a.1) d.1)
        ]
      ])

  hung_back : (i j r s : ℕ) → i < top → j < top → Root new i r → Root new j s → g i ≡ g j → r ≡ s
  hung_back i j r s hi hj p q e = by (k.tied i j e)
    where
      -- a cell of either class is now named `low`
      of_x : {i r : ℕ} → i < top → Root new i r → f i ≡ f x → r ≡ low
      of_x {i} h p e =
          let a = root_of w top l i h in
          let z : a.0 ≡ low = c.back i x _ _ h lx a.1 dx e in
          unique p (after i a.0 a.1 (λ u. omega arith)) ∙ z

      of_y : {i r : ℕ} → i < top → Root new i r → f i ≡ f y → r ≡ low
      of_y {i} h p e = let a = root_of w top l i h in unique p (moved i a.0 a.1 (c.back i y _ _ h ly a.1 dy e))

      by : Tied f x y i j → r ≡ s
      by (left u v) = of_x hi p u ∙ sym (of_y hj q v)
      by (right u v) = of_y hi p u ∙ sym (of_x hj q v)
      by (same u) =
          let a = root_of w top l i hi in
          let d = root_of w top l j hj in
          let z : a.0 ≡ d.0 = c.back i j _ _ hi hj a.1 d.1 u in
          elim (ℕ_discrete a.0 high) [
            | yes v ↦ unique p (moved i a.0 a.1 v) ∙ sym (unique q (moved j d.0 d.1 (sym z ∙ v)))
            | no v ↦ unique p (after i a.0 a.1 v) ∙ z ∙ sym (unique q (after j d.0 d.1 (λ t. v (z ∙ t))))
          ]

  pub hung_classes : Classes new top g
  hung_classes = record { lower = hung_lower w top low high l b less rl rh; to = hung_to; back = hung_back }

module _ (w : List ℕ) (top a b : ℕ) (l : Lower w top) (la : a < top) (lb : b < top) (ra : Root w a a) (rb : Root w b b) where
  ea : get_or w a 0 ≡ a
  ea = names_own ra

  eb : get_or w b 0 ≡ b
  eb = names_own rb

  lost_name : (low high : ℕ) → low < high → high < top → get_or (set w high low) high 0 ≡ high → ⊥
  lost_name low high less h e = let f = l.fits in let z = get_or-set_same w high low 0 (omega arith) in omega arith

  pub join_low : a < b → Joined w top a b (set w b a)
  join_low h =
      record {
        keeps = λ f g c n m ln lm dn dm k. hung_classes w top a b l lb h ea eb f g c n m ln lm dn dm k;
        lost = b;
        one = inr refl;
        no_name = lost_name a b h lb;
        rest = λ j n. get_or-set_other w b j a 0 n;
      }

  pub join_high : b < a → Joined w top a b (set w a b)
  join_high h =
      record {
        keeps = λ f g c n m ln lm dn dm k. hung_classes w top b a l la h eb ea f g c m n lm ln dm dn (joins_swap k);
        lost = a;
        one = inl refl;
        no_name = lost_name b a h la;
        rest = λ j n. get_or-set_other w a j b 0 n;
      }

  -- whichever is the lower
  pub join_names : (high low : ℕ) → high ≡ max a b → low ≡ min a b → (a ≡ b → ⊥) → Joined w top a b (set w high low)
  join_names high low p q n =
      elim (dec_lt a b) [
        | yes h ↦ (let x : high ≡ b = omega arith in let y : low ≡ a = omega arith in rw (x, y) (join_low h))
        | no h ↦ (let g : b < a = omega arith in let x : high ≡ a = omega arith in let y : low ≡ b = omega arith in rw (x, y) (join_high g))
      ]

-- ---- setting apart: the cells below n are their own
pub own_all : (w : List ℕ) (top : ℕ) (w' : List ℕ) → top ≤ length w' → ((k : ℕ) → k < top → get_or w' k 0 ≡ k) → ((j : ℕ) → top ≤ j → get_or w' j 0 ≡ get_or w j 0) → Apart w top w'
own_all w top w' h e r =
    record {
      classes = record {
        lower = record { fits = h; low = λ i l. let q = e i l in omega arith };
        to = λ i j r hi hj p q. sym (own p (e i hi)) ∙ own q (e j hj);
        back = λ i j r s hi hj p q z. own p (e i hi) ∙ z ∙ sym (own q (e j hj));
      };
      rest = r;
    }
