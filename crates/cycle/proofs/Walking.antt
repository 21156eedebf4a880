-- The invariant of a depth-first walk, and a lemma for each way a turn can go. The path is st[0..sp], and at[j] counts the links of st[j] that are gone over.
-- A link that was gone over leads to a finished cell, or else, once a cycle was met, to one still on the path. So while none was met every path from a finished cell ends, and when the path is empty the finished cells are closed under links.
use Rattle.std.proofs.Common.{◌≡◌, refl, sym, ap, subst, ◌∙◌, Bool, true, false, List, ◌⊎◌, inl, inr, ⊎_elim, ℕ, zero, suc, ◌+◌, ◌-◌, ◌<◌, ◌≤◌, arith, length, get_or, set, length-set, get_or-set_same, get_or-set_other}
use Rattle.std.proofs.lemmas.Bool.{false≢true}
use Rattle.std.proofs.Math.Decide.{ℕ_discrete}
use Rattle.store.specs.Store.{limit, WellFormed}
use Rattle.cycle.specs.declared.Colour.{Colour}
use Rattle.cycle.specs.declared.Colour.TheVariants.{White, Grey, Black}
use Rattle.cycle.specs.Graph.{Reaches, here, over, Returns, Accessible, acc, join, one, spread}
use Rattle.cycle.specs.Links.{links, link, Link, link_used}
use Rattle.cycle.specs.Tables.{colour, Done, Tables, Walked}
use Rattle.cycle.proofs.Count.{whites, whites_all, whites_le, whites_lt}

-- the colour x of a cell that a link was gone over to
pub data Past (met : Bool) (x : Colour) : Type 0 where
  done : x ≡ Black → Past met x
  back : x ≡ Grey → met ≡ true → Past met x

past_met : {met : Bool} {x : Colour} → Past met x → Past true x
past_met (done e) = done e
past_met (back e m) = back e refl

past_done : {met : Bool} {x : Colour} → met ≡ false → Past met x → x ≡ Black
past_done f (done e) = e
past_done f (back e m) = absurd (false≢true (sym f ∙ m))

module _ {met : Bool} (col : List Colour) (c d : ℕ) where
  past_push : colour col c ≡ White → Past met (colour col d) → Past met (colour (set col c Grey) d)
  past_push e (done x) = done (get_or-set_other col c d Grey White (λ z. cc) ∙ x)
  past_push e (back x m) = back (get_or-set_other col c d Grey White (λ z. cc) ∙ x) m

  past_pop : c < length col → Past met (colour col d) → Past met (colour (set col c Black) d)
  past_pop h p = elim (ℕ_discrete d c) [ yes z ↦ done (rw z (get_or-set_same col c Black White h)) | no z ↦ rw (get_or-set_other col c d Black White z) p ]

module _ (s : List ℕ) (top n root : ℕ) (col₀ : List Colour) where
  pub record Walking (col : List Colour) (st at : List ℕ) (sp : ℕ) (met : Bool) : Type 0 where
    -- the tables have n entries
    pub enough : top ≤ n
    pub few : n ≤ limit
    pub col_long : length col ≡ n
    pub st_long : length st ≡ n
    pub at_long : length at ≡ n
    -- the path: used cells that the root reaches, each by a link of the one before
    pub used : (j : ℕ) → j < sp → (1 ≤ get_or st j 0) × (get_or st j 0 < top)
    pub reach : (j : ℕ) → j < sp → Reaches (Link s) root (get_or st j 0)
    pub path : (j : ℕ) → suc j < sp → Link s (get_or st j 0) (get_or st (suc j) 0)
    pub gone : (j : ℕ) → j < sp → (k : ℕ) → k < get_or at j 0 → Past met (colour col (link s (get_or st j 0) k))
    -- cells on the path are met, and are those that are Grey
    pub met_all : (j : ℕ) → j < sp → colour col (get_or st j 0) ≡ White → ⊥
    pub grey : (c : ℕ) → colour col c ≡ Grey → (j : ℕ) × (j < sp) × (get_or st j 0 ≡ c)
    pub room : sp + whites col ≤ n
    pub started : colour col root ≡ White → ⊥
    -- finished cells
    pub only : (c : ℕ) → Done col c → Done col₀ c ⊎ Reaches (Link s) root c
    pub closed : (c k : ℕ) → Done col c → k < links s c → Past met (colour col (link s c k))
    -- the answer
    pub yes_cyclic : met ≡ true → Returns (Link s) root
    pub no_straight : met ≡ false → ((c : ℕ) → Done col₀ c → Accessible (Link s) c) → (c : ℕ) → Done col c → Accessible (Link s) c

-- ---- the first cell on the path
-- tables of n entries, enough for the used cells
pub record Sized (top n : ℕ) (col : List Colour) : Type 0 where
  pub enough : top ≤ n
  pub few : n ≤ limit
  pub col_long : length col ≡ n

module _ {s : List ℕ} {top n : ℕ} {col : List Colour} (t : Tables s col) (size : Sized top n col) (root : ℕ) (b : root < top) (white : colour col root ≡ White) where
  grey_root : colour (set col root Grey) root ≡ Grey
  grey_root = let l = size.col_long in let en = size.enough in get_or-set_same col root Grey White (omega arith)

  -- the same cells are finished
  was : (c : ℕ) → Done (set col root Grey) c → Done col c
  was c d = elim (ℕ_discrete c root) [ yes e ↦ absurd (let y = sym grey_root ∙ rw e at d in cc) | no e ↦ sym (get_or-set_other col root c Grey White e) ∙ d ]

  still : (c : ℕ) → Done col c → Done (set col root Grey) c
  still c d = get_or-set_other col root c Grey White (λ e. let y = sym white ∙ rw e at d in cc) ∙ d

  pub begun : (st at : List ℕ) → length st ≡ n → length at ≡ n → 1 ≤ root → Walking s top n root (set col root Grey) (set col root Grey) (set st 0 root) (set at 0 0) 1 false
  begun st at ls la l =
      let en = size.enough in
      let lc = size.col_long in
      let first : get_or (set st 0 root) 0 0 ≡ root = get_or-set_same st 0 root 0 (omega arith) in
      let other : (c : ℕ) → (c ≡ root → ⊥) → colour (set col root Grey) c ≡ colour col c = λ c n. get_or-set_other col root c Grey White n in
      record {
        enough = size.enough;
        few = size.few;
        col_long = length-set col root Grey ∙ lc;
        st_long = length-set st 0 root ∙ ls;
        at_long = length-set at 0 0 ∙ la;
        used = λ j q. let z : j ≡ 0 = omega arith in rw (z, first) (l, b);
        reach = λ j q. let z : j ≡ 0 = omega arith in rw (z, first) here;
        path = λ j q. absurd (omega arith);
        gone = λ j q k m. absurd (let z : j ≡ 0 = omega arith in let y : k < 0 = rw (z, get_or-set_same at 0 0 0 (omega arith)) at m in omega arith);
        met_all = λ j q e. let z : j ≡ 0 = omega arith in let y : colour (set col root Grey) root ≡ White = rw (z, first) at e in let x = sym grey_root ∙ y in cc;
        grey = λ c g. elim (ℕ_discrete c root) [ yes e ↦ (0, omega arith, first ∙ sym e) | no e ↦ absurd (no_grey c (t.colours c) (sym (other c e) ∙ g)) ];
        room = omega (arith, whites_lt col root (omega arith) white, whites_all col);
        started = λ g. let z = sym grey_root ∙ g in cc;
        only = λ c d. inl d;
        closed = λ c k d q. done (still (link s c k) (t.closed c (link s c k) (was c d) (k, q, refl)));
        yes_cyclic = λ e. absurd (false≢true e);
        no_straight = λ _ a. a;
      }
    where
      no_grey : (c : ℕ) → (colour col c ≡ White) ⊎ Done col c → colour col c ≡ Grey → ⊥
      no_grey c (inl e) g = cc
      no_grey c (inr e) g = cc

  -- what was done since is what was done from the start
  pub from_start : {col' : List Colour} {met : Bool} → Walked s root (set col root Grey) col' met → Walked s root col col' met
  from_start w = record {
    tables = w.tables;
    reached = w.reached;
    only = λ c d. ⊎_elim (λ e. inl (was c e)) inr (w.only c d);
    yes_cyclic = w.yes_cyclic;
    no_straight = λ m a. w.no_straight m (λ c d. a c (was c d));
  }

-- ---- a turn
-- the last of the first n entries: `tip st sp` is the last cell of the path, and `tip at sp` the number of its next link
abbrev pub tip : List ℕ → ℕ → ℕ
tip l n = get_or l (n - 1) 0

pub record Turn (s : List ℕ) (top n root : ℕ) (col₀ col : List Colour) (st at : List ℕ) (sp : ℕ) (met : Bool) : Type 0 where
  pub formed : WellFormed s top
  pub walking : Walking s top n root col₀ col st at sp met
  pub some : 0 < sp

-- the last cell is used
pub record Last (top n : ℕ) (st : List ℕ) (sp : ℕ) : Type 0 where
  pub from : 1 ≤ tip st sp
  pub below : tip st sp < top
  pub placed : sp ≤ n
  pub limited : top ≤ n

module _ {s : List ℕ} {top n root : ℕ} {col₀ col : List Colour} {st at : List ℕ} {sp : ℕ} {met : Bool} (t : Turn s top n root col₀ col st at sp met) where
  pub last : Last top n st sp
  last =
      let w = t.walking in
      let h = t.some in
      let u = w.used (sp - 1) (omega arith) in
      let rm = w.room in
      record {
        from = u.0;
        below = u.1;
        placed = omega arith;
        limited = w.enough;
      }

-- ---- the next link of the last cell is taken, to c
pub record Taken (s : List ℕ) (top n root : ℕ) (col₀ col : List Colour) (st at : List ℕ) (sp : ℕ) (met : Bool) (c : ℕ) : Type 0 where
  pub turn : Turn s top n root col₀ col st at sp met
  pub one_of : tip at sp < links s (tip st sp)
  pub leads : c ≡ link s (tip st sp) (tip at sp)

module _ {s : List ℕ} {top n root : ℕ} {col₀ col : List Colour} {st at : List ℕ} {sp : ℕ} {met : Bool} {c : ℕ} (t : Taken s top n root col₀ col st at sp met c) where
  to : Link s (tip st sp) c
  to = subst (Link s (tip st sp)) (sym t.leads) (tip at sp, t.one_of, refl)

  -- each cell on the path reaches the last
  down : (n i : ℕ) → i + n ≡ sp - 1 → Reaches (Link s) (get_or st i 0) (tip st sp)
  down zero i e = let z : i ≡ sp - 1 = omega arith in rw z here
  down (suc n) i e = over (t.turn.walking.path i (omega arith)) (down n (suc i) (omega arith))

  -- so a link back to the path closes a cycle
  cycle : colour col c ≡ Grey → Returns (Link s) root
  cycle g =
      let w = t.turn.walking in
      let h = t.turn.some in
      let p = w.grey c g in
      let l = p.1 in
      let r : Reaches (Link s) c (tip st sp) = subst (λ (x : ℕ). Reaches (Link s) x (tip st sp)) p.2 (down (sp - 1 - p.0) p.0 (omega arith)) in
      (tip st sp, c, w.reach (sp - 1) (omega arith), to, r)

  -- one link more is gone over
  gone_over : (met' : Bool) → ((x : Colour) → Past met x → Past met' x) → Past met' (colour col c) → (met' ≡ true → Returns (Link s) root) → (met' ≡ false → met ≡ false)
      → Walking s top n root col₀ col st (set at (sp - 1) (tip at sp + 1)) sp met'
  gone_over met' up a y n =
      let w = t.turn.walking in
      let h = t.turn.some in
      let e = t.one_of in
      let la = w.at_long in
      let rm = w.room in
      let same : get_or (set at (sp - 1) (tip at sp + 1)) (sp - 1) 0 ≡ tip at sp + 1 = get_or-set_same at (sp - 1) (tip at sp + 1) 0 (omega arith) in
      let other : (i : ℕ) → (i ≡ sp - 1 → ⊥) → get_or (set at (sp - 1) (tip at sp + 1)) i 0 ≡ get_or at i 0 = λ i d. get_or-set_other at (sp - 1) i (tip at sp + 1) 0 d in
      record {
        enough = w.enough;
        few = w.few;
        col_long = w.col_long;
        st_long = w.st_long;
        at_long = length-set at (sp - 1) (tip at sp + 1) ∙ la;
        used = w.used;
        reach = w.reach;
        path = w.path;
        gone = λ i q m b. elim (ℕ_discrete i (sp - 1)) [ yes z ↦ at_last i z m b same | no z ↦ up _ (w.gone i q m (rw (other i z) at b)) ];
        met_all = w.met_all;
        grey = w.grey;
        room = w.room;
        started = w.started;
        only = w.only;
        closed = λ c m d q. up _ (w.closed c m d q);
        yes_cyclic = y;
        no_straight = λ e. w.no_straight (n e);
      }
    where
      at_last : (i : ℕ) → i ≡ sp - 1 → (m : ℕ) → m < get_or (set at (sp - 1) (tip at sp + 1)) i 0 → get_or (set at (sp - 1) (tip at sp + 1)) (sp - 1) 0 ≡ tip at sp + 1 → Past met' (colour col (link s (get_or st i 0) m))
      at_last i z m b n =
          let h = t.turn.some in
          let b' : m < get_or (set at (sp - 1) (tip at sp + 1)) (sp - 1) 0 = rw z at b in
          elim (ℕ_discrete m (tip at sp)) [
            | yes y ↦ rw (z, y) (subst (λ (x : ℕ). Past met' (colour col x)) t.leads a)
            | no y ↦ rw z (up _ (t.turn.walking.gone (sp - 1) (omega arith) m (omega arith)))
          ]

  -- to a finished cell
  pub passed : Done col c → Walking s top n root col₀ col st (set at (sp - 1) (tip at sp + 1)) sp met
  passed d = gone_over met (λ x p. p) (done d) t.turn.walking.yes_cyclic (λ e. e)

  -- to a cell on the path
  pub turned : colour col c ≡ Grey → Walking s top n root col₀ col st (set at (sp - 1) (tip at sp + 1)) sp true
  turned g = gone_over true (λ x. past_met) (back g refl) (λ _. cycle g) (λ e. absurd (false≢true (sym e)))

  -- to a cell not met before, which becomes the last of the path
  pub landed : (1 ≤ c) × (c < top)
  landed = let l = last t.turn in rw t.leads (link_used s top t.turn.formed (tip st sp) l.from l.below (tip at sp) t.one_of)

  module _ (white : colour col c ≡ White) where
    pub room_for : sp < n
    room_for =
        let w = t.turn.walking in
        let lc = w.col_long in
        let rm = w.room in
        let l = last t.turn in
        let u = landed in
        omega (arith, whites_lt col c (omega arith) white)

    pub pushed : Walking s top n root col₀ (set col c Grey) (set st sp c) (set at sp 0) (sp + 1) met
    pushed =
        let w = t.turn.walking in
        let h = t.turn.some in
        let lc = w.col_long in
        let ls = w.st_long in
        let la = w.at_long in
        let rm = w.room in
        let b = w.enough in
        let u = landed in
        let ww = whites_lt col c (omega arith) white in
        let new : get_or (set st sp c) sp 0 ≡ c = get_or-set_same st sp c 0 (omega arith) in
        let old : (i : ℕ) → i < sp → get_or (set st sp c) i 0 ≡ get_or st i 0 = λ i q. get_or-set_other st sp i c 0 (λ z. omega arith) in
        let grey : colour (set col c Grey) c ≡ Grey = get_or-set_same col c Grey White (omega arith) in
        let other : (d : ℕ) → (d ≡ c → ⊥) → colour (set col c Grey) d ≡ colour col d = λ d n. get_or-set_other col c d Grey White n in
        let was : (d : ℕ) → Done (set col c Grey) d → Done col d = λ d x. elim (ℕ_discrete d c) [ yes z ↦ absurd (let y = sym grey ∙ rw z at x in cc) | no z ↦ sym (other d z) ∙ x ] in
        let still_met : (d : ℕ) → (colour col d ≡ White → ⊥) → colour (set col c Grey) d ≡ White → ⊥ = λ d n e. elim (ℕ_discrete d c) [ yes z ↦ (let y = sym grey ∙ rw z at e in cc) | no z ↦ n (sym (other d z) ∙ e) ] in
        let still : (d : ℕ) → Done col d → Done (set col c Grey) d = λ d x. other d (λ z. let y = sym white ∙ rw z at x in cc) ∙ x in
        record {
          enough = w.enough;
          few = w.few;
          col_long = length-set col c Grey ∙ lc;
          st_long = length-set st sp c ∙ ls;
          at_long = length-set at sp 0 ∙ la;
          used = λ i q. elim (ℕ_discrete i sp) [ yes z ↦ rw (z, new) u | no z ↦ rw (old i (omega arith)) (w.used i (omega arith)) ];
          reach = λ i q. elim (ℕ_discrete i sp) [ yes z ↦ rw (z, new) (join (w.reach (sp - 1) (omega arith)) (one to)) | no z ↦ rw (old i (omega arith)) (w.reach i (omega arith)) ];
          path = λ i q. elim (ℕ_discrete i (sp - 1)) [ yes z ↦ path_new i z h new (old i (omega arith)) | no z ↦ rw (old i (omega arith), old (suc i) (omega arith)) (w.path i (omega arith)) ];
          gone = λ i q k m. elim (ℕ_discrete i sp) [ yes z ↦ absurd (let y : k < 0 = rw (z, get_or-set_same at sp 0 0 (omega arith)) at m in omega arith) | no z ↦ rw (old i (omega arith)) (past_push col c _ white (w.gone i (omega arith) k (rw (get_or-set_other at sp i 0 0 z) at m))) ];
          met_all = λ i q e. elim (ℕ_discrete i sp) [ yes z ↦ (let y : colour (set col c Grey) c ≡ White = rw (z, new) at e in let x = sym grey ∙ y in cc) | no z ↦ still_met (get_or st i 0) (w.met_all i (omega arith)) (rw (old i (omega arith)) at e) ];
          grey = λ d y. elim (ℕ_discrete d c) [ yes z ↦ (sp, omega arith, new ∙ sym z) | no z ↦ keep d (w.grey d (sym (other d z) ∙ y)) old ];
          room = omega arith;
          started = λ y. elim (ℕ_discrete root c) [ yes z ↦ (let x = sym grey ∙ rw z at y in cc) | no z ↦ w.started (sym (other root z) ∙ y) ];
          only = λ d x. w.only d (was d x);
          closed = λ d k x q. past_push col c (link s d k) white (w.closed d k (was d x) q);
          yes_cyclic = w.yes_cyclic;
          no_straight = λ m a d x. w.no_straight m a d (was d x);
        }
      where
        path_new : (i : ℕ) → i ≡ sp - 1 → 0 < sp → get_or (set st sp c) sp 0 ≡ c → get_or (set st sp c) i 0 ≡ get_or st i 0 → Link s (get_or (set st sp c) i 0) (get_or (set st sp c) (suc i) 0)
        path_new i z h n o = let y : suc i ≡ sp = omega arith in rw (o, y, n, z) to

        keep : (d : ℕ) → (i : ℕ) × (i < sp) × (get_or st i 0 ≡ d) → ((i : ℕ) → i < sp → get_or (set st sp c) i 0 ≡ get_or st i 0) → (i : ℕ) × (i < sp + 1) × (get_or (set st sp c) i 0 ≡ d)
        keep d (i, q, x) old = (i, omega arith, old i q ∙ x)

-- ---- the last cell is finished: no link of it is left
module _ {s : List ℕ} {top n root : ℕ} {col₀ col : List Colour} {st at : List ℕ} {sp : ℕ} {met : Bool} (t : Turn s top n root col₀ col st at sp met) where
  all_past : links s (tip st sp) ≤ tip at sp → (k : ℕ) → k < links s (tip st sp) → Past met (colour col (link s (tip st sp) k))
  all_past h k d = let n = t.some in t.walking.gone (sp - 1) (omega arith) k (omega arith)

  pub popped : links s (tip st sp) ≤ tip at sp → Walking s top n root col₀ (set col (tip st sp) Black) st at (sp - 1) met
  popped h =
      let w = t.walking in
      let n = t.some in
      let l = last t in
      let i = tip st sp in
      let all = all_past h in
      let lc = w.col_long in
      let rm = w.room in
      let wl = whites_le col i (omega arith) in
      let same : colour (set col i Black) i ≡ Black = get_or-set_same col i Black White (omega arith) in
      let other : (c : ℕ) → (c ≡ i → ⊥) → colour (set col i Black) c ≡ colour col c = λ c n. get_or-set_other col i c Black White n in
      let still : (c : ℕ) → Done col c → Done (set col i Black) c = λ c d. elim (ℕ_discrete c i) [ yes z ↦ rw z same | no z ↦ other c z ∙ d ] in
      record {
        enough = w.enough;
        few = w.few;
        col_long = length-set col i Black ∙ lc;
        st_long = w.st_long;
        at_long = w.at_long;
        used = λ m q. w.used m (omega arith);
        reach = λ m q. w.reach m (omega arith);
        path = λ m q. w.path m (omega arith);
        gone = λ m q k g. past_pop col i _ (omega arith) (w.gone m (omega arith) k g);
        met_all = λ m q e. elim (ℕ_discrete (get_or st m 0) i) [ yes z ↦ (let x = sym same ∙ rw z at e in cc) | no z ↦ w.met_all m (omega arith) (sym (other (get_or st m 0) z) ∙ e) ];
        grey = λ c g. elim (ℕ_discrete c i) [ yes z ↦ absurd (let x = sym same ∙ rw z at g in cc) | no z ↦ keep c z (w.grey c (sym (other c z) ∙ g)) ];
        room = omega arith;
        started = λ g. elim (ℕ_discrete root i) [ yes z ↦ (let x = sym same ∙ rw z at g in cc) | no z ↦ w.started (sym (other root z) ∙ g) ];
        only = λ c d. elim (ℕ_discrete c i) [ yes z ↦ inr (rw z (w.reach (sp - 1) (omega arith))) | no z ↦ w.only c (sym (other c z) ∙ d) ];
        closed = λ c k d q. past_pop col i (link s c k) (omega arith) (elim (ℕ_discrete c i) [ yes z ↦ rw z (all k (rw z at q)) | no z ↦ w.closed c k (sym (other c z) ∙ d) q ]);
        yes_cyclic = w.yes_cyclic;
        no_straight = λ m a c d. elim (ℕ_discrete c i) [
          | yes z ↦ rw z (acc (λ j (k, q, e). rw e (w.no_straight m a (link s i k) (past_done m (all k q)))))
          | no z ↦ w.no_straight m a c (sym (other c z) ∙ d)
        ];
      }
    where
      keep : (c : ℕ) → (c ≡ tip st sp → ⊥) → (i : ℕ) × (i < sp) × (get_or st i 0 ≡ c) → (i : ℕ) × (i < sp - 1) × (get_or st i 0 ≡ c)
      keep c n (i, q, x) = elim (ℕ_discrete i (sp - 1)) [ yes y ↦ absurd (n (sym x ∙ ap (λ (m : ℕ). get_or st m 0) y)) | no y ↦ (i, omega arith, x) ]

-- ---- nothing is left on the path
module _ {s : List ℕ} {top n root : ℕ} {col₀ col : List Colour} {st at : List ℕ} {sp : ℕ} {met : Bool} (w : Walking s top n root col₀ col st at sp met) (empty : sp ≡ 0) where
  none_on : (c : ℕ) → colour col c ≡ Grey → ⊥
  none_on c g = let p = w.grey c g in let q = p.1 in omega arith

  past : (x : ℕ) → Past met (colour col x) → Done col x
  past x (done e) = e
  past x (back e m) = absurd (none_on x e)

  over_links : (i j : ℕ) → Done col i → Link s i j → Done col j
  over_links i j d (k, q, e) = rw e (past (link s i k) (w.closed i k d q))

  pub finished : Walked s root col₀ col met
  finished = record {
    tables = record {
      colours = λ c. by (colour col c) c refl;
      closed = over_links;
    };
    reached = λ c r. spread (Done col) r over_links (two root w.started);
    only = w.only;
    yes_cyclic = w.yes_cyclic;
    no_straight = w.no_straight;
  }
    where
      by : (k : Colour) (c : ℕ) → colour col c ≡ k → (colour col c ≡ White) ⊎ Done col c
      by White c e = inl e
      by Grey c e = absurd (none_on c e)
      by Black c e = inr e

      two : (c : ℕ) → (colour col c ≡ White → ⊥) → Done col c
      two c z = ⊎_elim (λ e. absurd (z e)) (λ d. d) (by (colour col c) c refl)

-- ---- a root that was finished before is not walked again
pub walked_before : {s : List ℕ} {col : List Colour} (root : ℕ) → Tables s col → (colour col root ≡ White → ⊥) → Walked s root col col false
walked_before {s} {col = col} root t n = record {
  tables = t;
  reached = λ c r. spread (Done col) r t.closed (⊎_elim (λ e. absurd (n e)) (λ d. d) (t.colours root));
  only = λ c d. inl d;
  yes_cyclic = λ e. absurd (false≢true e);
  no_straight = λ _ a. a;
}
