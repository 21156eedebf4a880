-- What holds while the new cells are scanned.
use Rattle.std.specs.Prelude.{◌≡◌, refl, true, List, ◌⊎◌, ℕ, ◌+◌, ◌-◌, ◌<◌, ◌≤◌, length, get_or, set}
use Rattle.std.proofs.Common.{sym, subst, ◌∙◌, inl, inr, arith, length-set, get_or-set_same, get_or-set_other}
use Rattle.std.proofs.Math.Path.{ap}
use Rattle.std.proofs.Math.Decide.{ℕ_discrete, dec_lt}
use Rattle.cell.specs.Kinds.{kind_of, word_of_kind}
use Rattle.cell.specs.declared.Kind.{Kind}
use Rattle.cell.specs.declared.Kind.TheVariants.{Var, Str, Lis, Atom, Fixnum, Bad}
use Rattle.store.specs.Store.{limit, kind_at, term_at, WellFormed}
use Rattle.store.specs.Steps.{term_used}
use Rattle.cycle.specs.Kids.{arity_at}
use Rattle.cycle.specs.Room.{str_reached, lis_reached, room_of}
use Rattle.cycle.specs.Reached.{StrReached, LisReached, str_true, lis_true}
use Rattle.copy.specs.Rules.{end_word, copy_run}
use Rattle.copy.specs.Tally.{noted, tally, noted_is, tally_str, tally_lis, room_le}
use Rattle.copy.specs.Runs.{run_length, run_before, run_after, run_at}

-- what the call knows past its refusals
pub record Given (s : List ℕ) (top root : ℕ) : Type 0 where
  pub wf : WellFormed s top
  pub term : term_at s top root ≡ true
  pub fits : top + room_of s top root ≤ length s
  pub lim : top + room_of s top root ≤ limit

module _ (s : List ℕ) (top root : ℕ) where
  -- the run of n cells at b has its copy at g
  abbrev pub Run : List ℕ → ℕ → ℕ → ℕ → Type 0
  Run tables b g n = (b < top) × (g ≡ 0 → ⊥) × (((get_or tables b 0 ≡ g) × (n ≡ 1 + arity_at s b)) ⊎ ((get_or tables (top + b) 0 ≡ g) × (n ≡ 2)))

  -- the new cell q is a copy of the old cell x
  abbrev pub From : List ℕ → ℕ → ℕ → Type 0
  From tables q x = ((q ≡ top) × (x ≡ root)) ⊎ ((b : ℕ) × (g : ℕ) × (n : ℕ) × (k : ℕ) × (_ : Run tables b g n) × (k < n) × (q ≡ g + k) × (x ≡ b + k))

  -- a new word stands for the word e where an old cell ends
  unfoldable pub Match : List ℕ → ℕ → ℕ → Kind → Type 0
  Match tables w e (Var v) = (v < top) × (get_or tables (top + top + v) 0 ≡ 0 → ⊥) × (w ≡ word_of_kind (Var (get_or tables (top + top + v) 0)))
  Match tables w e (Str f) = (f < top) × (get_or tables f 0 ≡ 0 → ⊥) × (w ≡ word_of_kind (Str (get_or tables f 0)))
  Match tables w e (Lis l) = (l < top) × (get_or tables (top + l) 0 ≡ 0 → ⊥) × (w ≡ word_of_kind (Lis (get_or tables (top + l) 0)))
  Match tables w e (Atom n a) = w ≡ e
  Match tables w e (Fixnum z) = w ≡ e
  Match tables w e Bad = ⊥

  -- the word where following the old cell x ends
  abbrev pub End : ℕ → ℕ
  End x = end_word s top (get_or s x 0)

  -- a new word stands for where the old cell x ends
  abbrev pub Matches : List ℕ → ℕ → ℕ → Type 0
  Matches tables w x = Match tables w (End x) (kind_of (End x))

  -- the new cells from p to `end` are still to be scanned
  pub record Inv (cells tables : List ℕ) (end p : ℕ) : Type 0 where
    -- the old cells are as they were
    pub agree : (j : ℕ) → j < top → get_or cells j 0 ≡ get_or s j 0
    pub long : length cells ≡ length s
    -- the tables fit
    pub wide : top + top + top ≤ length tables
    -- p is the next new cell to scan
    pub above : top ≤ p
    pub bound : p ≤ end
    pub low : top < end
    -- a run that is noted has its copy among the new cells
    pub run : (b g n : ℕ) → Run tables b g n → (1 ≤ b) × (b + n ≤ top) × (top < g) × (g + n ≤ end)
    -- two runs have copies apart from each other
    pub apart : (b g n b' g' n' : ℕ) → Run tables b g n → Run tables b' g' n' → ((b ≡ b') × (n ≡ n')) ⊎ ((g + n ≤ g') ⊎ (g' + n' ≤ g))
    -- only structures and pairs that the root reaches are noted
    pub str_reached_lem : (f : ℕ) → f < top → (get_or tables f 0 ≡ 0 → ⊥) → StrReached s root f
    pub lis_reached_lem : (l : ℕ) → l < top → (get_or tables (top + l) 0 ≡ 0 → ⊥) → LisReached s root l
    -- a new cell that is not scanned yet has the word of the old cell that it is a copy of
    pub raw : (q x : ℕ) → From tables q x → p ≤ q → get_or cells q 0 ≡ get_or s x 0
    -- a scanned one stands for where that cell ends
    pub done : (q x : ℕ) → From tables q x → q < p → Matches tables (get_or cells q 0) x
    -- the home of a variable is a scanned cell, and unbound
    pub homes : (v : ℕ) → v < top → (get_or tables (top + top + v) 0 ≡ 0 → ⊥) → (top ≤ get_or tables (top + top + v) 0) × (get_or tables (top + top + v) 0 < p) × (get_or cells (get_or tables (top + top + v) 0) 0 ≡ word_of_kind (Var (get_or tables (top + top + v) 0))) × (kind_at s v ≡ Var v)
    -- no two variables share one
    pub single : (v u : ℕ) → v < top → u < top → (get_or tables (top + top + v) 0 ≡ 0 → ⊥) → get_or tables (top + top + v) 0 ≡ get_or tables (top + top + u) 0 → v ≡ u
    -- each new cell is a copy
    pub cover : (q : ℕ) → top ≤ q → q < end → (x : ℕ) × From tables q x
    -- the rest is 0
    pub rest : (j : ℕ) → end ≤ j → get_or cells j 0 ≡ 0
    -- the count of cells is the room of what is noted
    pub count : end ≡ top + tally s top tables

  -- an entry of a table, once made, stays
  abbrev pub Grow : List ℕ → List ℕ → Type 0
  Grow tables tables' = (i : ℕ) → (get_or tables i 0 ≡ 0 → ⊥) → get_or tables' i 0 ≡ get_or tables i 0

  keep_nz : (a b : ℕ) → b ≡ a → (a ≡ 0 → ⊥) → b ≡ 0 → ⊥
  keep_nz a b e n z = n (sym e ∙ z)

  pub match_grow : (tables tables' : List ℕ) → Grow tables tables' → (w e : ℕ) (k : Kind) → Match tables w e k → Match tables' w e k
  unfolding Match
  match_grow tables tables' g w e (Var v) (l, n, h) = let y = g (top + top + v) n in (l, keep_nz _ _ y n, h ∙ ap (λ (x : ℕ). word_of_kind (Var x)) (sym y))
  match_grow tables tables' g w e (Str f) (l, n, h) = let y = g f n in (l, keep_nz _ _ y n, h ∙ ap (λ (x : ℕ). word_of_kind (Str x)) (sym y))
  match_grow tables tables' g w e (Lis m) (l, n, h) = let y = g (top + m) n in (l, keep_nz _ _ y n, h ∙ ap (λ (x : ℕ). word_of_kind (Lis x)) (sym y))
  match_grow tables tables' g w e (Atom n a) h = h
  match_grow tables tables' g w e (Fixnum z) h = h
  match_grow tables tables' g w e Bad h = h

  -- there is room for what the tables stand for
  pub fits_in : Given s top root → (tables : List ℕ) → ((f : ℕ) → f < top → (get_or tables f 0 ≡ 0 → ⊥) → StrReached s root f) → ((l : ℕ) → l < top → (get_or tables (top + l) 0 ≡ 0 → ⊥) → LisReached s root l) → tally s top tables ≤ room_of s top root
  unfolding room_of
  fits_in gv tables f g =
      let u = term_used s top root gv.term in
      room_le s top (noted tables) (λ l. noted tables (top + l)) (str_reached s top root) (lis_reached s top root)
      (λ i a b n. str_true s top gv.wf root u.0 u.1 i (f i b (noted_is tables i n)))
      (λ i a b n. lis_true s top gv.wf root u.0 u.1 i (g i b (noted_is tables (top + i) n)))

  -- ---- a cell is scanned
  module _ (cells tables : List ℕ) (end p : ℕ) (I : Inv cells tables end p) (h : p < end) (le : end ≤ length s) (w : ℕ) (tables' : List ℕ) where
    module _ (wide' : length tables' ≡ length tables) (runs : (b g n : ℕ) → Run tables' b g n → Run tables b g n) (grow : Grow tables tables') (same : tally s top tables' ≡ tally s top tables)
        (marks : (i : ℕ) → i < top + top → get_or tables' i 0 ≡ get_or tables i 0)
        (v₀ : ℕ) (match : (x : ℕ) → From tables p x → Matches tables' w x)
        (new : (v : ℕ) → v < top → (get_or tables' (top + top + v) 0 ≡ 0 → ⊥) → (get_or tables (top + top + v) 0 ≡ 0 → ⊥) ⊎ ((v ≡ v₀) × (get_or tables' (top + top + v) 0 ≡ p) × (w ≡ word_of_kind (Var p)) × (kind_at s v ≡ Var v))) where
      down : (q x : ℕ) → From tables' q x → From tables q x
      down q x (inl e) = inl e
      down q x (inr (b, g, n, k, r, l, e, d)) = inr (b, g, n, k, runs b g n r, l, e, d)

      up : (q x : ℕ) → From tables q x → From tables' q x
      up q x (inl e) = inl e
      up q x (inr (b, g, n, k, (l, z, inl (e, m)), i, a, d)) = inr (b, g, n, k, (l, z, inl (marks b (omega arith) ∙ e, m)), i, a, d)
      up q x (inr (b, g, n, k, (l, z, inr (e, m)), i, a, d)) = inr (b, g, n, k, (l, z, inr (marks (top + b) (omega arith) ∙ e, m)), i, a, d)

      off : (j : ℕ) → (j ≡ p → ⊥) → get_or (set cells p w) j 0 ≡ get_or cells j 0
      off j n = get_or-set_other cells p j w 0 n

      on : get_or (set cells p w) p 0 ≡ w
      on = let l = I.long in get_or-set_same cells p w 0 (omega arith)

      old_home : (v : ℕ) → (get_or tables (top + top + v) 0 ≡ 0 → ⊥) → v < top → (top ≤ get_or tables' (top + top + v) 0) × (get_or tables' (top + top + v) 0 < p) × (get_or (set cells p w) (get_or tables' (top + top + v) 0) 0 ≡ word_of_kind (Var (get_or tables' (top + top + v) 0))) × (kind_at s v ≡ Var v)
      old_home v n l =
          let o = I.homes v l n in
          let b = o.1 in
          rw (grow (top + top + v) n) (o.0, o.1, off (get_or tables (top + top + v) 0) (λ z. omega arith) ∙ o.2, o.3)

      homes' : (v : ℕ) → v < top → (get_or tables' (top + top + v) 0 ≡ 0 → ⊥) → (top ≤ get_or tables' (top + top + v) 0) × (get_or tables' (top + top + v) 0 < p + 1) × (get_or (set cells p w) (get_or tables' (top + top + v) 0) 0 ≡ word_of_kind (Var (get_or tables' (top + top + v) 0))) × (kind_at s v ≡ Var v)
      homes' v l n = go (new v l n)
        where
          go : (get_or tables (top + top + v) 0 ≡ 0 → ⊥) ⊎ ((v ≡ v₀) × (get_or tables' (top + top + v) 0 ≡ p) × (w ≡ word_of_kind (Var p)) × (kind_at s v ≡ Var v)) → (top ≤ get_or tables' (top + top + v) 0) × (get_or tables' (top + top + v) 0 < p + 1) × (get_or (set cells p w) (get_or tables' (top + top + v) 0) 0 ≡ word_of_kind (Var (get_or tables' (top + top + v) 0))) × (kind_at s v ≡ Var v)
          go (inl o) = let q = old_home v o l in let b = q.1 in (q.0, omega arith, q.2, q.3)
          go (inr (e, a, d, t)) = let ab = I.above in rw a (ab, omega arith, on ∙ d, t)

      single' : (v u : ℕ) → v < top → u < top → (get_or tables' (top + top + v) 0 ≡ 0 → ⊥) → get_or tables' (top + top + v) 0 ≡ get_or tables' (top + top + u) 0 → v ≡ u
      single' v u l m n e = go (new v l n) (new u m (λ z. n (e ∙ z)))
        where
          go : (get_or tables (top + top + v) 0 ≡ 0 → ⊥) ⊎ ((v ≡ v₀) × (get_or tables' (top + top + v) 0 ≡ p) × (w ≡ word_of_kind (Var p)) × (kind_at s v ≡ Var v)) → (get_or tables (top + top + u) 0 ≡ 0 → ⊥) ⊎ ((u ≡ v₀) × (get_or tables' (top + top + u) 0 ≡ p) × (w ≡ word_of_kind (Var p)) × (kind_at s u ≡ Var u)) → v ≡ u
          go (inl o) (inl r) = I.single v u l m o (sym (grow (top + top + v) o) ∙ e ∙ grow (top + top + u) r)
          go (inl o) (inr (a, b, d, t)) = absurd (let q = old_home v o l in let c = q.1 in omega arith)
          go (inr (a, b, d, t)) (inl r) = absurd (let q = old_home u r m in let c = q.1 in omega arith)
          go (inr (a, b, d, t)) (inr (a', b', d', t')) = a ∙ sym a'

      pub filled : Inv (set cells p w) tables' end (p + 1)
      filled =
          let lw = I.wide in
          let ab = I.above in
          let lo = I.low in
          record {
            agree = λ j g. off j (λ z. omega arith) ∙ I.agree j g;
            long = length-set cells p w ∙ I.long;
            wide = omega arith;
            above = omega arith;
            bound = omega arith;
            low = I.low;
            run = λ b g n r. I.run b g n (runs b g n r);
            apart = λ b g n b' g' n' r r'. I.apart b g n b' g' n' (runs b g n r) (runs b' g' n' r');
            str_reached_lem = λ f l n. I.str_reached_lem f l (λ z. n (marks f (omega arith) ∙ z));
            lis_reached_lem = λ m l n. I.lis_reached_lem m l (λ z. n (marks (top + m) (omega arith) ∙ z));
            raw = λ q x f g. off q (λ z. omega arith) ∙ I.raw q x (down q x f) (omega arith);
            done = λ q x f g. elim (ℕ_discrete q p) [ yes z ↦ at_p q x z (down q x f) | no z ↦ rw (off q z) (match_grow tables tables' grow (get_or cells q 0) (End x) (kind_of (End x)) (I.done q x (down q x f) (omega arith))) ];
            homes = homes';
            single = single';
            cover = λ q a b. let c = I.cover q a b in (c.0, up q c.0 c.1);
            rest = λ j g. off j (λ z. omega arith) ∙ I.rest j g;
            count = let c = I.count in omega arith;
          }
        where
          at_p : (q x : ℕ) → q ≡ p → From tables q x → Matches tables' (get_or (set cells p w) q 0) x
          at_p q x z f = subst (λ (y : ℕ). Matches tables' y x) (sym (ap (λ (y : ℕ). get_or (set cells p w) y 0) z ∙ on)) (match x (subst (λ (y : ℕ). From tables y x) z f))

  -- ---- a run is added at the end
  -- the run of n cells at b is noted at i: a structure or a pair that the root reaches
  abbrev pub Which : ℕ → ℕ → ℕ → Type 0
  Which i b n = ((i ≡ b) × (n ≡ 1 + arity_at s b) × StrReached s root b) ⊎ ((i ≡ top + b) × (n ≡ 2) × LisReached s root b)

  module _ (cells tables : List ℕ) (end p : ℕ) (I : Inv cells tables end p) (i b n : ℕ) (which : Which i b n) (none : get_or tables i 0 ≡ 0) (l : 1 ≤ b) (u : b + n ≤ top) where
    some : 1 ≤ n
    some = go which
      where
        go : Which i b n → 1 ≤ n
        go (inl (e, d, r)) = omega arith
        go (inr (e, d, r)) = omega arith

    index : i < top + top
    index = go which
      where
        go : Which i b n → i < top + top
        go (inl (e, d, r)) = omega (arith, some)
        go (inr (e, d, r)) = omega (arith, some)

    pub new_at : get_or (set tables i end) i 0 ≡ end
    new_at = let w = I.wide in get_or-set_same tables i end 0 (omega (arith, index))

    off_at : (j : ℕ) → (j ≡ i → ⊥) → get_or (set tables i end) j 0 ≡ get_or tables j 0
    off_at j z = get_or-set_other tables i j end 0 z

    grow : Grow tables (set tables i end)
    grow j n = off_at j (λ z. n (ap (λ (y : ℕ). get_or tables y 0) z ∙ none))

    split : (b' g' n' : ℕ) → Run (set tables i end) b' g' n' → Run tables b' g' n' ⊎ ((b' ≡ b) × (g' ≡ end) × (n' ≡ n))
    split b' g' n' (a, z, inl (e, m)) = elim (ℕ_discrete b' i) [ yes y ↦ inr (here y which) | no y ↦ inl (a, z, inl (sym (off_at b' y) ∙ e, m)) ]
      where
        here : b' ≡ i → Which i b n → (b' ≡ b) × (g' ≡ end) × (n' ≡ n)
        here y (inl (c, d, r)) = (y ∙ c, sym e ∙ ap (λ (x : ℕ). get_or (set tables i end) x 0) y ∙ new_at, m ∙ ap (λ (x : ℕ). 1 + arity_at s x) (y ∙ c) ∙ sym d)
        here y (inr (c, d, r)) = absurd (omega arith)
    split b' g' n' (a, z, inr (e, m)) = elim (ℕ_discrete (top + b') i) [ yes y ↦ inr (here y which) | no y ↦ inl (a, z, inr (sym (off_at (top + b') y) ∙ e, m)) ]
      where
        here : top + b' ≡ i → Which i b n → (b' ≡ b) × (g' ≡ end) × (n' ≡ n)
        here y (inl (c, d, r)) = absurd (omega (arith, some))
        here y (inr (c, d, r)) = (omega arith, sym e ∙ ap (λ (x : ℕ). get_or (set tables i end) x 0) y ∙ new_at, m ∙ sym d)

    from_split : (q x : ℕ) → From (set tables i end) q x → From tables q x ⊎ ((k : ℕ) × (k < n) × (q ≡ end + k) × (x ≡ b + k))
    from_split q x (inl e) = inl (inl e)
    from_split q x (inr (b', g', n', k, r, m, e, d)) = go (split b' g' n' r)
      where
        go : Run tables b' g' n' ⊎ ((b' ≡ b) × (g' ≡ end) × (n' ≡ n)) → From tables q x ⊎ ((k : ℕ) × (k < n) × (q ≡ end + k) × (x ≡ b + k))
        go (inl o) = inl (inr (b', g', n', k, o, m, e, d))
        go (inr (y, z, t)) = inr (k, omega arith, e ∙ ap (λ (v : ℕ). v + k) z, d ∙ ap (λ (v : ℕ). v + k) y)

    from_up : (q x : ℕ) → From tables q x → From (set tables i end) q x
    from_up q x (inl e) = inl e
    from_up q x (inr (b', g', n', k, (a, z, inl (e, m)), c, d, t)) = inr (b', g', n', k, (a, z, inl (grow b' (λ y. z (sym e ∙ y)) ∙ e, m)), c, d, t)
    from_up q x (inr (b', g', n', k, (a, z, inr (e, m)), c, d, t)) = inr (b', g', n', k, (a, z, inr (grow (top + b') (λ y. z (sym e ∙ y)) ∙ e, m)), c, d, t)

    -- the new run itself
    own : Run (set tables i end) b end n
    own = go which
      where
        go : Which i b n → Run (set tables i end) b end n
        go (inl (c, d, r)) = let lo = I.low in (omega (arith, some), (λ z. omega arith), inl (ap (λ (x : ℕ). get_or (set tables i end) x 0) (sym c) ∙ new_at, d))
        go (inr (c, d, r)) = let lo = I.low in (omega (arith, some), (λ z. omega arith), inr (ap (λ (x : ℕ). get_or (set tables i end) x 0) (sym c) ∙ new_at, d))

    below : (q x : ℕ) → From tables q x → q < end
    below q x (inl (e, d)) = let lo = I.low in omega arith
    below q x (inr (b', g', n', k, r, m, e, d)) = let t = I.run b' g' n' r in let y = t.3 in omega arith

    pub before : (j : ℕ) → j < end → get_or (copy_run n cells b end) j 0 ≡ get_or cells j 0
    before j g = run_before n cells b end j g

    pub str_reached' : (f : ℕ) → f < top → (get_or (set tables i end) f 0 ≡ 0 → ⊥) → StrReached s root f
    str_reached' f a z = elim (ℕ_discrete f i) [ yes y ↦ go y which | no y ↦ I.str_reached_lem f a (λ t. z (off_at f y ∙ t)) ]
      where
        go : f ≡ i → Which i b n → StrReached s root f
        go y (inl (c, d, r)) = subst (StrReached s root) (sym (y ∙ c)) r
        go y (inr (c, d, r)) = absurd (omega arith)

    pub lis_reached' : (m : ℕ) → m < top → (get_or (set tables i end) (top + m) 0 ≡ 0 → ⊥) → LisReached s root m
    lis_reached' m a z = elim (ℕ_discrete (top + m) i) [ yes y ↦ go y which | no y ↦ I.lis_reached_lem m a (λ t. z (off_at (top + m) y ∙ t)) ]
      where
        go : top + m ≡ i → Which i b n → LisReached s root m
        go y (inl (c, d, r)) = absurd (omega (arith, some))
        go y (inr (c, d, r)) = let t : b ≡ m = omega arith in subst (LisReached s root) t r

    pub count' : end + n ≡ top + tally s top (set tables i end)
    count' = go which
      where
        go : Which i b n → end + n ≡ top + tally s top (set tables i end)
        go (inl (c, d, r)) =
            let w = I.wide in let lo = I.low in let k = I.count in
            let t = tally_str s top tables b end l (omega (arith, some)) (λ z. omega arith) (omega (arith, some)) (ap (λ (x : ℕ). get_or tables x 0) (sym c) ∙ none) in
            rw c (omega arith)
        go (inr (c, d, r)) =
            let w = I.wide in let lo = I.low in let k = I.count in
            let t = tally_lis s top tables b end l (omega (arith, some)) (λ z. omega arith) (omega (arith, some)) (ap (λ (x : ℕ). get_or tables x 0) (sym c) ∙ none) in
            rw c (omega arith)

    pub grown : end + n ≤ length s → Inv (copy_run n cells b end) (set tables i end) (end + n) p
    grown le =
        let lw = I.wide in
        let lo = I.low in
        let bo = I.bound in
        let ll = I.long in
        let ww = length-set tables i end in
        record {
          agree = λ j g. before j (omega arith) ∙ I.agree j g;
          long = run_length n cells b end ∙ I.long;
          wide = omega arith;
          above = I.above;
          bound = omega arith;
          low = omega arith;
          run = λ b' g' n' r. runs b' g' n' (split b' g' n' r);
          apart = λ b' g' n' b'' g'' n'' r' r''. aparts b' g' n' b'' g'' n'' (split b' g' n' r') (split b'' g'' n'' r'');
          str_reached_lem = str_reached';
          lis_reached_lem = lis_reached';
          raw = λ q x f g. raws q x (from_split q x f) g;
          done = λ q x f g. dones q x (from_split q x f) g;
          homes = λ v a z. home v a (λ t. z (off_home v a ∙ t));
          single = λ v u a c z e. I.single v u a c (λ t. z (off_home v a ∙ t)) (sym (off_home v a) ∙ e ∙ off_home u c);
          cover = λ q a g. elim (dec_lt q end) [ yes y ↦ (let c = I.cover q a y in (c.0, from_up q c.0 c.1)) | no y ↦ (b + (q - end), inr (b, end, n, q - end, own, omega arith, omega arith, refl)) ];
          rest = λ j g. run_after n cells b end j g ∙ I.rest j (omega arith);
          count = count';
        }
      where
        runs : (b' g' n' : ℕ) → Run tables b' g' n' ⊎ ((b' ≡ b) × (g' ≡ end) × (n' ≡ n)) → (1 ≤ b') × (b' + n' ≤ top) × (top < g') × (g' + n' ≤ end + n)
        runs b' g' n' (inl r) = let t = I.run b' g' n' r in let y = t.3 in (t.0, t.1, t.2, omega arith)
        runs b' g' n' (inr (y, z, t)) = let lo = I.low in (omega arith, omega arith, omega arith, omega arith)

        aparts : (b' g' n' b'' g'' n'' : ℕ) → Run tables b' g' n' ⊎ ((b' ≡ b) × (g' ≡ end) × (n' ≡ n)) → Run tables b'' g'' n'' ⊎ ((b'' ≡ b) × (g'' ≡ end) × (n'' ≡ n)) → ((b' ≡ b'') × (n' ≡ n'')) ⊎ ((g' + n' ≤ g'') ⊎ (g'' + n'' ≤ g'))
        aparts b' g' n' b'' g'' n'' (inl r') (inl r'') = I.apart b' g' n' b'' g'' n'' r' r''
        aparts b' g' n' b'' g'' n'' (inl r') (inr (y, z, t)) = inr (inl (let d = (I.run b' g' n' r').3 in omega arith))
        aparts b' g' n' b'' g'' n'' (inr (y, z, t)) (inl r'') = inr (inr (let d = (I.run b'' g'' n'' r'').3 in omega arith))
        aparts b' g' n' b'' g'' n'' (inr (y, z, t)) (inr (y', z', t')) = inl (y ∙ sym y', t ∙ sym t')

        raws : (q x : ℕ) → From tables q x ⊎ ((k : ℕ) × (k < n) × (q ≡ end + k) × (x ≡ b + k)) → p ≤ q → get_or (copy_run n cells b end) q 0 ≡ get_or s x 0
        raws q x (inl f) g = before q (below q x f) ∙ I.raw q x f g
        raws q x (inr (k, a, e, d)) g =
            let ll = I.long in
            let lo = I.low in
            ap (λ (y : ℕ). get_or (copy_run n cells b end) y 0) e ∙ run_at n cells b end k (omega arith) (omega arith) a ∙ I.agree (b + k) (omega arith) ∙ ap (λ (y : ℕ). get_or s y 0) (sym d)

        dones : (q x : ℕ) → From tables q x ⊎ ((k : ℕ) × (k < n) × (q ≡ end + k) × (x ≡ b + k)) → q < p → Matches (set tables i end) (get_or (copy_run n cells b end) q 0) x
        dones q x (inl f) g = rw (before q (below q x f)) (match_grow tables (set tables i end) grow (get_or cells q 0) (End x) (kind_of (End x)) (I.done q x f g))
        dones q x (inr (k, a, e, d)) g = absurd (let bo = I.bound in omega arith)

        off_home : (v : ℕ) → v < top → get_or (set tables i end) (top + top + v) 0 ≡ get_or tables (top + top + v) 0
        off_home v a = off_at (top + top + v) (λ z. let x = index in omega arith)

        home : (v : ℕ) → v < top → (get_or tables (top + top + v) 0 ≡ 0 → ⊥) → (top ≤ get_or (set tables i end) (top + top + v) 0) × (get_or (set tables i end) (top + top + v) 0 < p) × (get_or (copy_run n cells b end) (get_or (set tables i end) (top + top + v) 0) 0 ≡ word_of_kind (Var (get_or (set tables i end) (top + top + v) 0))) × (kind_at s v ≡ Var v)
        home v a z =
            let o = I.homes v a z in
            let q = o.1 in
            let bo = I.bound in
            rw (off_home v a) (o.0, o.1, before (get_or tables (top + top + v) 0) (omega arith) ∙ o.2, o.3)
