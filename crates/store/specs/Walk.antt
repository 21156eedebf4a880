-- Whether following ends at a cell where a way turns: it is walked from there, and the cells walked over are noted in a table, so that no later walk goes over them.
use Rattle.std.specs.Prelude.{◌≡◌, refl, Bool, true, false, List, ◌⊎◌, ℕ, ◌+◌, ◌*◌, ◌-◌, ◌<◌, ◌≤◌, length, replicate}
use Rattle.std.proofs.Common.{sym, ap, subst, ◌∙◌, inr, ⊎_elim, arith}
use Rattle.std.proofs.lemmas.Bool.{false≢true}
use Rattle.std.proofs.Math.Logic.{inl, ⊎_map}
use Rattle.std.proofs.Math.Decide.{ℕ_discrete}
use Rattle.std.proofs.lemmas.List.{length-replicate}
use Rattle.cell_set.specs.Table.{bit_at, noting, bit_none, bit_other, length_noting}
use Rattle.store.specs.All.{all_broken}
use Rattle.store.specs.Store.{step, steps, Ends, ends_at, cells_keep, cells_end}
use Rattle.store.specs.Steps.{next_used}
use Rattle.store.specs.Ends.{steps_more, ends_stay, ends_back, ends_far, ends_on, back_stays, ends_in, ends_tested, ends_test}
use Rattle.store.specs.Turns.{Turns}

-- ---- the table
-- it has a bit for each used cell, and following ends at each that it notes
pub record Known (s : List ℕ) (top : ℕ) (table : List ℕ) : Type 0 where
  pub long : top ≤ 64 * length table
  pub noted : (j : ℕ) → bit_at table j ≡ 1 → Ends s j

pub known_none : (s : List ℕ) (top n : ℕ) → top ≤ 64 * n → Known s top (replicate n 0)
known_none s top n l =
    let z = length-replicate {A = ℕ} n 0 in
    record { long = omega arith; noted = λ j h. (let b = bit_none n j in absurd (omega arith)) }

-- ---- the walk
-- fewer than n steps from `at` come to j
abbrev pub Walked : List ℕ → ℕ → ℕ → ℕ → Type 0
Walked s at n j = (m : ℕ) × (m < n) × (steps s m at ≡ j)

-- whether they never do
pub record Passing (s : List ℕ) (at n j : ℕ) (r : Bool) : Type 0 where
  pub passed : r ≡ true → Walked s at n j → ⊥
  pub met : r ≡ false → Walked s at n j

-- n cells from `at` on are walked over and noted, each leads on, the last of them to `cur`, and none is lower than `low`
pub record Walking (s : List ℕ) (top at cur low n : ℕ) (table : List ℕ) : Type 0 where
  pub first : 1 ≤ cur
  pub high : cur < top
  pub here : cur ≡ steps s n at
  pub moved : (m : ℕ) → m < n → step s (steps s m at) ≡ steps s m at → ⊥
  pub least : (m : ℕ) → m < n + 1 → low ≤ steps s m at
  pub long : top ≤ 64 * length table
  pub noted : (j : ℕ) → bit_at table j ≡ 1 → Ends s j ⊎ Walked s at n j

-- what a walk finds: whether following ends, and if it does, that it ends at each cell that is noted now
pub record Found (s : List ℕ) (top at : ℕ) (table : List ℕ) (r : Bool) : Type 0 where
  pub told : r ≡ ends_at s top at
  pub known : r ≡ true → Known s top table

module _ (s : List ℕ) (top at : ℕ) where
  pub found_ring : {table : List ℕ} → ends_at s top at ≡ false → Found s top at table false
  found_ring e = record { told = sym e; known = λ t. absurd (false≢true t) }

  pub found_known : {table : List ℕ} → ends_at s top at ≡ true → Known s top table → Found s top at table true
  found_known e k = record { told = sym e; known = λ _. k }

  never : (Ends s at → ⊥) → ends_at s top at ≡ false
  never n = go (ends_at s top at) refl
    where
      go : (b : Bool) → ends_at s top at ≡ b → b ≡ false
      go true e = absurd (n (ends_tested s top at e))
      go false e = refl

  module _ (all : cells_keep s 1 top ≡ true) (a : 1 ≤ at) (b : at < top) where
    pub walk_start : {table : List ℕ} → Known s top table → Walking s top at at at 0 table
    unfolding steps
    walk_start k = record { first = a; high = b; here = begin 0 refl; moved = λ m h. absurd (omega arith); least = λ m h. (let e = begin m (omega arith) in omega arith); long = k.long; noted = λ j h. inl (k.noted j h) }
      where
        begin : (m : ℕ) → m ≡ 0 → at ≡ steps s m at
        begin m e = rw e

    module _ {cur low n : ℕ} {table : List ℕ} (w : Walking s top at cur low n table) where
      -- more than `top` cells that lead on
      pub walk_never : top < n → ends_at s top at ≡ false
      walk_never l = never (λ e. w.moved top l (ends_in s top all at a b e))

      -- a cell that was walked over
      pub walk_ring : Walked s at n cur → ends_at s top at ≡ false
      walk_ring (m, l, e) = never (λ h. w.moved m l (back_stays s at m n l (e ∙ w.here) h))

    -- one cell further: `cur` is noted, and leads to `next`
    module _ {cur low n next : ℕ} {table more : List ℕ} (w : Walking s top at cur low n table) (e : next ≡ step s cur) (q : more ≡ noting table cur) where
      pub still_long : top ≤ 64 * length more
      still_long = let l = w.long in let z = ap length q ∙ length_noting table cur in omega arith

      noted_more : (j : ℕ) → bit_at more j ≡ 1 → Ends s j ⊎ Walked s at (n + 1) j
      noted_more j h =
          let l = w.long in
          let g = w.high in
          elim (ℕ_discrete j cur) [
            | yes r ↦ inr (n, omega arith, sym (r ∙ w.here))
            | no r ↦ ⊎_map (λ x. x) (λ x. let k = x.1 in (x.0, omega arith, x.2)) (w.noted j (sym (bit_other table cur (omega arith) j r) ∙ ap (λ (t : List ℕ). bit_at t j) (sym q) ∙ h))
          ]

      -- `cur` leads on
      pub walk_more : (next ≡ cur → ⊥) → {lower : ℕ} → lower ≤ low → lower ≤ next → Walking s top at next lower (n + 1) more
      walk_more d {lower} c f =
          record {
            first = used.0;
            high = used.1;
            here = here;
            moved = λ m h p. elim (ℕ_discrete m n) [ yes r ↦ (let z = w.here ∙ ap (λ (k : ℕ). steps s k at) (sym r) in d (e ∙ ap (step s) z ∙ p ∙ sym z)) | no r ↦ w.moved m (omega arith) p ];
            least = λ m h. elim (ℕ_discrete m (n + 1)) [ yes r ↦ (let z = here ∙ ap (λ (k : ℕ). steps s k at) (sym r) in omega arith) | no r ↦ (let g = w.least m (omega arith) in omega arith) ];
            long = still_long;
            noted = noted_more;
          }
        where
          used : (1 ≤ next) × (next < top)
          used = next_used s top all w.first w.high e

          here : next ≡ steps s (n + 1) at
          here = e ∙ ap (step s) w.here ∙ sym (steps_more s n at)

      -- following ends at the next cell, and so at each that is noted
      pub walk_ends : Ends s next → Found s top at more true
      walk_ends h =
          let g : Ends s at = ends_far s n at (subst (Ends s) w.here (ends_back s cur (subst (Ends s) e h))) in
          found_known (ends_test s top all at a b g) (record { long = still_long; noted = λ j i. ⊎_elim (λ x. x) (λ x. subst (Ends s) x.2 (ends_on s x.0 at g)) (noted_more j i) })

      -- `cur` stays
      pub walk_stays : next ≡ cur → Found s top at more true
      walk_stays d = walk_ends (subst (Ends s) (sym d) (ends_stay s cur (sym e ∙ d)))

      -- the next cell is noted: if it was not walked over, following ends there
      module _ (h : bit_at more next ≡ 1) where
        walk_apart : (Walked s at (n + 1) next → ⊥) → Found s top at more true
        walk_apart p = walk_ends (⊎_elim (λ x. x) (λ x. absurd (p x)) (noted_more next h))

        pub walk_below : next < low → Found s top at more true
        walk_below l = walk_apart (λ x. let g = w.least x.0 x.1 in let z = x.2 in omega arith)

        pub walk_meets : (next ≡ cur → ⊥) → (r : Bool) → Passing s at (n + 1) next r → Found s top at more r
        walk_meets d true p = walk_apart (p.passed refl)
        walk_meets d false p = found_ring (walk_ring (walk_more d {lower = 0} (omega arith) (omega arith)) (p.met refl))

-- ---- the walk from where a way turns
-- what is found at i: following ends there if the way turns, and at each cell that is noted now; or it does not end everywhere
pub record Settled (s : List ℕ) (from top i : ℕ) (table : List ℕ) (r : Bool) : Type 0 where
  pub ends : r ≡ true → Turns s i → Ends s i
  pub known : r ≡ true → Known s top table
  pub ring : r ≡ false → cells_end s from top ≡ false

module _ (s : List ℕ) (from top i : ℕ) {table : List ℕ} where
  pub settled : (Turns s i → Ends s i) → Known s top table → Settled s from top i table true
  settled h k = record { ends = λ _. h; known = λ _. k; ring = λ f. absurd (false≢true (sym f)) }

  -- the way turns at v, and is walked from there
  pub settled_found : {v : ℕ} → v ≡ step s i → from ≤ v → v < top → (r : Bool) → Found s top v table r → Settled s from top i table r
  unfolding cells_end
  settled_found {v} e a b r f =
      record {
        ends = λ t _. ends_back s i (subst (Ends s) e (ends_tested s top v (sym f.told ∙ t)));
        known = f.known;
        ring = λ t. all_broken (ends_at s top) (top - from) from v a (omega arith) (sym f.told ∙ t);
      }
