-- The walk as the code keeps it, a lemma for each turn, and the number that falls with each. The code has no list of the path's cells: the cell at j of the path is the one before path[j].next, and from there up to path[j].end are the links that are left at the cell before it. The links left at the last cell are from next up to end.
use Rattle.std.proofs.Common.{◌≡◌, refl, sym, ap, ◌∙◌, Bool, true, false, List, ℕ, suc, ◌+◌, ◌*◌, ◌-◌, ◌<◌, ◌≤◌, arith, length, get_or, set, replicate, length-set, get_or-set_same, get_or-set_other}
use Rattle.std.proofs.lemmas.List.{length-replicate}
use Rattle.std.proofs.Math.Decide.{ℕ_discrete}
use Rattle.store.specs.Store.{limit, WellFormed}
use Rattle.cycle.specs.declared.Colour.{Colour}
use Rattle.cycle.specs.declared.Colour.TheVariants.{White, Grey, Black}
use Rattle.cycle.specs.declared.Rest.{Rest}
use Rattle.cycle.specs.Links.{links, link, Span, link_next, links_end, links_lt}
use Rattle.cycle.specs.Tables.{colour, Done, Tables, Walked}
use Rattle.cycle.specs.Met.{met_links, met_more, met_still}
use Rattle.cycle.proofs.Count.{whites, whites_all, whites_le, whites_lt, none, frames, frames_one, frames_last}
use Rattle.cycle.proofs.Walking.{Sized, Walking, Turn, Taken, tip, begun, last, landed, room_for, pushed, passed, turned, popped, finished}

module _ (s : List ℕ) (top n root : ℕ) (col₀ : List Colour) (sum₀ : ℕ) where
  pub record Going (col : List Colour) (path : List Rest) (sp next end : ℕ) (met : Bool) (sum : ℕ) : Type 0 where
    -- the cells of the path, and how many links of each are gone over
    pub st : List ℕ
    pub at : List ℕ
    pub walking : Walking s top n root col₀ col st at sp met
    pub path_long : length path ≡ n
    pub cell : (j : ℕ) → j < sp → (get_or path j none).next ≡ get_or st j 0 + 1
    pub used : (j : ℕ) → j < sp → (get_or path j none).end ≤ top
    -- the link to the next cell of the path is gone over too
    pub saved : (j : ℕ) → suc j < sp → Span s (get_or st j 0) (get_or at j 0 + 1) (get_or path (suc j) none).next (get_or path (suc j) none).end
    pub now : 0 < sp → Span s (tip st sp) (tip at sp) next end
    -- the links of the cells met since are in the sum, which is not too much for a word
    pub summed : met_links s top col + sum₀ ≡ met_links s top col₀ + sum
    pub few : sum + limit * whites col ≤ limit * limit

-- what is left to do
abbrev pub undone : List Colour → List Rest → ℕ → ℕ → ℕ → ℕ
undone col path sp next end = (limit + 2) * whites col + frames path sp + (end - next)

-- the next link is gone over: it leads to x
pub record Step (next end x next' end' : ℕ) : Type 0 where
  pub more : next < end
  pub leads : x ≡ next
  pub past : next' ≡ next + 1
  pub same : end' ≡ end

-- ---- the first cell on the path
module _ {s : List ℕ} {top n : ℕ} {col : List Colour} (t : Tables s col) (size : Sized top n col) (root : ℕ) (b : root < top) (white : colour col root ≡ White) where
  pub started : {next end m : ℕ} (path : List Rest) → length path ≡ n → WellFormed s top → 1 ≤ root → Span s root 0 next end → m ≡ end - next → Going s top n root (set col root Grey) m (set col root Grey) (set path 0 (record { next = root + 1; end = root + 1 })) 1 next end false m
  started path lp wf l p m =
      let en = size.enough in
      let fw = size.few in
      let lc = size.col_long in
      let hi = wf.high in
      let lk = links_lt s top wf root l b in
      let ww = whites_lt col root (omega arith) white in
      let wa = whites_all col in
      let long : length {A = ℕ} (replicate n 0) ≡ n = length-replicate {A = ℕ} n 0 in
      let first : get_or (set (replicate n 0) 0 root) 0 0 ≡ root = get_or-set_same (replicate n 0) 0 root 0 (omega arith) in
      let zero_at : get_or {A = ℕ} (set (replicate n 0) 0 0) 0 0 ≡ 0 = get_or-set_same (replicate n 0) 0 0 0 (omega arith) in
      let e : Rest = record { next = root + 1; end = root + 1 } in
      let one : get_or (set path 0 e) 0 none ≡ e = get_or-set_same path 0 e none (omega arith) in
      record {
        st = set (replicate n 0) 0 root;
        at = set (replicate n 0) 0 0;
        walking = begun t size root b white (replicate n 0) (replicate n 0) long long l;
        path_long = length-set path 0 e ∙ lp;
        cell = λ j q. let z : j ≡ 0 = omega arith in rw (z, first, one) refl;
        used = λ j q. let z : j ≡ 0 = omega arith in rw (z, one) (omega arith);
        saved = λ j q. absurd (omega arith);
        now = λ _. rw (first, zero_at) p;
        summed = refl;
        few = (let q = p.from in let r = p.to in omega arith);
      }

  -- at the end the sum is that of the cells met since the start
  pub summed_all : {next end m : ℕ} (col' : List Colour) (sum : ℕ) → 1 ≤ root → Span s root 0 next end → m ≡ end - next → met_links s top col' + m ≡ met_links s top (set col root Grey) + sum → met_links s top col' ≡ met_links s top col + sum
  summed_all col' sum l p m e = let lc = size.col_long in let en = size.enough in let w = met_more s top col root l b (omega arith) white in let q = p.from in let r = p.to in omega arith

module _ {s : List ℕ} {top n root : ℕ} {col₀ : List Colour} {sum₀ : ℕ} {col : List Colour} {path : List Rest} {sp next end : ℕ} {met : Bool} {sum : ℕ} (wf : WellFormed s top) (g : Going s top n root col₀ sum₀ col path sp next end met sum) (some : 0 < sp) where
  turn : Turn s top n root col₀ col g.st g.at sp met
  turn = record { formed = wf; walking = g.walking; some = some }

  -- the links that are left go to used cells
  pub inside : (end ≤ top) × (top ≤ n) × (sp ≤ n)
  inside =
      let l = last turn in
      let p = g.now some in
      (omega (arith, links_end s top wf (tip g.st sp) l.from l.below), l.limited, l.placed)

  -- ---- one is left
  module _ {x next' end' : ℕ} (e : Step next end x next' end') where
    pub taken : Taken s top n root col₀ col g.st g.at sp met x
    taken =
        let p = g.now some in
        let m = e.more in
        let o : tip g.at sp < links s (tip g.st sp) = omega arith in
        record { turn = turn; one_of = o; leads = e.leads ∙ p.from ∙ sym (link_next s (tip g.st sp) (tip g.at sp) o) }

    -- it is gone over, to a cell met before
    over : (met' : Bool) → Walking s top n root col₀ col g.st (set g.at (sp - 1) (tip g.at sp + 1)) sp met' → Going s top n root col₀ sum₀ col path sp next' end' met' sum
    over met' w =
        let la = g.walking.at_long in
        let rm = g.walking.room in
        let p = g.now some in
        let o = taken.one_of in
        let ep = e.past in
        let es = e.same in
        record {
          st = g.st;
          at = set g.at (sp - 1) (tip g.at sp + 1);
          walking = w;
          path_long = g.path_long;
          cell = g.cell;
          used = g.used;
          saved = λ j q. rw (get_or-set_other g.at (sp - 1) j (tip g.at sp + 1) 0 (λ z. omega arith)) (g.saved j q);
          now = λ _. rw (get_or-set_same g.at (sp - 1) (tip g.at sp + 1) 0 (omega arith)) (record { some = omega arith; from = omega arith; to = es ∙ p.to });
          summed = g.summed;
          few = g.few;
        }

    pub over_done : Done col x → Going s top n root col₀ sum₀ col path sp next' end' met sum
    over_done d = over met (passed taken d)

    pub over_back : colour col x ≡ Grey → Going s top n root col₀ sum₀ col path sp next' end' true sum
    over_back b = over true (turned taken b)

    pub less_over : undone col path sp next' end' < undone col path sp next end
    less_over = let m = e.more in let ep = e.past in let es = e.same in omega arith

    -- the cell was not met before
    module _ (white : colour col x ≡ White) {a b : ℕ} (p : Span s x 0 a b) where
      pub down : {m : ℕ} → m ≡ b - a → Going s top n root col₀ sum₀ (set col x Grey) (set path sp (record { next = next'; end = end' })) (sp + 1) a b met (sum + m)
      down m =
          let rm = room_for taken white in
          let lc = g.walking.col_long in
          let u = landed taken in
          let hi = wf.high in
          let lk = links_lt s top wf x u.0 u.1 in
          let pf = p.from in
          let pt = p.to in
          let ls = g.walking.st_long in
          let la = g.walking.at_long in
          let lp = g.path_long in
          let ex = e.leads in
          let ep = e.past in
          let es = e.same in
          let in_top = inside in
          let here : Rest = record { next = next'; end = end' } in
          let last_st : get_or (set g.st sp x) sp 0 ≡ x = get_or-set_same g.st sp x 0 (omega arith) in
          let last_at : get_or (set g.at sp 0) sp 0 ≡ 0 = get_or-set_same g.at sp 0 0 (omega arith) in
          let last_path : get_or (set path sp here) sp none ≡ here = get_or-set_same path sp here none (omega arith) in
          let old : (l : List ℕ) (v j : ℕ) → (j ≡ sp → ⊥) → get_or (set l sp v) j 0 ≡ get_or l j 0 = λ l v j n. get_or-set_other l sp j v 0 n in
          let old_path : (j : ℕ) → (j ≡ sp → ⊥) → get_or (set path sp here) j none ≡ get_or path j none = λ j n. get_or-set_other path sp j here none n in
          record {
            st = set g.st sp x;
            at = set g.at sp 0;
            walking = pushed taken white;
            path_long = length-set path sp here ∙ lp;
            cell = λ j q. elim (ℕ_discrete j sp) [ yes z ↦ rw (z, last_path, last_st) (omega arith) | no z ↦ rw (old_path j z, old g.st x j z) (g.cell j (omega arith)) ];
            used = λ j q. elim (ℕ_discrete j sp) [ yes z ↦ rw (z, last_path) (omega arith) | no z ↦ rw (old_path j z) (g.used j (omega arith)) ];
            saved = λ j q. rw (old g.st x j (λ z. omega arith), old g.at 0 j (λ z. omega arith)) (elim (ℕ_discrete (suc j) sp) [
              | yes z ↦ rw (z, last_path) (before j z)
              | no z ↦ rw (old_path (suc j) z) (g.saved j (omega arith))
            ]);
            now = λ _. let z : sp + 1 - 1 ≡ sp = omega arith in rw (z, last_st, last_at) p;
            summed = (let k = met_more s top col x u.0 u.1 (omega arith) white in let sm = g.summed in omega arith);
            few = (let ww = whites_lt col x (omega arith) white in let fw = g.few in omega arith);
          }
        where
          before : (j : ℕ) → suc j ≡ sp → Span s (get_or g.st j 0) (get_or g.at j 0 + 1) next' end'
          before j h =
              let z : j ≡ sp - 1 = omega arith in
              let q = g.now some in
              let o = taken.one_of in
              let ep = e.past in
              let es = e.same in
              rw z (record { some = omega arith; from = omega arith; to = es ∙ q.to })

      pub less_down : undone (set col x Grey) (set path sp (record { next = next'; end = end' })) (sp + 1) a b < undone col path sp next end
      less_down =
          let rm = room_for taken white in
          let lc = g.walking.col_long in
          let lp = g.path_long in
          let u = landed taken in
          let hi = wf.high in
          let pf = p.from in
          let pt = p.to in
          let m = e.more in
          let ep = e.past in
          let es = e.same in
          let few = links_lt s top wf x u.0 u.1 in
          let ww = whites_lt col x (omega arith) white in
          let fr = frames_last path sp (record { next = next'; end = end' }) (omega arith) in
          omega arith

  -- ---- none is left: the last cell is finished, and the link to it is gone over
  abbrev above : Rest
  above = get_or path (sp - 1) none

  cell_last : above.next - 1 ≡ tip g.st sp
  cell_last = let e = g.cell (sp - 1) (omega arith) in omega arith

  -- its place in the tables
  pub up_inside : (1 ≤ above.next) × (above.next ≤ n) × (sp ≤ n)
  up_inside = let e = g.cell (sp - 1) (omega arith) in let l = last turn in let f = l.below in let i = inside in (omega arith, omega arith, i.2)

  module _ (h : end ≤ next) where
    up_walking : Walking s top n root col₀ (set col (tip g.st sp) Black) g.st g.at (sp - 1) met
    up_walking = let p = g.now some in popped turn (omega arith)

    pub less_up : undone (set col (above.next - 1) Black) path (sp - 1) above.next above.end < undone col path sp next end
    less_up =
        let z : sp ≡ sp - 1 + 1 = omega arith in
        let i = up_inside in
        let lp = g.path_long in
        let lc = g.walking.col_long in
        let wl = whites_le col (above.next - 1) (omega arith) in
        let fr : frames path sp ≡ frames path (sp - 1) + (above.end - above.next + 1) = ap (frames path) z ∙ frames_one path (sp - 1) (omega arith) in
        omega arith

    up_summed : met_links s top (set col (tip g.st sp) Black) + sum₀ ≡ met_links s top col₀ + sum
    up_summed =
        let l = last turn in
        let f = l.below in
        let i = inside in
        let lc = g.walking.col_long in
        let m = met_still s top col (tip g.st sp) (omega arith) (g.walking.met_all (sp - 1) (omega arith)) in
        let sm = g.summed in
        omega arith

    up_few : sum + limit * whites (set col (tip g.st sp) Black) ≤ limit * limit
    up_few = let l = last turn in let f = l.below in let i = inside in let lc = g.walking.col_long in let w = whites_le col (tip g.st sp) (omega arith) in let fw = g.few in omega arith

    pub up : Going s top n root col₀ sum₀ (set col (above.next - 1) Black) path (sp - 1) above.next above.end met sum
    up = rw cell_last (elim (ℕ_discrete (sp - 1) 0) [ yes z ↦ to_none z | no z ↦ to_one z ])
      where
        -- the root is finished
        to_none : sp - 1 ≡ 0 → Going s top n root col₀ sum₀ (set col (tip g.st sp) Black) path (sp - 1) above.next above.end met sum
        to_none z = record {
          st = g.st;
          at = g.at;
          walking = up_walking;
          path_long = g.path_long;
          cell = λ j q. absurd (omega arith);
          used = λ j q. absurd (omega arith);
          saved = λ j q. absurd (omega arith);
          now = λ q. absurd (omega arith);
          summed = up_summed;
          few = up_few;
        }

        to_one : (sp - 1 ≡ 0 → ⊥) → Going s top n root col₀ sum₀ (set col (tip g.st sp) Black) path (sp - 1) above.next above.end met sum
        to_one some_left =
            let k = sp - 1 - 1 in
            let z : suc k ≡ sp - 1 = omega arith in
            let p : Span s (get_or g.st k 0) (get_or g.at k 0 + 1) above.next above.end = rw z at (g.saved k (omega arith)) in
            let o : get_or g.at k 0 < links s (get_or g.st k 0) = let q = p.some in omega arith in
            let e = g.cell (sp - 1) (omega arith) in
            let f = p.from in
            let l = last turn in
            let lc = g.walking.col_long in
            let la = g.walking.at_long in
            let rm = g.walking.room in
            let t : Taken s top n root col₀ (set col (tip g.st sp) Black) g.st g.at (sp - 1) met (tip g.st sp) = record {
              turn = record { formed = wf; walking = up_walking; some = omega arith };
              one_of = o;
              leads = (let q : tip g.st sp ≡ link s (get_or g.st k 0) 0 + get_or g.at k 0 = omega arith in q ∙ sym (link_next s (get_or g.st k 0) (get_or g.at k 0) o));
            } in
            record {
              st = g.st;
              at = set g.at k (get_or g.at k 0 + 1);
              walking = passed t (get_or-set_same col (tip g.st sp) Black White (omega arith));
              path_long = g.path_long;
              cell = λ j q. g.cell j (omega arith);
              used = λ j q. g.used j (omega arith);
              saved = λ j q. rw (get_or-set_other g.at k j (get_or g.at k 0 + 1) 0 (λ y. omega arith)) (g.saved j (omega arith));
              now = λ _. rw (get_or-set_same g.at k (get_or g.at k 0 + 1) 0 (omega arith)) p;
              summed = up_summed;
              few = up_few;
            }

-- ---- nothing is left on the path
pub ended : {s : List ℕ} {top n root : ℕ} {col₀ : List Colour} {sum₀ : ℕ} {col : List Colour} {path : List Rest} {sp next end : ℕ} {met : Bool} {sum : ℕ} → Going s top n root col₀ sum₀ col path sp next end met sum → sp ≡ 0 → Walked s root col₀ col met
ended g e = finished g.walking e
