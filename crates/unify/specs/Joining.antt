-- Two nodes of one functor: in one class already, or two classes that become one and pairs of arguments that are pushed.
use Rattle.std.specs.Prelude.{◌≡◌, refl, cond, List, ◌++◌, ℕ, ◌+◌, ◌<◌, ◌≤◌, eqb, length, get_or}
use Rattle.std.proofs.Common.{sym, ap, subst, ◌∙◌, ⊎_elim, arith, eq-eqb, ne_eqb}
use Rattle.std.proofs.Math.Decide.{ℕ_discrete}
use Rattle.store.specs.Store.{limit}
use Rattle.cycle.specs.Sum.{sum_from, sum_same}
use Rattle.terms.specs.View.{Shape, arity_of}
use Rattle.chains.specs.Work.{work_need}
use Rattle.classes.specs.Forest.{Lower, Root, here, up, names_own, root_below}
use Rattle.classes.specs.Classes.{Classes, Keeps, Tied, same, left, right, Joins, Found, Joined, classes_kept, names_kept}
use Rattle.unification.specs.Machine.{merge}
use Rattle.unification.specs.Weight.{Merged}
use Rattle.unification.proofs.Weight.{merged, merge_ends}
use Rattle.unification.specs.Sums.{sum_drop}
use Rattle.unify.specs.Layout.{pair_place, standing, standing_same, row, Grown}

-- ---- how many pairs joins may still push
-- a node that names its class has its arguments still to push
abbrev pub weighs : Shape → List ℕ → ℕ → ℕ
weighs sh w k = cond (eqb (get_or w k 0) k) (arity_of sh k) 0

-- all of them
abbrev pub unread : Shape → ℕ → List ℕ → ℕ
unread sh top w = sum_from 0 top (weighs sh w)

-- nodes of one class have one functor
abbrev pub Funs : Shape → (ℕ → ℕ) → Type 0
Funs sh classes = (i j : ℕ) → classes i ≡ classes j → sh.fun i ≡ sh.fun j

pub unread_near : (sh : Shape) (top : ℕ) (w w' : List ℕ) → ((j : ℕ) → j < top → get_or w' j 0 ≡ get_or w j 0) → unread sh top w' ≡ unread sh top w
unread_near sh top w w' e = sum_same (weighs sh w') (weighs sh w) top 0 (λ k l h. ap (λ (x : ℕ). cond (eqb x k) (arity_of sh k) 0) (e k (omega arith)))

-- ---- what is asked
pub record Meets (w : List ℕ) (top pairs n m left right arity : ℕ) : Type 0 where
  pub classes : ℕ → ℕ
  pub named : Classes w top classes
  pub left_node : n < top
  pub right_node : m < top
  pub left_args : left + arity ≤ limit
  pub right_args : right + arity ≤ limit
  pub wide : work_need top ≤ length w
  pub stand : pair_place top pairs ≤ work_need top
  pub room : (classes n ≡ classes m → ⊥) → pair_place top (pairs + arity) ≤ work_need top

-- ---- what is answered
-- nodes already in one class: nothing
pub record Together (w : List ℕ) (top pairs n m : ℕ) (w' : List ℕ) (r : ℕ) (classes : ℕ → ℕ) : Type 0 where
  pub one : classes n ≡ classes m
  pub count : r ≡ pairs
  pub named : Classes w' top classes
  pub unread_same : (sh : Shape) → unread sh top w' ≡ unread sh top w

-- otherwise the classes are joined and the arguments pushed, the first pair last
pub record Grew (w : List ℕ) (top pairs n m first second arity : ℕ) (w' : List ℕ) (r : ℕ) (classes : ℕ → ℕ) : Type 0 where
  pub two : classes n ≡ classes m → ⊥
  pub count : r ≡ pairs + arity
  pub named : Classes w' top (λ k. merge (classes n) (classes m) (classes k))
  pub pushed : standing top w' (pairs + arity) ≡ row first second arity 0 ++ standing top w pairs
  pub unread_less : (sh : Shape) → Funs sh classes → sh.fun n ≡ sh.fun m → unread sh top w ≡ unread sh top w' + arity_of sh n

-- one or the other
pub data Meeting (w : List ℕ) (top pairs n m first second arity : ℕ) (w' : List ℕ) (r : ℕ) (classes : ℕ → ℕ) : Type 0 where
  together : Together w top pairs n m w' r classes → Meeting w top pairs n m first second arity w' r classes
  grew : Grew w top pairs n m first second arity w' r classes → Meeting w top pairs n m first second arity w' r classes

-- no shortcut changes, no pair that stood, and no word that the call may not use
pub record Met (w : List ℕ) (top pairs n m first second arity : ℕ) (w' : List ℕ) (r : ℕ) : Type 0 where
  pub between : (j : ℕ) → top ≤ j → j < pair_place top pairs → get_or w' j 0 ≡ get_or w j 0
  pub far : (j : ℕ) → work_need top ≤ j → get_or w' j 0 ≡ get_or w j 0
  pub meets : (classes : ℕ → ℕ) → Classes w top classes → Meeting w top pairs n m first second arity w' r classes

-- ---- classes see only the words below `top`
pub classes_near : (w w' : List ℕ) (top : ℕ) → length w' ≡ length w → ((j : ℕ) → j < top → get_or w' j 0 ≡ get_or w j 0) → (classes : ℕ → ℕ) → Classes w top classes → Classes w' top classes
classes_near w w' top size near classes c =
    let l = c.lower in
    let f = l.fits in
    classes_kept w w' top classes (record { fits = omega arith; low = λ i h. rw (near i h) (l.low i h) }) (λ j s h d. climb h d) c
  where
    climb : {i r : ℕ} → i < top → Root w i r → Root w' i r
    climb {i} h (here e) = here (near i h ∙ e)
    climb {i} {r} h (up d) = up (subst (λ (k : ℕ). Root w' k r) (sym (near i h)) (climb (let q = c.lower.low i h in omega arith) d))

-- ---- both names are found
module _ {w w₁ w₂ : List ℕ} {top pairs n m first second arity a b : ℕ} (q : Meets w top pairs n m first second arity) (fa : Found w top n a w₁) (fb : Found w₁ top m b w₂) where
  ln : n < top
  ln = q.left_node

  lm : m < top
  lm = q.right_node

  kept : Keeps w top w₂
  kept j s h d = fb.keeps j s h (fa.keeps j s h d)

  rest : (j : ℕ) → top ≤ j → get_or w₂ j 0 ≡ get_or w j 0
  rest j h = fb.rest j h ∙ fa.rest j h

  root_n : Root w₂ n a
  root_n = fb.keeps n a ln fa.root

  root_m : Root w₂ m b
  root_m = fb.root

  named : (classes : ℕ → ℕ) → Classes w top classes → Classes w₂ top classes
  named classes c = classes_kept w w₂ top classes fb.lower kept c

  -- the same cells name their classes
  weighs_same : (sh : Shape) (k : ℕ) → k < top → weighs sh w₂ k ≡ weighs sh w k
  weighs_same sh k h =
      elim (ℕ_discrete (get_or w k 0) k) [
        | yes e ↦ rw (eq-eqb (get_or w k 0) k e, eq-eqb (get_or w₂ k 0) k (names_own (kept k k h (here e))))
        | no e ↦ rw (ne_eqb (get_or w k 0) k e, ne_eqb (get_or w₂ k 0) k (λ z. e (names_kept w w₂ top q.named.lower kept k h z)))
      ]

  found_unread : (sh : Shape) → unread sh top w₂ ≡ unread sh top w
  found_unread sh = sum_same (weighs sh w₂) (weighs sh w) top 0 (λ k l h. weighs_same sh k (omega arith))

  pub meet_together : a ≡ b → Met w top pairs n m first second arity w₂ pairs
  meet_together e =
      let s = q.stand in
      record {
        between = λ j h _. rest j h;
        far = λ j h. rest j (omega arith);
        meets = λ classes c. together (record {
          one = (named classes c).to n m a ln lm root_n (subst (Root w₂ m) (sym e) root_m);
          count = refl;
          named = named classes c;
          unread_same = found_unread;
        });
      }

  -- the classes are two
  module _ (d : a ≡ b → ⊥) where
    pub apart : (classes : ℕ → ℕ) → Classes w top classes → classes n ≡ classes m → ⊥
    apart classes c e = d ((named classes c).back n m a b ln lm root_n root_m e)

    pub join_asks : Lower w₂ top × (a < top) × (b < top) × Root w₂ a a × Root w₂ b b × (a ≡ b → ⊥)
    join_asks = (fb.lower, root_below fb.lower ln root_n, root_below fb.lower lm root_m, here (names_own root_n), here (names_own root_m), d)

    pub join_room : pair_place top (pairs + arity) ≤ work_need top
    join_room = q.room (apart q.classes q.named)

    module _ {w₃ w₄ : List ℕ} (j : Joined w₂ top a b w₃) (g : Grown w₃ top pairs arity (row first second arity 0) w₄) (size : length w₄ ≡ length w₃) where
      low_words : (i : ℕ) → i < top → get_or w₄ i 0 ≡ get_or w₃ i 0
      low_words i h = g.near i (omega arith)

      -- a word from `top` on is no class word
      lost_low : j.lost < top
      lost_low = ⊎_elim (λ e. subst (λ (x : ℕ). x < top) (sym e) join_asks.1) (λ e. subst (λ (x : ℕ). x < top) (sym e) join_asks.2) j.one

      high_words : (i : ℕ) → top ≤ i → get_or w₃ i 0 ≡ get_or w i 0
      high_words i h = let l = lost_low in j.rest i (λ e. omega arith) ∙ rest i h

      -- one name is lost, and with it the arguments of a node of that class
      lost_weighs : (sh : Shape) (classes : ℕ → ℕ) → Classes w top classes → Funs sh classes → sh.fun n ≡ sh.fun m → weighs sh w₂ j.lost ≡ arity_of sh n
      lost_weighs sh classes c f e = ⊎_elim
          (λ z. ap (weighs sh w₂) z ∙ rw (eq-eqb (get_or w₂ a 0) a (names_own root_n)) (ap (λ x. x.1) (f a n ((named classes c).to a n a join_asks.1 ln join_asks.3 root_n))))
          (λ z. ap (weighs sh w₂) z ∙ rw (eq-eqb (get_or w₂ b 0) b (names_own root_m)) (ap (λ x. x.1) (f b m ((named classes c).to b m b join_asks.2 lm join_asks.4 root_m) ∙ sym e)))
          j.one

      joined_unread : (sh : Shape) → unread sh top w₂ ≡ unread sh top w₃ + weighs sh w₂ j.lost
      joined_unread sh =
          let l = lost_low in
          sum_drop (weighs sh w₂) (weighs sh w₃) j.lost top 0 (omega arith) (omega arith)
          (rw (ne_eqb (get_or w₃ j.lost 0) j.lost j.no_name))
          (λ k n. ap (λ (x : ℕ). cond (eqb x k) (arity_of sh k) 0) (j.rest k n))

      -- the class names of the machine
      joins : (classes : ℕ → ℕ) → Joins classes n m (λ k. merge (classes n) (classes m) (classes k))
      joins classes = record { tied = λ i k e. from i k (merged (classes n) (classes m) (classes i) (classes k) e); ties = to }
        where
          from : (i k : ℕ) → Merged (classes n) (classes m) (classes i) (classes k) → Tied classes n m i k
          from i k (Rattle.unification.specs.Weight.same e) = same e
          from i k (Rattle.unification.specs.Weight.left e z) = left e z
          from i k (Rattle.unification.specs.Weight.right e z) = right e z

          one : ℕ → ℕ
          one = merge (classes n) (classes m)

          to : (i k : ℕ) → Tied classes n m i k → one (classes i) ≡ one (classes k)
          to i k (same e) = ap one e
          to i k (left e z) = ap one e ∙ merge_ends (classes n) (classes m) ∙ sym (ap one z)
          to i k (right e z) = ap one e ∙ sym (merge_ends (classes n) (classes m)) ∙ sym (ap one z)

      pub meet_grew : Met w top pairs n m first second arity w₄ (pairs + arity)
      meet_grew =
          let r = join_room in
          let s = q.stand in
          record {
            between = λ i h z. g.near i z ∙ high_words i h;
            far = λ i h. g.far i (omega arith) ∙ high_words i (omega arith);
            meets = λ classes c.
                let c₃ = j.keeps classes (λ k. merge (classes n) (classes m) (classes k)) (named classes c) n m ln lm root_n root_m (joins classes) in
                grew (record {
                  two = apart classes c;
                  count = refl;
                  named = classes_near w₃ w₄ top size low_words _ c₃;
                  pushed = g.pairs ∙ ap (λ l. row first second arity 0 ++ l) (standing_same top w w₃ pairs (λ i h _. high_words i (omega arith)));
                  unread_less = λ sh f e. omega (arith, found_unread sh, joined_unread sh, lost_weighs sh classes c f e, unread_near sh top w₃ w₄ low_words);
                });
          }
