-- What a machine shows, without its words: the view of each cell, the classes and the pairs; and what each act does to it. The laws of unification are proved of this.
-- One law, `all_args`, stands in proofs/Seen.antt.
use Rattle.std.specs.Prelude.{◌≡◌, refl, Bool, true, false, cond, List, [], ◌∷◌, ◌++◌, ℕ, eqb}
use Rattle.std.proofs.Common.{ap, eq-eqb, ne_eqb}
use Rattle.terms.specs.View.{View, free, con, nod, Shape, arity_of, look_at}
use Rattle.unification.specs.Machine.{Act, skip, bind, join, clash, Machine, merge, args}

-- what each cell shows, the class of each node, and the pairs that stand
pub record Seen : Type 0 where
  pub look : ℕ → View
  pub classes : ℕ → ℕ
  pub pairs : List (ℕ × ℕ)

-- of a machine
abbrev pub seen_of : ℕ → Machine → Seen
seen_of top s = record { look = look_at s.cells top; classes = s.classes; pairs = s.pairs }

-- with one pair more
abbrev pub pushed : ℕ → ℕ → Seen → Seen
pushed a b s = record { look = s.look; classes = s.classes; pairs = (a, b) ∷ s.pairs }

-- what a view becomes when the variable v comes to show x
unfoldable pub put : ℕ → View → View → View
put v x (free w) = cond (eqb w v) x (free w)
put v x (con c) = con c
put v x (nod n) = nod n

-- what an act does; the pair it comes from is taken already
unfoldable pub apply : Shape → Seen → Act → Seen
apply sh s skip = s
apply sh s (bind v x) = record { look = λ i. put v x (s.look i); classes = s.classes; pairs = s.pairs }
apply sh s (join n m) = record { look = s.look; classes = λ k. merge (s.classes n) (s.classes m) (s.classes k); pairs = args sh n m (arity_of sh n) 0 ++ s.pairs }
apply sh s clash = s

-- each pair of a list stands in R
abbrev pub All : (ℕ → ℕ → Type 0) → List (ℕ × ℕ) → Type 0
All R [] = Unit {0}
All R (p ∷ ps) = R p.0 p.1 × All R ps

-- ---- laws
pub all_map : (R Q : ℕ → ℕ → Type 0) → ((i j : ℕ) → R i j → Q i j) → (S : List (ℕ × ℕ)) → All R S → All Q S
all_map R Q f [] h = h
all_map R Q f (p ∷ S) h = (f p.0 p.1 h.0, all_map R Q f S h.1)

-- what a binding does to the view of the variable, and to any other
pub put_here : (v : ℕ) (x y : View) → y ≡ free v → put v x y ≡ x
unfolding put
put_here v x y q = rw (q, put, eq-eqb v v refl)

pub put_not : (v : ℕ) (x y : View) → (y ≡ free v → ⊥) → put v x y ≡ y
unfolding put
put_not v x (free w) n = rw (ne_eqb w v (λ e. n (ap free e)))
put_not v x (con c) n = refl
put_not v x (nod m) n = refl

-- a view after a binding is what was bound, or as it was
pub put_is : (v : ℕ) (x y z : View) (Q : Type 0) → (x ≡ z → Q) → (y ≡ z → Q) → put v x y ≡ z → Q
unfolding put
put_is v x (free w) z Q f g e = at (eqb w v) e
  where
    at : (b : Bool) → cond b x (free w) ≡ z → Q
    at true e = f e
    at false e = g e
put_is v x (con c) z Q f g e = g e
put_is v x (nod m) z Q f g e = g e
