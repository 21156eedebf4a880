-- The bound on the room of a copy is enough: no copy needs more.
use Rattle.std.specs.Prelude.{◌≡◌, refl, Bool, ◌&&◌, List, ℕ, ◌+◌, ◌≤◌, eqb}
use Rattle.std.proofs.Common.{ap, eq-eqb, ne_eqb}
use Rattle.std.proofs.Math.Bool.{true, false, cond, and-eq-true_iff}
use native.Mathlib.Omega.{arith}
use Rattle.std.proofs.Math.Decide.{ℕ_discrete}
use Rattle.cell.specs.declared.Kind.{Kind}
use Rattle.cell.specs.declared.Kind.TheVariants.{Var, Str, Lis, Atom, Fixnum, Bad}
use Rattle.cell.specs.Kinds.{by_tag, kind_of}
use Rattle.store.specs.Store.{kind_at, WellFormed}
use Rattle.cycle.specs.Some.{some_below, some_true, some_holds}
use Rattle.cycle.specs.Kids.{arity_kind, arity_at, head_kind, head, pair_kind, pair}
use Rattle.cycle.specs.Room.{reaches, str_reached, lis_reached, run_room, room_of}
use Rattle.cycle.specs.Bound.{if_named, named_less, named, room_le}
use Rattle.cycle.specs.Most.{own_kind, own_room, own_from, most_room}

-- ---- it is enough
module _ (s : List ℕ) where
  -- what is counted at the functor cell itself
  abbrev self : ℕ → ℕ
  self f = cond (eqb (arity_at s f) 0) 0 (arity_at s f + 1)

  -- and at each Str that names it
  abbrev bare : ℕ → ℕ
  bare f = if_named (cond (eqb (arity_at s f) 0) 1 0) f

  counted : (str lis str' lis' : Bool) (a : ℕ) → (str ≡ true → str' ≡ true) → (lis ≡ true → lis' ≡ true) → run_room str lis a ≤ cond (eqb a 0) 0 (a + 1) + (cond str' (cond (eqb a 0) 1 0) 0 + cond lis' 2 0)
  unfolding run_room
  counted str lis str' lis' a p q = let x = one str p in let y = two lis q in omega arith
    where
      one : (b : Bool) → (b ≡ true → str' ≡ true) → cond b (1 + a) 0 ≤ cond (eqb a 0) 0 (a + 1) + cond str' (cond (eqb a 0) 1 0) 0
      one true f = rw (f refl) (elim (ℕ_discrete a 0) [ yes z ↦ rw (eq-eqb a 0 z) (omega arith) | no z ↦ rw (ne_eqb a 0 z) (omega arith) ])
      one false f = omega arith

      two : (b : Bool) → (b ≡ true → lis' ≡ true) → cond b 2 0 ≤ cond lis' 2 0
      two true f = rw (f refl) (omega arith)
      two false f = omega arith

  at_cell : (i : ℕ) → self i + (bare (head s i) + if_named 2 (pair s i)) ≤ own_room s i
  unfolding own_room own_kind head head_kind pair pair_kind arity_at arity_kind
  at_cell i = go (kind_at s i)
    where
      go : (q : Kind) → cond (eqb (arity_kind q) 0) 0 (arity_kind q + 1) + (bare (head_kind q) + if_named 2 (pair_kind q)) ≤ own_kind s q
      go (Var v) = omega arith
      go (Str f) = let l = named_less (cond (eqb (arity_at s f) 0) 1 0) f in omega arith
      go (Lis m) = let l = named_less 2 m in omega arith
      go (Atom n a) = omega arith
      go (Fixnum z) = omega arith
      go Bad = omega arith

  module _ (top : ℕ) (wf : WellFormed s top) (root : ℕ) where
    some_name : (g : ℕ → ℕ) (f : ℕ) → some_below top (λ x. reaches s top root x && eqb (g x) f) ≡ true → named g top f ≡ true
    some_name g f e =
        let t = some_holds (λ x. reaches s top root x && eqb (g x) f) top e in
        some_true (λ x. eqb (g x) f) top t.0 t.1 ((and-eq-true_iff (reaches s top root t.0) (eqb (g t.0) f)).0 t.2).1

    -- no copy needs more
    pub most_enough : room_of s top root ≤ most_room s top
    unfolding room_of str_reached lis_reached most_room own_from head head_kind pair pair_kind kind_of by_tag
    most_enough =
        room_le s top wf (str_reached s top root) (lis_reached s top root) self bare (if_named 2) (head s) (pair s) (own_room s)
        (λ f l. rw (ne_eqb f 0 (λ z. omega arith)) (counted (str_reached s top root f) (lis_reached s top root f) (named (head s) top f) (named (pair s) top f) (arity_at s f) (some_name (head s) f) (some_name (pair s) f)))
        (ap (λ (w : ℕ). bare (head_kind (kind_of w))) wf.zeroth)
        (ap (λ (w : ℕ). if_named 2 (pair_kind (kind_of w))) wf.zeroth)
        at_cell
