-- The rules in cases, each with what it tells of the two views; every later proof goes by these.
use Rattle.std.specs.Prelude.{◌≡◌, Bool, ◌&&◌, cond, ℕ, ◌<◌, eqb, ltb, ℤ, pos, negsuc, get_or}
use Rattle.std.proofs.Math.Path.{refl, sym, ap}
use Rattle.std.proofs.Common.{◌∙◌, arith}
use Rattle.std.proofs.Math.Bool.{true, false}
use borrow.Author.Tests.{eqb-true, eqb-false, eq-eqb, ne_eqb, lt-ltb, le-ltb}
use Rattle.cell.specs.Kinds.{kind_of}
use Rattle.terms.specs.View.{Constant, atom, number, View, free, con, nod, Shape, view_kind, shape_of}
use Rattle.unification.specs.Machine.{same_number, same_constant, same_fun, skip, bind, join, clash, rule, Machine, view_at, act_of}
use Rattle.unification.specs.Cases.{key, Case, cc, cn, nc, nn, skips, binds, binds', joins, parts}

-- ---- the tests of constants and of functors
number_true : (y z : ℤ) → same_number y z ≡ true → y ≡ z
unfolding same_number
number_true (pos n) (pos m) e = ap pos (eqb-true n m e)
number_true (pos n) (negsuc m) e = let z : ◌≡◌ {A = ℕ} 0 1 = Prim.cc in absurd (omega arith)
number_true (negsuc n) (pos m) e = let z : ◌≡◌ {A = ℕ} 0 1 = Prim.cc in absurd (omega arith)
number_true (negsuc n) (negsuc m) e = ap negsuc (eqb-true n m e)

number_same : (z : ℤ) → same_number z z ≡ true
unfolding same_number
number_same (pos n) = eq-eqb n n refl
number_same (negsuc n) = eq-eqb n n refl

pub constant_true : (c d : Constant) → same_constant c d ≡ true → c ≡ d
unfolding same_constant
constant_true (atom n) (atom m) e = ap atom (eqb-true n m e)
constant_true (atom n) (number z) e = let z : ◌≡◌ {A = ℕ} 0 1 = Prim.cc in absurd (omega arith)
constant_true (number z) (atom n) e = let z : ◌≡◌ {A = ℕ} 0 1 = Prim.cc in absurd (omega arith)
constant_true (number y) (number z) e = ap number (number_true y z e)

pub constant_same : (c : Constant) → same_constant c c ≡ true
unfolding same_constant
constant_same (atom n) = eq-eqb n n refl
constant_same (number z) = number_same z

pub constant_false : (c d : Constant) → same_constant c d ≡ false → c ≡ d → ⊥
constant_false c d e q = let z : same_constant c d ≡ true = ap (same_constant c) (sym q) ∙ constant_same c in let y : ◌≡◌ {A = ℕ} 0 1 = Prim.cc in omega arith

pub fun_true : (f g : ℕ × ℕ) → same_fun f g ≡ true → f ≡ g
unfolding same_fun
fun_true f g = at (eqb f.0 g.0) (eqb f.1 g.1) refl refl
  where
    at : (x y : Bool) → eqb f.0 g.0 ≡ x → eqb f.1 g.1 ≡ y → (x && y) ≡ true → f ≡ g
    at true true p q e = λ i. (eqb-true f.0 g.0 p i, eqb-true f.1 g.1 q i)
    at true false p q e = let z : ◌≡◌ {A = ℕ} 0 1 = Prim.cc in absurd (omega arith)
    at false y p q e = let z : ◌≡◌ {A = ℕ} 0 1 = Prim.cc in absurd (omega arith)

pub fun_same : (f g : ℕ × ℕ) → f ≡ g → same_fun f g ≡ true
unfolding same_fun
fun_same f g h = rw (eq-eqb f.0 g.0 (ap (λ x. x.0) h), eq-eqb f.1 g.1 (ap (λ x. x.1) h))

pub fun_false : (f g : ℕ × ℕ) → same_fun f g ≡ false → f ≡ g → ⊥
fun_false f g e h = let z = fun_same f g h in let y : ◌≡◌ {A = ℕ} 0 1 = Prim.cc in omega arith

free_inj : (v w : ℕ) → free v ≡ free w → v ≡ w
free_inj v w e = Prim.cc

nod_free : (v n : ℕ) → nod n ≡ free v → ⊥
nod_free v n e = let z : ◌≡◌ {A = ℕ} 0 1 = Prim.cc in omega arith

con_free : (v : ℕ) (c : Constant) → con c ≡ free v → ⊥
con_free v c e = let z : ◌≡◌ {A = ℕ} 0 1 = Prim.cc in omega arith

module _ (sh : Shape) (classes : ℕ → ℕ) where
  vars : (v w : ℕ) (p q : Bool) → eqb v w ≡ p → ltb v w ≡ q → Case sh classes (free v) (free w) (cond p skip (cond q (bind w (free v)) (bind v (free w))))
  unfolding key
  vars v w true q e f = skips (ap free (eqb-true v w e))
  vars v w false true e f = binds' w (free v) refl refl (λ h. eqb-false v w e (free_inj v w h))
  vars v w false false e f = binds v (free w) refl refl (λ h. eqb-false v w e (sym (free_inj w v h)))

  cons : (c d : Constant) (p : Bool) → same_constant c d ≡ p → Case sh classes (con c) (con d) (cond p skip clash)
  unfolding key
  cons c d true e = skips (ap con (constant_true c d e))
  cons c d false e = parts (cc c d (constant_false c d e))

  nods : (n m : ℕ) (p q : Bool) → eqb (classes n) (classes m) ≡ p → same_fun (sh.fun n) (sh.fun m) ≡ q → Case sh classes (nod n) (nod m) (cond p skip (cond q (join n m) clash))
  unfolding key
  nods n m true q e f = skips (ap nod (eqb-true (classes n) (classes m) e))
  nods n m false true e f = joins n m refl refl (fun_true _ _ f) (eqb-false (classes n) (classes m) e)
  nods n m false false e f = parts (nn n m (fun_false _ _ f))

  pub case : (a b : View) → Case sh classes a b (rule sh classes a b)
  unfolding rule
  case (free v) (free w) = vars v w _ _ refl refl
  case (free v) (con c) = binds v (con c) refl refl (con_free v c)
  case (free v) (nod n) = binds v (nod n) refl refl (nod_free v n)
  case (con c) (free v) = binds' v (con c) refl refl (con_free v c)
  case (con c) (con d) = cons c d _ refl
  case (con c) (nod n) = parts (cn c n)
  case (nod n) (free v) = binds' v (nod n) refl refl (nod_free v n)
  case (nod n) (con c) = parts (nc n c)
  case (nod n) (nod m) = nods n m _ _ refl refl

  -- of two unbound Vars the higher is bound to the lower, in either order
  pub higher_bound : (v w : ℕ) → v < w → (rule sh classes (free v) (free w) ≡ bind w (free v)) × (rule sh classes (free w) (free v) ≡ bind w (free v))
  unfolding rule
  higher_bound v w h = (rw (ne_eqb v w (λ e. absurd (omega arith)), lt-ltb v w h), rw (ne_eqb w v (λ e. absurd (omega arith)), le-ltb w v (omega arith)))

  -- what shows the same asks for nothing
  pub rule_same : (a b : View) → a ≡ b → rule sh classes a b ≡ skip
  unfolding rule
  rule_same a b e = sym (at a ∙ ap (rule sh classes a) e)
    where
      at : (a : View) → skip ≡ rule sh classes a a
      at (free v) = rw (eq-eqb v v refl)
      at (con c) = rw (constant_same c)
      at (nod n) = rw (eq-eqb (classes n) (classes n) refl)

-- equal words show the same, so the test of words first changes no act
pub act_is : (s : Machine) (a b : ℕ) → act_of s a b ≡ rule (shape_of s.cells) s.classes (view_at s.cells a) (view_at s.cells b)
unfolding act_of
act_is s a b = at (eqb (get_or s.cells a 0) (get_or s.cells b 0)) refl
  where
    at : (p : Bool) → eqb (get_or s.cells a 0) (get_or s.cells b 0) ≡ p → cond p skip (rule (shape_of s.cells) s.classes (view_at s.cells a) (view_at s.cells b)) ≡ rule (shape_of s.cells) s.classes (view_at s.cells a) (view_at s.cells b)
    at true e = sym (rule_same (shape_of s.cells) s.classes _ _ (ap (λ (w : ℕ). view_kind s.cells (kind_of w)) (eqb-true (get_or s.cells a 0) (get_or s.cells b 0) e)))
    at false e = refl
