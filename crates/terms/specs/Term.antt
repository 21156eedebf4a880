-- Finite terms (ISO/IEC 13211-1, 7.1), with one induction over them and one way to show two lists of arguments equal.
use Rattle.std.specs.Prelude.{◌≡◌, ℕ, zero, suc, ◌<◌}
use Rattle.std.proofs.Common.{ap, ap₂, arith}
use Rattle.terms.specs.View.{Constant}

-- a term is a variable, an atom or number, or a compound: a name and one argument or more
mutual
  pub data Term : Type 0 where
    variable : ℕ → Term
    constant : Constant → Term
    compound : ℕ → Terms → Term

  pub data Terms : Type 0 where
    one : Term → Terms
    more : Term → Terms → Terms

-- how many arguments there are
abbrev pub many : Terms → ℕ
many (one t) = 1
many (more t ts) = suc (many ts)

-- the argument of number k, from 0
abbrev pub nth : Terms → ℕ → Term
nth (one t) k = t
nth (more t ts) zero = t
nth (more t ts) (suc k) = nth ts k

-- what holds of variables, atoms and numbers, and of a compound where it holds of its arguments, holds of every term
module _ (P : Term → Type 0) (pv : (v : ℕ) → P (variable v)) (pc : (c : Constant) → P (constant c)) (pf : (f : ℕ) (ts : Terms) → ((k : ℕ) → k < many ts → P (nth ts k)) → P (compound f ts)) where
  mutual
    pub term_ind : (t : Term) → P t
    term_ind (variable v) = pv v
    term_ind (constant c) = pc c
    term_ind (compound f ts) = pf f ts (λ k h. args_ind ts k h)

    args_ind : (ts : Terms) (k : ℕ) → k < many ts → P (nth ts k)
    args_ind (one t) k h = term_ind t
    args_ind (more t ts) zero h = term_ind t
    args_ind (more t ts) (suc k) h = args_ind ts k (omega arith)

many_some : (ts : Terms) → 0 < many ts
many_some (one t) = omega arith
many_some (more t ts) = omega arith

-- as many arguments, and the same at each number
pub terms_ext : (ts us : Terms) → many ts ≡ many us → ((k : ℕ) → k < many ts → nth ts k ≡ nth us k) → ts ≡ us
terms_ext (one t) (one u) e h = ap one (h 0 (omega arith))
terms_ext (one t) (more u us) e h = absurd (omega (arith, many_some us))
terms_ext (more t ts) (one u) e h = absurd (omega (arith, many_some ts))
terms_ext (more t ts) (more u us) e h = ap₂ more (h 0 (omega arith)) (terms_ext ts us (omega arith) (λ k l. h (suc k) (omega arith)))
