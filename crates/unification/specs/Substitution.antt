-- Substitutions and unifiers of finite terms (ISO/IEC 13211-1, 7.1 and 7.3).
use Rattle.std.specs.Prelude.{◌≡◌, refl, cond, ℕ, zero, suc, ◌+◌, ◌<◌, eqb}
use Rattle.std.proofs.Common.{ap, ap₂, arith}
use Rattle.terms.specs.View.{Constant, atom}
use Rattle.terms.specs.Term.{Term, variable, constant, compound, Terms, one, more, many, nth, terms_ext}
use Rattle.unification.specs.Trees.{Label, leaf, functor, var}

-- the instance of a term by a substitution: the term with a term put for each variable
abbrev mutual
  pub inst : (ℕ → Term) → Term → Term
  inst ρ (variable v) = ρ v
  inst ρ (constant c) = constant c
  inst ρ (compound f ts) = compound f (insts ρ ts)

  pub insts : (ℕ → Term) → Terms → Terms
  insts ρ (one t) = one (inst ρ t)
  insts ρ (more t ts) = more (inst ρ t) (insts ρ ts)

-- a unifier of two terms: its instances of them are identical (7.3)
abbrev pub Unifies : (ℕ → Term) → Term → Term → Type 0
Unifies ρ t u = inst ρ t ≡ inst ρ u

-- the substitution that puts s for v
unfoldable pub only : ℕ → Term → ℕ → Term
only v s w = cond (eqb w v) s (variable w)

-- ---- a finite term as a tree
abbrev pub label : Term → Label
label (variable v) = var v
label (constant c) = leaf c
label (compound f ts) = functor (f, many ts)

abbrev pub sub : Term → ℕ → Term
sub (variable v) k = constant (atom 0)
sub (constant c) k = constant (atom 0)
sub (compound f ts) k = nth ts k

-- a tree with a compound's label and a compound's arguments is that compound
pub compound_is : (d : Term) (f : ℕ) (us : Terms) → label d ≡ functor (f, many us) → ((k : ℕ) → k < many us → sub d k ≡ nth us k) → d ≡ compound f us
compound_is (variable v) f us e h = cc
compound_is (constant v) f us e h = cc
compound_is (compound g ws) f us e h =
    let p : ◌≡◌ {A = ℕ × ℕ} (g, many ws) (f, many us) = cc in
    let q : many ws ≡ many us = ap (λ x. x.1) p in
    ap₂ compound (ap (λ x. x.0) p) (terms_ext ws us q (λ k l. h k (omega arith)))

pub constant_is : (d : Term) (c : Constant) → label d ≡ leaf c → d ≡ constant c
constant_is (variable v) c e = cc
constant_is (constant v) c e = cc
constant_is (compound f ts) c e = cc

-- ---- laws of instances
pub many_insts : (ρ : ℕ → Term) (ts : Terms) → many (insts ρ ts) ≡ many ts
many_insts ρ (one t) = refl
many_insts ρ (more t ts) = ap suc (many_insts ρ ts)

pub nth_insts : (ρ : ℕ → Term) (ts : Terms) (k : ℕ) → nth (insts ρ ts) k ≡ inst ρ (nth ts k)
nth_insts ρ (one t) k = refl
nth_insts ρ (more t ts) zero = refl
nth_insts ρ (more t ts) (suc k) = nth_insts ρ ts k

-- an instance of an instance
mutual
  pub inst_inst : (ρ θ : ℕ → Term) (t : Term) → inst ρ (inst θ t) ≡ inst (λ v. inst ρ (θ v)) t
  inst_inst ρ θ (variable v) = refl
  inst_inst ρ θ (constant c) = refl
  inst_inst ρ θ (compound f ts) = ap (compound f) (insts_insts ρ θ ts)

  insts_insts : (ρ θ : ℕ → Term) (ts : Terms) → insts ρ (insts θ ts) ≡ insts (λ v. inst ρ (θ v)) ts
  insts_insts ρ θ (one t) = ap one (inst_inst ρ θ t)
  insts_insts ρ θ (more t ts) = ap₂ more (inst_inst ρ θ t) (insts_insts ρ θ ts)

mutual
  pub inst_id : (t : Term) → inst variable t ≡ t
  inst_id (variable v) = refl
  inst_id (constant c) = refl
  inst_id (compound f ts) = ap (compound f) (insts_id ts)

  insts_id : (ts : Terms) → insts variable ts ≡ ts
  insts_id (one t) = ap one (inst_id t)
  insts_id (more t ts) = ap₂ more (inst_id t) (insts_id ts)

-- ---- the size of a term: its compounds
unfoldable mutual
  pub size : Term → ℕ
  size (variable v) = 0
  size (constant c) = 0
  size (compound f ts) = suc (sizes ts)

  pub sizes : Terms → ℕ
  sizes (one t) = size t
  sizes (more t ts) = size t + sizes ts
