-- The colours of a walk over the links, one for each cell. They may be handed from one walk to the next over the same cells. And tables of the runs that finished cells name.
use Rattle.std.specs.Prelude.{◌≡◌, refl, Bool, true, false, cond, List, ◌⊎◌, ℕ, zero, suc, ◌+◌, ◌<◌, ◌≤◌, eqb, length, get_or, set, replicate}
use Rattle.std.proofs.Common.{sym, subst, ◌∙◌, inl, arith, eq-eqb, ne_eqb, length-set, get_or-set_same, get_or-set_other}
use Rattle.std.proofs.Math.Path.{ap}
use Rattle.std.proofs.Math.Decide.{ℕ_discrete}
use Rattle.std.proofs.lemmas.Bool.{false≢true}
use Rattle.std.proofs.lemmas.List.{length-replicate}
use Rattle.store.specs.Store.{limit}
use Rattle.cycle.specs.declared.Colour.{Colour}
use Rattle.cycle.specs.declared.Colour.TheVariants.{White, Black}
use Rattle.cycle.specs.Graph.{Reaches, Returns, Accessible}
use Rattle.cycle.specs.Links.{Link}

-- the colour of the cell c
abbrev pub colour : List Colour → ℕ → Colour
colour col c = get_or col c White

-- the cell c is finished
abbrev pub Done : List Colour → ℕ → Type 0
Done col c = colour col c ≡ Black

-- no cell is met yet
abbrev pub NoneMet : List Colour → Type 0
NoneMet col = (c : ℕ) → colour col c ≡ White

-- a table with a mark at y; 0 is no cell to mark
unfoldable pub with_mark : List Bool → ℕ → List Bool
with_mark table y = cond (eqb y 0) table (set table y true)

-- the table has a mark at g of each finished cell x from 1 to n - 1, and no mark but at g of a finished cell
pub record Names (g : ℕ → ℕ) (n : ℕ) (col : List Colour) (table : List Bool) : Type 0 where
  pub long : length table ≡ limit
  pub all : (x : ℕ) → 1 ≤ x → x < n → Done col x → 1 ≤ g x → get_or table (g x) false ≡ true
  pub only : (f : ℕ) → get_or table f false ≡ true → (x : ℕ) × Done col x × (g x ≡ f)

-- before and after a walk
pub record Tables (s : List ℕ) (col : List Colour) : Type 0 where
  -- no cell is on the path
  pub colours : (c : ℕ) → (colour col c ≡ White) ⊎ Done col c
  -- finished cells are closed under links
  pub closed : (i j : ℕ) → Done col i → Link s i j → Done col j

-- what a walk from the root did, by the colours before and after it, and what it answered
pub record Walked (s : List ℕ) (root : ℕ) (col₀ col : List Colour) (met : Bool) : Type 0 where
  pub tables : Tables s col
  -- finished are those that the root reaches, and else only cells that were so before
  pub reached : (c : ℕ) → Reaches (Link s) root c → Done col c
  pub only : (c : ℕ) → Done col c → Done col₀ c ⊎ Reaches (Link s) root c
  -- yes: the root reaches a cycle
  pub yes_cyclic : met ≡ true → Returns (Link s) root
  -- no: if every path from the finished cells ended before, it still does
  pub no_straight : met ≡ false → ((c : ℕ) → Done col₀ c → Accessible (Link s) c) → (c : ℕ) → Done col c → Accessible (Link s) c

-- ---- tables with which a first walk starts
-- one value everywhere, past the end too
pub everywhere : {A : Type 0} (a : A) (n j : ℕ) → get_or (replicate n a) j a ≡ a
everywhere a zero j = refl
everywhere a (suc n) zero = refl
everywhere a (suc n) (suc j) = everywhere a n j

pub none_met : (n : ℕ) → NoneMet (replicate n White)
none_met = everywhere White

pub none_done : (col : List Colour) → NoneMet col → (c : ℕ) → Done col c → ⊥
none_done col none c d = let z = none c in let e : White ≡ Black = sym z ∙ d in cc

pub fresh : (s : List ℕ) (n : ℕ) → Tables s (replicate n White)
fresh s n = record {
  colours = λ c. inl (none_met n c);
  closed = λ i j d e. absurd (none_done _ (none_met n) i d);
}

-- ---- marks, one finished cell after the other
module _ (g : ℕ → ℕ) (col : List Colour) where
  pub names_none : (table : List Bool) → table ≡ replicate limit false → Names g 1 col table
  names_none table e = record {
    long = ap length e ∙ length-replicate {A = Bool} limit false;
    all = λ x a b d. absurd (omega arith);
    only = λ f m. absurd (false≢true (sym (everywhere false limit f) ∙ ap (λ (l : List Bool). get_or l f false) (sym e) ∙ m));
  }

  module _ {n : ℕ} {table : List Bool} (t : Names g n col table) where
    pub names_more : Done col n → g n < limit → Names g (n + 1) col (with_mark table (g n))
    unfolding with_mark
    names_more d h = elim (ℕ_discrete (g n) 0) [ yes z ↦ rw (eq-eqb (g n) 0 z) (past (λ x q. let w : x ≡ n → ⊥ = λ i. (let y = ap g i in omega arith) in w)) | no z ↦ rw (ne_eqb (g n) 0 z) marked_too ]
      where
        past : ((x : ℕ) → 1 ≤ g x → x ≡ n → ⊥) → Names g (n + 1) col table
        past w = record { long = t.long; all = λ x a b q p. let v = w x p in t.all x a (omega arith) q p; only = t.only }

        marked_too : Names g (n + 1) col (set table (g n) true)
        marked_too =
            let l = t.long in
            record {
              long = length-set table (g n) true ∙ l;
              all = λ x a b q p. elim (ℕ_discrete (g x) (g n)) [ yes z ↦ rw z (get_or-set_same table (g n) true false (omega arith)) | no z ↦ get_or-set_other table (g n) (g x) true false z ∙ t.all x a (let w : x ≡ n → ⊥ = λ i. z (ap g i) in omega arith) q p ];
              only = λ f m. elim (ℕ_discrete f (g n)) [ yes z ↦ (n, d, sym z) | no z ↦ t.only f (sym (get_or-set_other table (g n) f true false z) ∙ m) ];
            }

    pub names_skip : (Done col n → ⊥) → Names g (n + 1) col table
    names_skip d = record {
      long = t.long;
      all = λ x a b q. t.all x a (let w : x ≡ n → ⊥ = λ i. d (subst (Done col) i q) in omega arith) q;
      only = t.only;
    }

    pub names_to : {m : ℕ} → m ≤ n → Names g m col table
    names_to h = record { long = t.long; all = λ x a b q. t.all x a (omega arith) q; only = t.only }
