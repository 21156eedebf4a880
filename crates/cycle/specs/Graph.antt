-- The edges of a store, what a cell reaches by them, and what cyclic means.
use Rattle.std.specs.Prelude.{◌≡◌, refl, List, ◌⊎◌, ℕ, ◌+◌, ◌<◌}
use Rattle.std.proofs.Common.{sym, subst, inl, inr}
use Rattle.cell.specs.declared.Kind.TheVariants.{Var, Str, Lis, Atom}
use Rattle.store.specs.Store.{kind_at}

-- edges: a bound Var to its target, Str to each argument, Lis to both cells
pub data Edge (s : List ℕ) : ℕ → ℕ → Type 0 where
  bound : {i v : ℕ} → kind_at s i ≡ Var v → (v ≡ i → ⊥) → Edge s i v
  arg : {i : ℕ} (f n a k : ℕ) → kind_at s i ≡ Str f → kind_at s f ≡ Atom n a → k < a → Edge s i (f + 1 + k)
  first : {i l : ℕ} → kind_at s i ≡ Lis l → Edge s i l
  second : {i : ℕ} (l : ℕ) → kind_at s i ≡ Lis l → Edge s i (l + 1)

-- ---- of any edges E
-- i reaches k by any number of edges, none too
pub data Reaches (E : ℕ → ℕ → Type 0) : ℕ → ℕ → Type 0 where
  here : {i : ℕ} → Reaches E i i
  over : {i j k : ℕ} → E i j → Reaches E j k → Reaches E i k

-- some cell reachable from the root reaches itself by one edge or more
abbrev pub Returns : (ℕ → ℕ → Type 0) → ℕ → Type 0
Returns E root = (i : ℕ) × (j : ℕ) × Reaches E root i × E i j × Reaches E j i

-- every path from i ends
pub data Accessible (E : ℕ → ℕ → Type 0) : ℕ → Type 0 where
  acc : {i : ℕ} → ((j : ℕ) → E i j → Accessible E j) → Accessible E i

-- ---- of a store's edges
abbrev pub Reach : List ℕ → ℕ → ℕ → Type 0
Reach s = Reaches (Edge s)

-- cyclic: some cell reachable from the root reaches itself by one edge or more
abbrev pub Cyclic : List ℕ → ℕ → Type 0
Cyclic s = Returns (Edge s)

abbrev pub Acc : List ℕ → ℕ → Type 0
Acc s = Accessible (Edge s)

-- ---- laws, of any edges
module _ {E : ℕ → ℕ → Type 0} where
  pub join : {i j k : ℕ} → Reaches E i j → Reaches E j k → Reaches E i k
  join here q = q
  join (over e p) q = over e (join p q)

  pub one : {i j : ℕ} → E i j → Reaches E i j
  one e = over e here

  -- what goes over each edge goes to all that is reached
  pub spread : (P : ℕ → Type 0) {i j : ℕ} → Reaches E i j → ((x y : ℕ) → P x → E x y → P y) → P i → P j
  spread P here f p = p
  spread P (over {i = i} {j = j} e r) f p = spread P r f (f i j p e)

  -- what holds where it holds after each edge holds where every path ends
  pub acc_ind : (P : ℕ → Type 0) → ((i : ℕ) → ((j : ℕ) → E i j → P j) → P i) → {i : ℕ} → Accessible E i → P i
  acc_ind P f {i} (acc g) = f i (λ j e. acc_ind P f (g j e))

  starts : {i k : ℕ} → Reaches E i k → (i ≡ k) ⊎ ((j : ℕ) × E i j × Reaches E j k)
  starts here = inl refl
  starts (over {j = j} e p) = inr (j, e, p)

  -- a cycle may be entered one edge later
  later : {i j : ℕ} → E i j → Reaches E j i → (k : ℕ) × E j k × Reaches E k j
  later {i} {j} e r = go (starts r)
    where
      go : (j ≡ i) ⊎ ((k : ℕ) × E j k × Reaches E k i) → (k : ℕ) × E j k × Reaches E k j
      go (inl q) = (j, subst (λ (x : ℕ). E x j) (sym q) e, here)
      go (inr (k, d, p)) = (k, d, join p (one e))

  -- from a cycle one edge leads to a cycle again, so where every path ends there is none
  pub cyclic_next : {i : ℕ} → Returns E i → (j : ℕ) × E i j × Returns E j
  cyclic_next (x, y, here, e, r) = let n = later e r in (y, e, (y, n.0, here, n.1, n.2))
  cyclic_next (x, y, over {j = j} d p, e, r) = (j, d, (x, y, p, e, r))

  pub no_cycle : {i : ℕ} → Accessible E i → Returns E i → ⊥
  no_cycle (acc f) c = let n = cyclic_next c in no_cycle (f n.0 n.1) n.2
