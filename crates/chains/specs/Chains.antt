-- Chains of Vars among a store's used cells, and shortcuts along them that a work buffer remembers.
use Rattle.std.specs.Prelude.{◌≡◌, cond, List, ℕ, zero, suc, ◌<◌, ◌≤◌, length, get_or, eqb}
use Rattle.store.specs.Store.{step, end_of}

-- all that following asks of the used cells: a step goes to a used cell from 1, and following ends. The words from `top` on may be any.
pub record Chained (s : List ℕ) (top : ℕ) : Type 0 where
  pub room : top ≤ length s
  pub used : (i : ℕ) → 1 ≤ i → i < top → (1 ≤ step s i) × (step s i < top)
  pub ends : (i : ℕ) → 1 ≤ i → i < top → step s (end_of s top i) ≡ end_of s top i

-- j is further along the chain of i: one step along a bound Var leads to it, or more
pub data Ahead (s : List ℕ) : ℕ → ℕ → Type 0 where
  next : {i : ℕ} → (step s i ≡ i → ⊥) → Ahead s i (step s i)
  later : {i j : ℕ} → (step s i ≡ i → ⊥) → Ahead s (step s i) j → Ahead s i j

-- what one look at a cell finds: that its chain ends there, or a cell further along
pub data Onward (s : List ℕ) : ℕ → ℕ → Type 0 where
  stays : {i : ℕ} → step s i ≡ i → Onward s i i
  goes : {i j : ℕ} → Ahead s i j → Onward s i j

-- one word for each used cell: 0, or a cell further along its chain
pub record Hops (s : List ℕ) (top : ℕ) (hops : List ℕ) : Type 0 where
  pub ahead : (i : ℕ) → 1 ≤ i → i < top → (get_or hops i 0 ≡ 0 → ⊥) → Ahead s i (get_or hops i 0)

-- what following leaves of them: they are true still, and no word from `top` on has changed
pub record Hopped (s : List ℕ) (top : ℕ) (old new : List ℕ) : Type 0 where
  pub hops : Hops s top new
  pub long : length new ≡ length old
  pub rest : (j : ℕ) → top ≤ j → get_or new j 0 ≡ get_or old j 0

-- how many of n steps move before one stays
unfoldable pub left : List ℕ → ℕ → ℕ → ℕ
left s zero i = 0
left s (suc n) i = cond (eqb (step s i) i) 0 (suc (left s n (step s i)))
