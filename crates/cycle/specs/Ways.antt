-- Ways by a number of edges. A way of `top` edges or more comes to some cell twice, so it holds a cycle, and a shorter way leads to its end.
use Rattle.std.specs.Prelude.{◌≡◌, List}
use Prim.Native.Nat.{ℕ, zero, suc, ◌+◌, ◌-◌, ◌<◌, ◌≤◌}
use native.Mathlib.Omega.{arith}
use Rattle.std.proofs.Math.Nat.{zero-add, suc-add}
use Rattle.std.proofs.Math.Decide.{dec_lt}
use Rattle.store.specs.Store.{WellFormed}
use Rattle.store.specs.Pigeon.{Twice, pigeon}
use Rattle.cycle.specs.Graph.{Edge, Reach, here, over, Cyclic}
use Rattle.cycle.specs.Kids.{edge_kid, kid_used}

-- a way of n edges from i to j
pub data Way (s : List ℕ) : ℕ → ℕ → ℕ → Type 0 where
  stay : {i : ℕ} → Way s 0 i i
  go : {n i j k : ℕ} → Edge s i j → Way s n j k → Way s (suc n) i k

-- the cell after the first k of its edges
unfoldable pub cell : {s : List ℕ} {n i j : ℕ} → Way s n i j → ℕ → ℕ
cell (stay {i}) k = i
cell (go {i = i} e w) zero = i
cell (go e w) (suc k) = cell w k

module _ (s : List ℕ) where
  pub way_reach : {n i j : ℕ} → Way s n i j → Reach s i j
  way_reach stay = here
  way_reach (go e w) = over e (way_reach w)

  pub reach_way : {i j : ℕ} → Reach s i j → (n : ℕ) × Way s n i j
  reach_way here = (0, stay)
  reach_way (over e r) = let w = reach_way r in (suc w.0, go e w.1)

  joined : {m n i j k : ℕ} → Way s m i j → Way s n j k → Way s (m + n) i k
  joined stay v = rw zero-add v
  joined (go e w) v = rw suc-add (go e (joined w v))

  -- the first k edges, and what comes after them
  front : {n i j : ℕ} (w : Way s n i j) (k : ℕ) → k ≤ n → Way s k i (cell w k)
  unfolding cell
  front stay zero h = stay
  front stay (suc k) h = absurd (omega arith)
  front (go e w) zero h = stay
  front (go e w) (suc k) h = go e (front w k (omega arith))

  back : {n i j : ℕ} (w : Way s n i j) (k d : ℕ) → k + d ≡ n → Way s d (cell w k) j
  unfolding cell
  back stay k d h = let z : d ≡ 0 = omega arith in rw z stay
  back (go {n = n} e w) zero d h = let z : d ≡ suc n = omega arith in rw z (go e w)
  back (go e w) (suc k) d h = back w k d (omega arith)

  -- the edges between two of its cells
  part : {n i j : ℕ} (w : Way s n i j) (k d : ℕ) → k + d ≤ n → Way s d (cell w k) (cell w (k + d))
  unfolding cell
  part stay k d h = let z : d ≡ 0 = omega arith in rw z stay
  part (go e w) zero d h = rw zero-add (front (go e w) d (omega arith))
  part (go e w) (suc k) d h = rw suc-add (part w k d (omega arith))

  -- a way round holds an edge
  round : {n i j : ℕ} → Way s n i j → 1 ≤ n → i ≡ j → (k : ℕ) × Edge s i k × Reach s k i
  round stay h q = absurd (omega arith)
  round (go {j = k} e w) h q = (k, e, rw q (way_reach w))

  -- ---- a way through used cells, by the pigeonhole
  module _ (top : ℕ) (wf : WellFormed s top) where
    used : {n i j : ℕ} (w : Way s n i j) → 1 ≤ i → i < top → (k : ℕ) → cell w k < top
    unfolding cell
    used stay l h k = h
    used (go e w) l h zero = h
    used (go {i = i} {j = j} e w) l h (suc k) =
        let n = edge_kid s e in
        let u = kid_used s top wf i l h n.0 n.1 in
        let z = n.2 in
        used w (omega arith) (omega arith) k

    module _ {n i j : ℕ} (w : Way s n i j) (l : 1 ≤ i) (h : i < top) (long : top ≤ n) where
      twice : Twice (cell w) top
      twice = pigeon top (cell w) (λ k _. used w l h k)

      pub way_cyclic : Cyclic s i
      way_cyclic = at twice
        where
          at : Twice (cell w) top → Cyclic s i
          at (a, b, lt, le, e) =
              let z : a + (b - a) ≡ b = omega arith in
              let r = round (part w a (b - a) (omega arith)) (omega arith) (rw z e) in
              (cell w a, r.0, way_reach (front w a (omega arith)), r.1, r.2)

      shorter : (m : ℕ) × (m < n) × Way s m i j
      shorter = at twice
        where
          at : Twice (cell w) top → (m : ℕ) × (m < n) × Way s m i j
          at (a, b, lt, le, e) = (a + (n - b), omega arith, joined (front w a (omega arith)) (rw e (back w b (n - b) (omega arith))))

    cut : (fuel : ℕ) {n i j : ℕ} → n ≤ fuel → Way s n i j → 1 ≤ i → i < top → (m : ℕ) × (m < top) × Way s m i j
    cut zero {n} f w l h = (n, omega arith, w)
    cut (suc fuel) {n} f w l h =
        elim (dec_lt n top) [
          | yes q ↦ (n, q, w)
          | no q ↦ (let t = shorter w l h (omega arith) in let b = t.1 in cut fuel (omega arith) t.2 l h)
        ]

    -- what is reached is reached by fewer edges than there are used cells
    pub short_way : {i j : ℕ} → 1 ≤ i → i < top → Reach s i j → (m : ℕ) × (m < top) × Way s m i j
    short_way l h r = let w = reach_way r in cut w.0 (omega arith) w.1 l h
