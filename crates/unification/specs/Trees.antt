-- What cells mean to every depth: trees, finite or endless, that agree with what the cells show, and cells that agree with one another.
use Rattle.std.specs.Prelude.{◌≡◌, List, ℕ, zero, suc, ◌<◌}
use Rattle.terms.specs.View.{Constant, View, free, con, nod, Shape, arity_of, look_at, shape_of}

-- what stands at the top of a tree: an atom or number, a name and an arity, or a variable
pub data Label : Type 0 where
  leaf : Constant → Label
  functor : ℕ × ℕ → Label
  var : ℕ → Label

-- trees, finite or endless, are anything that has a label and subtrees; P says which cells are spoken of
module _ (D : Type 0) (label : D → Label) (sub : D → ℕ → D) (P : ℕ → Type 0) (sh : Shape) where
  -- the tree d is what a view shows, where σ gives each cell its tree
  abbrev pub Has : (ℕ → D) → D → View → Type 0
  Has σ d (free v) = d ≡ σ v
  Has σ d (con c) = label d ≡ leaf c
  Has σ d (nod n) = (label d ≡ functor (sh.fun n)) × ((k : ℕ) → k < arity_of sh n → P (sh.arg n k) × (sub d k ≡ σ (sh.arg n k)))

  -- the trees that σ gives to the cells spoken of agree with what the cells show
  abbrev pub Solves : (ℕ → D) → (ℕ → View) → Type 0
  Solves σ look = (i : ℕ) → P i → Has σ (σ i) (look i)

  -- σ makes two cells equal
  abbrev pub Equal : (ℕ → D) → ℕ → ℕ → Type 0
  Equal σ i j = P i × P j × (σ i ≡ σ j)

-- ---- agreement to a depth
-- two views agree, where R relates the arguments
abbrev pub Same : Shape → (ℕ → ℕ → Type 0) → View → View → Type 0
Same sh R (free v) (free w) = v ≡ w
Same sh R (free v) (con c) = ⊥
Same sh R (free v) (nod n) = ⊥
Same sh R (con c) (free v) = ⊥
Same sh R (con c) (con d) = c ≡ d
Same sh R (con c) (nod n) = ⊥
Same sh R (nod n) (free v) = ⊥
Same sh R (nod n) (con c) = ⊥
Same sh R (nod n) (nod m) = (sh.fun n ≡ sh.fun m) × ((k : ℕ) → k < arity_of sh n → R (sh.arg n k) (sh.arg m k))

-- two cells agree to depth d
abbrev pub Agree : Shape → (ℕ → View) → ℕ → ℕ → ℕ → Type 0
Agree sh look zero i j = Unit {0}
Agree sh look (suc d) i j = Same sh (Agree sh look d) (look i) (look j)

-- ---- of a store
-- the trees that σ gives to the cells of P agree with the cells of a store, and P has the arguments of each compound in it
abbrev pub SolvesAt : (D : Type 0) → (D → Label) → (D → ℕ → D) → (ℕ → Type 0) → List ℕ → ℕ → (ℕ → D) → Type 0
SolvesAt D label sub P s top σ = Solves D label sub P (shape_of s) σ (look_at s top)

-- two cells of a store agree to every depth
abbrev pub AgreeAt : List ℕ → ℕ → ℕ → ℕ → Type 0
AgreeAt s top i j = (d : ℕ) → Agree (shape_of s) (look_at s top) d i j
