-- Where a run binds no variable to a Str or a Lis, no cycle comes of it, so there is nothing to test.
-- The theorems stand in proofs/Flat.antt.
use Rattle.std.specs.Prelude.{Bool, true, List, ℕ, ◌-◌, get_or}
use Rattle.std.proofs.Math.Bool.{false}
use Rattle.cell.specs.declared.Kind.{Kind}
use Rattle.cell.specs.declared.Kind.TheVariants.{Var, Str, Lis, Atom, Fixnum, Bad}
use Rattle.store.specs.All.{all_from}
use Rattle.store.specs.Store.{kind_at}

-- neither a Str nor a Lis
abbrev pub flat_kind : Kind → Bool
flat_kind (Var v) = true
flat_kind (Str v) = false
flat_kind (Lis v) = false
flat_kind (Atom n a) = true
flat_kind (Fixnum z) = true
flat_kind Bad = true

-- the cell that entry i of the trail names holds neither
abbrev pub entry_flat : List ℕ → List ℕ → ℕ → Bool
entry_flat cells trail i = flat_kind (kind_at cells (get_or trail i 0))

-- no cell that the trail names, from a place to another, holds either
unfoldable pub bound_flat : List ℕ → List ℕ → ℕ → ℕ → Bool
bound_flat cells trail from to = all_from from (to - from) (entry_flat cells trail)
