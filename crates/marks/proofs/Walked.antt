-- The entries that a loop over a part of the trail meets.
use Rattle.std.proofs.Common.{◌≡◌, ◌∙◌, ℕ, ◌+◌, ◌-◌, ◌<◌, List, length, get_or, take, drop, length-take, length-drop, get_or-take, get_or-drop, arith}
use Rattle.marks.specs.Unbind.{Names}

module _ {trail : List ℕ} {from to below : ℕ} (n : Names trail from to below) where
  -- as many as there are from the one place to the other
  pub part_length : from + length (take (to - from) (drop from trail)) ≡ to
  part_length = let o = n.order in let t = n.there in simp (length-take, length-drop) (omega arith)

  -- the one at i stands in the trail, before the end, and names a cell that is there
  pub part_entry : (i : ℕ) → i < length (take (to - from) (drop from trail)) → let e = get_or (take (to - from) (drop from trail)) i 0 in (e ≡ get_or trail (from + i) 0) × (from + i < to) × (e < below)
  part_entry i h =
      let l = part_length in
      let e = get_or-take (to - from) (drop from trail) i 0 (omega arith) ∙ get_or-drop from trail i 0 in
      let b = n.small (from + i) (omega arith) (omega arith) in
      (e, omega arith, rw e b)
