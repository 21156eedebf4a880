-- Words of a buffer that become 0, and what the buffer then holds.
use Rattle.std.specs.Prelude.{◌≡◌, List, ◌++◌, ℕ, ◌+◌, ◌-◌, ◌<◌, ◌≤◌, length, drop, replicate}
use Rattle.std.proofs.Common.{sym, ◌∙◌, arith, length-append, length-drop, ext_get_or}
use Rattle.std.proofs.Math.Path.{ap}
use Rattle.std.proofs.Math.ListN.{get_or, length-replicate, get_or-append}
use Rattle.std.proofs.Math.Seq.{get_or-drop, get_or-append-add}
use Rattle.store.specs.Zeros.{zero_at}
use Rattle.chains.specs.Work.{cleared}

module _ (n : ℕ) (work : List ℕ) (l : n ≤ length work) where
  pub cleared_long : length (cleared n work) ≡ length work
  unfolding cleared
  cleared_long = let z = length-replicate {A = ℕ} n 0 in simp (length-append, length-drop) (omega arith)

  pub cleared_zero : (i : ℕ) → i < n → get_or (cleared n work) i 0 ≡ 0
  unfolding cleared
  cleared_zero i h = let z = length-replicate {A = ℕ} n 0 in get_or-append (replicate n 0) (drop n work) 0 i (omega arith) ∙ zero_at n i

  cleared_rest : (i : ℕ) → get_or (cleared n work) (n + i) 0 ≡ get_or work (n + i) 0
  unfolding cleared
  cleared_rest i =
      let z = length-replicate {A = ℕ} n 0 in
      ap (λ (m : ℕ). get_or (cleared n work) (m + i) 0) (sym z) ∙ get_or-append-add (replicate n 0) (drop n work) i 0 ∙ get_or-drop n work i 0

  pub cleared_other : (i : ℕ) → n ≤ i → get_or (cleared n work) i 0 ≡ get_or work i 0
  cleared_other i h = let z : n + (i - n) ≡ i = omega arith in rw z at (cleared_rest (i - n))

-- lists that differ only below n are cleared to the same
pub cleared_same : (n : ℕ) (old new : List ℕ) → length new ≡ length old → ((i : ℕ) → n ≤ i → get_or new i 0 ≡ get_or old i 0) → cleared n new ≡ cleared n old
unfolding cleared
cleared_same n old new e f =
    ap (λ (y : List ℕ). replicate n 0 ++ y)
    (ext_get_or 0 (drop n new) (drop n old) (simp length-drop (ap (λ (m : ℕ). m - n) e)) (λ i h. get_or-drop n new i 0 ∙ f (n + i) (omega arith) ∙ sym (get_or-drop n old i 0)))
