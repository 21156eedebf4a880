-- `store::zero_to` meets its contract: the part from one place to the other is filled with 0, and what is behind is 0 already.
use mathlib.Core.Path.{ap, ◌∙◌}
use Prim.Native.Nat.{ℕ}
use lib.ListN.{replicate}
use Rattle.store.specs.Zeros.{part_long, zeroed_fill}
use Rattle.store.proofs.zero_to.Goals as goal

pub returns : goal.returns
returns c = let p = c.requires in zeroed_fill _ p.0 p.1 p.2 (c.fill.ensures.after (λ y e. e) ∙ ap (λ (n : ℕ). replicate n 0) (part_long _ p.0 p.1))
