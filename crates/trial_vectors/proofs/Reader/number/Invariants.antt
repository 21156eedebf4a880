-- `trial_vectors::Reader::number` meets its contract. The loop's invariant: `len` digits are read, and none is 0.
use Rattle.std.proofs.Common.{◌≡◌}
use Rattle.trial_vectors.proofs.Reader.number.Given as goal

abbrev pub invariant-loop-b : goal.invariant-loop-b
invariant-loop-b l = (l.len ≡ l.b-index) × (l.len ≡ 0 → l.value ≡ 0)
