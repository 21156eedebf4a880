-- `trial_vectors::replay` meets its contract, which asks only that it is safe and ends: each row takes
-- a byte or more, and differs at most once.
use Rattle.std.proofs.Common.{◌≤◌, ◌+◌, length}
use Rattle.trial_vectors.proofs.replay.Given as goal

abbrev pub invariant-loop-row : goal.invariant-loop-row
invariant-loop-row g l = (l.rows + length l.reader.rest.now ≤ length l.text) × (l.different ≤ l.rows)

abbrev pub decreases-loop-row : goal.decreases-loop-row
decreases-loop-row g l = length l.reader.rest.now
