-- `trial_vectors::Reader::list` meets its contract: what is left of the text only gets shorter.
use Rattle.std.proofs.Common.{◌≤◌, length}
use Rattle.trial_vectors.proofs.Reader.list.Given as goal

abbrev pub invariant-loop-word : goal.invariant-loop-word
invariant-loop-word l = length l.self.rest.now ≤ length l.fn.self.rest.now
