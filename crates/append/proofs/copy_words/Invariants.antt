-- `append::copy_words` meets its contract. The loop's invariant: the first `i` words are copied.
use Rattle.std.proofs.Common.{◌≡◌, take, length}
use Rattle.append.proofs.copy_words.Given as goal

abbrev pub invariant-loop-i : goal.invariant-loop-i
invariant-loop-i l = (length l.to ≡ length l.from) × (take l.i l.to ≡ take l.i l.from)
