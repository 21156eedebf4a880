-- `storecheck::words` meets its contract. The loop's invariant: the first `i` words are read.
use Rattle.std.proofs.Common.{◌≡◌, take, map}
use Rattle.std.specs.Int.{w64, from_le_bytes}
use Rattle.storecheck.proofs.words.Given as goal

abbrev pub invariant-loop-i : goal.invariant-loop-i
invariant-loop-i l = take l.i l.cells ≡ map (from_le_bytes w64) (take l.i l.chunks)
