-- `marks::Counts::of_mark` meets its contract: the words of a mark, read as a pair.
use Rattle.std.proofs.Common.{◌-◌, ◌/◌, length, arith}
use Rattle.trail.proofs.Pairs.{mark_words}
use Rattle.marks.proofs.Counts.of_mark.Goals as goal

pub returns : goal.returns
returns c = let m = c.args.marks.now in rw c.as_chunks.ensures.front (mark_words (length m / 2) m (c.args.k - 1) (omega arith))
