-- What the loop over the marks finds out about each mark, from the words of the one before.
use Rattle.std.proofs.Common.{◌≡◌, sym, Bool, true, false, List, ℕ, ◌+◌, add-one}
use Rattle.trail.specs.Rules.{mark_top, mark_trail, top_before, trail_before, rises, mark_good}

module _ (marks : List ℕ) where
  pub top_next : (m t : ℕ) → t ≡ mark_top marks m → t ≡ top_before marks (m + 1)
  unfolding top_before
  top_next m t e = rw (add-one m) e

  pub trail_next : (m t : ℕ) → t ≡ mark_trail marks m → t ≡ trail_before marks (m + 1)
  unfolding trail_before
  trail_next m t e = rw (add-one m) e

module _ (top trailed : ℕ) (marks : List ℕ) where
  module _ (m t c nt nc : ℕ) (x : Bool) (bt : t ≡ top_before marks m) (bc : c ≡ trail_before marks m) (et : nt ≡ mark_top marks m) (ec : nc ≡ mark_trail marks m) (a : x ≡ rises t nt top) where
    pub mark_low : x ≡ false → mark_good top trailed marks m ≡ false
    unfolding mark_good
    mark_low f = rw (← bt, ← et, ← a, f)

    pub mark_is : (y : Bool) → y ≡ rises c nc trailed → x ≡ true → mark_good top trailed marks m ≡ y
    unfolding mark_good
    mark_is y b p = rw (← bt, ← et, ← a, p, ← bc, ← ec) (sym b)
