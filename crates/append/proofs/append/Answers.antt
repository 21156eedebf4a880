-- `append::append` meets its contract: the refusals in the definition's order, and the words taken away again where they do not fit.
use Rattle.std.proofs.Common.{◌≡◌, arith}
use borrow.Rule.Slice.PartMut.{put_mid}
use Prim.Native.Nat.{◌+◌, ◌-◌, ◌≤◌, min}
use Rattle.store.specs.Store.{limit}
use lib.ListN.{length}
use Rattle.trail.specs.State.{state_of}
use Rattle.trail.specs.Facts.{Holds, check_parts}
use Rattle.append.specs.Laid.{laid, put_laid}
use Rattle.append.specs.Appending.{cells_are, room_kept, rest_kept, keep_all, ends_old, placed, put_away}
use Rattle.append.proofs.append.Goals as goal
use Rattle.append.proofs.append.Goals.{In_ok-check, Else-min-t, After-copy_words}

-- past the check every rule holds
good : (c : In_ok-check) → let a = c.args in Holds (state_of a.cells.now a.top.now a.trail.now a.trailed a.marks.now a.marked)
good c = check_parts _ c.in_ok-check.ensures.answer

-- there is room for the words
fitting : (c : Else-min-t) → let a = c.args in length a.words.now ≤ min limit (length a.cells.now) - a.top.now
fitting c = omega arith

-- the words are laid
written : (c : After-copy_words) → let a = c.args in let t = a.top.now in let n = length a.words.now in put_mid t (t + n - t) a.cells.now c.copy_words.new.to ≡ laid a.cells.now t a.words.now
written c = rw c.copy_words.ensures (put_laid _ _ _ (omega arith))

pub good_from-requires : goal.good_from-requires
good_from-requires c =
    let here = goal.at.good_from-requires c in
    let g = good here.In_ok-check in
    let f = fitting here.Else-min-t in
    let e = written here.After-copy_words in
    ((cells_are _ c.args.words.now g).low, keep_all _ _ g f _ e, ends_old _ _ g f _ e)

pub returns-then-good_from : goal.returns-then-good_from
returns-then-good_from c =
    let here = goal.at.returns-then-good_from c in
    placed _ _ (good here.In_ok-check) (fitting here.Else-min-t) _ (written here.After-copy_words) _ c.good_from.ensures c.if-good_from.true

pub zero_to-requires : goal.zero_to-requires
zero_to-requires c =
    let here = goal.at.zero_to-requires c in
    let g = good here.In_ok-check in
    let f = fitting here.Else-min-t in
    let e = written here.After-copy_words in
    (omega arith, room_kept _ _ g f _ e, rest_kept _ _ g f _ e)

pub returns : goal.returns
returns c =
    let here = goal.at.returns c in
    put_away _ _ (good here.In_ok-check) (fitting here.Else-min-t) _ (written here.After-copy_words) _ c.good_from.ensures c.if-good_from.false _ c.zero_to.ensures
