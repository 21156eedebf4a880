-- `copy::Copier::scan_cell` meets its contract: the cell is followed, and then becomes what the rules say.
use Rattle.std.proofs.Common.{◌≡◌, get_or}
use Rattle.copy.specs.Rules.{act}
use Rattle.copy.specs.Asks.{state_of, follows}
use Rattle.copy.specs.Copier.{state}
use Rattle.copy.specs.Turn.{turn_can, turn_is, turn_kept, turn_ready}
use Rattle.copy.proofs.Copier.scan_cell.Goals as goal
use Rattle.copy.proofs.Copier.scan_cell.Goals.{After-copy_cell}

pub end_cell-c-requires : goal.end_cell-c-requires
end_cell-c-requires c = let o = c.requires in (o.1, follows _ _ _ _ _ o.0 o.1)

pub copy_cell-requires : goal.copy_cell-requires
copy_cell-requires c =
    let o = c.requires in
    let e = c.end_cell-c.ensures in
    rw (e.untouched.0, e.untouched.1, e.goes.2) (e.ended, (o.0.inv.above, o.1, turn_can _ _ _ _ _ o.0 o.1 _ e.followed _ _ e.ended e.word))

-- what the cell becomes, of the cells as they were: following changed none
acted : (c : After-copy_cell) → let a = c.args.self.now in let e = c.end_cell-c in state c.copy_cell.new.self ≡ act a.top (state_of a.cells.now e.new.self.work.now a.end) c.args.p (get_or a.cells.now e.result.at 0) e.result.kind
acted c = let e = c.end_cell-c.ensures in rw (e.untouched.0, e.untouched.1, e.goes.2) at c.copy_cell.ensures.state

pub returns-clause-state : goal.returns-clause-state
returns-clause-state c =
    let o = c.requires in
    let e = c.end_cell-c.ensures in
    rw (c.copy_cell.ensures.goes.2, e.goes.2) (turn_is _ _ _ _ _ o.0 o.1 _ e.followed _ _ e.ended e.word _ _ _ (acted c))

pub returns-clause-next : goal.returns-clause-next
returns-clause-next c =
    let o = c.requires in
    let e = c.end_cell-c.ensures in
    rw (c.copy_cell.ensures.goes.2, e.goes.2) (turn_ready _ _ _ _ _ o.0 o.1 _ e.followed _ _ e.ended e.word _ _ _ (acted c))

pub returns-clause-kept : goal.returns-clause-kept
returns-clause-kept c =
    let o = c.requires in
    let e = c.end_cell-c.ensures in
    turn_kept _ _ _ _ _ o.0 o.1 _ e.followed _ _ e.ended e.word _ _ _ (acted c)
