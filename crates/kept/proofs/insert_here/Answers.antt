use Rattle.std.proofs.Common.{arith}
use Rattle.slots.specs.Cells.{all_cells}
use Rattle.pieces.specs.Store.{piece}
use Rattle.kept.proofs.Edits.{step_edited, follows_accepted, follows_rejected, step, step_slot, step_trees}
use Rattle.kept.proofs.Seen.{seen_none}
use Rattle.kept.proofs.insert_here.Goals as goal

pub change_tally-requires : goal.change_tally-requires
change_tally-requires c =
    let e = c.insert_here.ensures in
    let o = c.args.at.offset in
    let h = step o 0 (all_cells c.args.new.now) c.requires.kept c.requires.here (omega (arith, c.requires.within)) e.changed e.store in
    let t = piece c.args.c.now c.args.p.now c.args.at.piece in
    record {
      trees = step_trees h;
      here = c.requires.here;
      most = e.store.table.order.most;
      slot = step_slot h;
      accepted = (follows_accepted h 0 c.seen_of.result.accepted (seen_none 1 t o) c.seen_of.ensures.accepted).room;
      rejected = (follows_rejected h 0 c.seen_of.result.rejected (seen_none 2 t o) c.seen_of.ensures.rejected).room;
    }

pub returns : goal.returns
returns c =
    let e = c.insert_here.ensures in
    let o = c.args.at.offset in
    let h = step o 0 (all_cells c.args.new.now) c.requires.kept c.requires.here (omega (arith, c.requires.within)) e.changed e.store in
    let t = piece c.args.c.now c.args.p.now c.args.at.piece in
    let n = c.change_tally.ensures in
    step_edited h c.change_tally.new.p _ _ n.counted n.trees
    (follows_accepted h 0 c.seen_of.result.accepted (seen_none 1 t o) c.seen_of.ensures.accepted).is
    (follows_rejected h 0 c.seen_of.result.rejected (seen_none 2 t o) c.seen_of.ensures.rejected).is
