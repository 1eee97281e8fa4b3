use Rattle.std.proofs.Common.{arith}
use Rattle.session.proofs.Putting.{put_written, still}
use Rattle.session.proofs.desk.Desk.write_put.Goals as goal

pub add_change-requires : goal.add_change-requires
add_change-requires c =
    let same = still c.insert.ensures in
    omega (arith, same.0, same.1, c.requires.room)

pub returns : goal.returns
returns c =
    let e = c.add_change.ensures in
    record {
      same_cells = e.same_cells;
      same_pieces = e.same_pieces;
      same_undo = e.same_undo;
      wrote = put_written c.args.author c.args.at c.args.style c.args.letters.now c.insert.ensures e.wrote;
      log = e.log;
    }
