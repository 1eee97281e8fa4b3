use Rattle.std.proofs.Common.{get_or, add-one, arith}
use Rattle.session.proofs.Putting.{still}
use Rattle.session.proofs.Striking.{strike_written}
use Rattle.session.proofs.desk.Desk.write_strike.Goals as goal

pub add_change-requires : goal.add_change-requires
add_change-requires c =
    let same = still c.sweep_run.ensures in
    omega (arith, same.0, same.1, c.requires.room)

pub returns : goal.returns
returns c =
    let ps = c.args.self.now.pieces.now in
    let e = c.add_change.ensures in
    record {
      same_cells = e.same_cells;
      same_pieces = e.same_pieces;
      same_undo = e.same_undo;
      wrote =
          strike_written c.args.self.now.cells.now ps c.args.self.now.held c.args.author c.args.at c.args.count (add-one (get_or ps 3 0)) c.sweep_run.ensures e.wrote;
      log = e.log;
    }
