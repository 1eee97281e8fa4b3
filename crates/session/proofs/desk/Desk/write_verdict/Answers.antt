use Rattle.std.proofs.Common.{◌≡◌, arith}
use Rattle.session.proofs.Judging.{verdict_written}
use Rattle.session.proofs.Putting.{still}
use Rattle.session.specs.Acts.{verdict_action}
use Rattle.session.proofs.desk.Desk.write_verdict.Goals.{in-Accepted, in-Rejected}
use Rattle.session.proofs.desk.Desk.write_verdict.Goals as goal

pub judge-requires : goal.judge-requires
judge-requires c = let same = still c.sweep_all.ensures in omega (arith, same.0, c.requires)

pub returns : goal.returns
returns c =
    let v = c.args.verdict in
    let k = c.args.change in
    let e = c.judge.ensures in
    let action : c.match-verdict.action ≡ verdict_action v k = elim c.match-verdict.branch [
      | in-Accepted w ↦ rw w.in-Accepted.is w.action-is
      | in-Rejected w ↦ rw w.in-Rejected.is w.action-is
    ] in
    record {
      same_cells = e.same_cells;
      same_pieces = e.same_pieces;
      same_undo = e.same_undo;
      wrote =
          verdict_written c.args.self.now.cells.now c.args.self.now.pieces.now c.args.self.now.held k v (rw action at c.sweep_all.ensures) (rw c.from.ensures at e.wrote);
      log = e.log;
    }
