use Rattle.std.proofs.Common.{refl}
use Rattle.std.proofs.lemmas.Result.{err_from_is_err_and}
use Rattle.model.specs.Values.{change_of}
use Rattle.session.proofs.Judging.{decide_closed, decide_done, decide_none}
use Rattle.session.proofs.desk.Desk.decide.Goals as goal

pub returns-in_err-found : goal.returns-in_err-found
returns-in_err-found c =
    let p = err_from_is_err_and c.from_residual.result c.from_residual.ensures.1 in
    rw (p.1, p.2, c.in_err-found.ensures.0) record {
      same_cells = refl;
      same_pieces = refl;
      same_undo = refl;
      handled = decide_none c.args.self.now.cells.now c.args.self.now.pieces.now c.args.self.now.held c.args.change c.args.self.now.undo.now c.args.verdict c.in_err-found.ensures.1;
    }

pub returns-then-found-ne0 : goal.returns-then-found-ne0
returns-then-found-ne0 c =
    record {
      same_cells = refl;
      same_pieces = refl;
      same_undo = refl;
      handled =
          decide_closed c.args.self.now.cells.now c.args.self.now.pieces.now c.args.self.now.held c.args.change c.args.self.now.undo.now c.args.verdict (change_of c.in_ok-found.found)
          c.in_ok-found.ensures.0 c.in_ok-found.ensures.1 c.if-found-ne0.true;
    }

pub returns : goal.returns
returns c =
    let e = c.write_verdict.ensures in
    record {
      same_cells = e.same_cells;
      same_pieces = e.same_pieces;
      same_undo = e.same_undo;
      handled =
          rw (e.log, c.touched-marked.ensures) (
          (decide_done c.args.self.now.cells.now c.args.self.now.pieces.now c.args.self.now.held c.args.change c.args.verdict (change_of c.in_ok-found.found)
          c.in_ok-found.ensures.0 c.in_ok-found.ensures.1 c.if-found-ne0.false c.decision.ensures e.wrote));
    }
