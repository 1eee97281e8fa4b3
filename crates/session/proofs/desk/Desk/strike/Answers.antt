use Rattle.std.proofs.Common.{refl}
use Rattle.std.proofs.lemmas.Result.{err_from_is_err_and}
use Rattle.session.proofs.Striking.{strike_done, strike_nowhere, strike_too_much}
use Rattle.session.proofs.desk.Desk.strike.Goals as goal

pub returns-in_default : goal.returns-in_default
returns-in_default c =
    record {
      same_cells = refl;
      same_pieces = refl;
      same_undo = refl;
      handled =
          strike_nowhere c.args.self.now.cells.now c.args.self.now.pieces.now c.args.self.now.held c.args.self.now.undo.now c.args.author c.args.place c.args.count c.requires.good
          (rw c.count_cells-total.ensures at c.in_default.ensures);
    }

pub returns-in_err-number : goal.returns-in_err-number
returns-in_err-number c =
    let p = err_from_is_err_and c.from_residual.result c.from_residual.ensures.1 in
    rw (p.1, p.2, c.in_err-number.ensures.0) record {
      same_cells = refl;
      same_pieces = refl;
      same_undo = refl;
      handled =
          strike_too_much c.args.self.now.cells.now c.args.self.now.pieces.now c.args.self.now.held c.args.self.now.undo.now c.args.author c.args.place c.args.count c.requires.good
          (rw c.count_cells-total.ensures at c.in-Some.ensures.1) (rw c.count_cells-total.ensures at c.in_err-number.ensures.1);
    }

pub returns : goal.returns
returns c =
    let e = c.write_strike.ensures in
    record {
      same_cells = e.same_cells;
      same_pieces = e.same_pieces;
      same_undo = e.same_undo;
      handled =
          rw e.log (
          strike_done c.args.self.now.cells.now c.args.self.now.pieces.now c.args.self.now.held c.args.self.now.undo.now c.args.author c.args.place c.args.count c.requires.good
          c.in-Some.ensures.0 c.in_ok-number.ensures.0 (rw c.count_cells-total.ensures at c.in-Some.ensures.1) (rw c.count_cells-total.ensures at c.in_ok-number.ensures.1)
          c.strike.ensures e.wrote);
    }
