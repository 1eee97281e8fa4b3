use Rattle.std.proofs.lemmas.Result.{err_from_is_err_and}
use Rattle.model.specs.Values.{change_of}
use Rattle.session.proofs.Judging.{ask_none, asked}
use Rattle.session.proofs.desk.Desk.ask.Goals as goal

pub returns-in_err-found : goal.returns-in_err-found
returns-in_err-found c =
    let p = err_from_is_err_and c.from_residual.result c.from_residual.ensures.1 in
    rw (p.1, p.2, c.in_err-found.ensures.0)
    (ask_none c.args.self.now.cells.now c.args.self.now.pieces.now c.args.self.now.held c.args.change c.in_err-found.ensures.1)

pub returns : goal.returns
returns c =
    asked c.args.self.now.cells.now c.args.self.now.pieces.now c.args.self.now.held c.args.change (change_of c.in_ok-found.found) c.in_ok-found.ensures.0 c.in_ok-found.ensures.1
