use Rattle.std.proofs.Common.{refl}
use Rattle.session.proofs.Striking.{style_done, style_nowhere}
use Rattle.session.proofs.desk.Desk.style.Goals as goal

pub returns-in_default : goal.returns-in_default
returns-in_default c =
    record {
      same_cells = refl;
      same_pieces = refl;
      same_undo = refl;
      handled =
          style_nowhere c.args.self.now.cells.now c.args.self.now.pieces.now c.args.self.now.held c.args.self.now.undo.now c.args.place c.args.count c.args.style c.requires.good
          (rw c.count_cells-total.ensures at c.in_default.ensures);
    }

pub returns : goal.returns
returns c =
    let e = c.write_style.ensures in
    record {
      same_cells = e.same_cells;
      same_pieces = e.same_pieces;
      same_undo = e.same_undo;
      handled =
          rw e.log (
          style_done c.args.self.now.cells.now c.args.self.now.pieces.now c.args.self.now.held c.args.self.now.undo.now c.args.place c.args.count c.args.style c.requires.good
          c.in-Some.ensures.0 (rw c.count_cells-total.ensures at c.in-Some.ensures.1) c.style.ensures e.wrote);
    }
