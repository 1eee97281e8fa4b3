use Rattle.std.proofs.Common.{refl}
use Rattle.session.proofs.Striking.{style_written}
use Rattle.session.proofs.desk.Desk.write_style.Goals as goal

pub returns : goal.returns
returns c =
    record {
      same_cells = refl;
      same_pieces = refl;
      same_undo = refl;
      wrote = style_written c.args.self.now.cells.now c.args.self.now.pieces.now c.args.self.now.held c.args.at c.args.count c.args.style c.sweep_run.ensures;
      log = refl;
    }
