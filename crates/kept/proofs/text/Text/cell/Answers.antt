use Rattle.std.proofs.Common.{sym, ap, ◌∙◌}
use Rattle.slots.specs.Cells.{cell_at}
use Rattle.pieces.proofs.Texts.{text_at}
use Rattle.kept.proofs.text.Text.cell.Goals as goal

pub returns : goal.returns
returns c =
    c.read.ensures ∙ ap (cell_at c.args.self.now.cells.now) c.«number_of».ensures
    ∙ sym (text_at c.args.self.now.cells.now c.args.self.now.tables.now c.args.self.now.slots c.args.k c.args.j c.requires.here c.requires.within)
