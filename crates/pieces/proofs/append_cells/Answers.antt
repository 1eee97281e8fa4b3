use Rattle.std.proofs.Common.{ap, ◌∙◌}
use Rattle.pieces.specs.Store.{number}
use Rattle.pieces.proofs.Cells.{appended}
use Rattle.pieces.proofs.append_cells.Goals as goal

pub returns : goal.returns
returns c =
    appended c.args.c.now c.copy.new.c c.args.p.now c.args.i c.args.from.piece c.args.from.offset c.args.n c.number_of.result c.number_of-2.result
    c.requires.within c.requires.fits c.number_of.ensures (c.number_of-2.ensures ∙ ap (number c.args.p.now c.args.i) c.used.ensures)
    c.copy.ensures.copied c.copy.ensures.kept
