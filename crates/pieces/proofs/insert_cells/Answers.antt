use Rattle.std.proofs.Common.{◌/◌, length}
use Rattle.slots.specs.Cells.{all_cells}
use Rattle.pieces.proofs.Cells.{inserted}
use Rattle.pieces.proofs.insert_cells.Goals as goal

pub returns : goal.returns
returns c =
    inserted c.args.c.now c.copy.new.c c.paste.new.c c.args.p.now c.args.at.piece c.args.at.offset (length c.args.new.now / 4) c.number_of-number.result
    (all_cells c.args.new.now) c.requires.within c.requires.fits c.number_of-number.ensures
    (rw c.used.ensures at c.copy.ensures.copied) (rw c.used.ensures at c.copy.ensures.kept)
    c.paste.ensures.pasted c.paste.ensures.kept
