use Rattle.pieces.proofs.Cells.{removed}
use Rattle.pieces.proofs.remove_cells.Goals as goal

pub returns : goal.returns
returns c =
    removed c.args.c.now c.copy.new.c c.args.p.now c.args.at.piece c.args.at.offset c.args.n c.number_of-number.result
    c.requires.within (c.requires.order.small c.args.at.piece c.requires.here) c.number_of-number.ensures
    (rw c.used.ensures at c.copy.ensures.copied) (rw c.used.ensures at c.copy.ensures.kept)
