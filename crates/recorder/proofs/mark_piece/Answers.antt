-- All cells of the piece, or none.
use Rattle.std.proofs.Common.{ap, arith}
use Rattle.model.specs.Paper.{touched}
use Rattle.slots.specs.Cells.{all_cells}
use Rattle.pieces.specs.Store.{piece}
use Rattle.recorder.proofs.Marking.{marked_front, marked_lacks, marked_same}
use Rattle.recorder.proofs.mark_piece.Goals as goal

pub returns-then-not-may_have : goal.returns-then-not-may_have
returns-then-not-may_have c =
    let t = c.args.text.now in
    marked_front c.args.words.now c.args.words.now (piece t.cells.now t.tables.now c.args.k) c.args.change c.args.first 0
    (marked_lacks c.args.words.now c.args.change c.args.first (piece t.cells.now t.tables.now c.args.k) (c.may_have.ensures.lacks c.if-not-may_have.true))

pub mark_cells-requires : goal.mark_cells-requires
mark_cells-requires c =
    let t = c.args.text.now in
    let order = t.kept.store.table.order in
    let small = order.small c.args.k c.requires.here in
    let n = ap (λ xs. touched xs c.args.change) c.words_of.ensures.cells in
    record {
      low = omega (arith, c.requires.low, c.requires.here, order.most, c.words_of.ensures.long);
      target = omega (arith, c.requires.target);
    }

pub returns : goal.returns
returns c =
    let t = c.args.text.now in
    marked_same c.args.words.now c.mark_cells.new.words c.args.change c.args.first c.mark_cells.result (all_cells c.words_of.result.now) (piece t.cells.now t.tables.now c.args.k)
    c.words_of.ensures.cells c.mark_cells.ensures
