use Rattle.std.proofs.Common.{◌≡◌, suc, sym, arith}
use Rattle.pieces.specs.Store.{piece}
use Rattle.slots.specs.Cells.{all_cells}
use Rattle.sweep.proofs.Marks.{touched_here, touched_lacks, touched_past_here}
use Rattle.sweep.proofs.touched_piece.Goals as goal

pub returns-in_default-clause-count : goal.returns-in_default-clause-count
returns-in_default-clause-count c =
    let text = c.args.text.now in
    let past = c.in_default.ensures in
    sym (touched_past_here text.cells.now text.tables.now c.args.k c.args.change c.words_fit.ensures (omega arith))

pub returns-then-not-may_have-clause-count : goal.returns-then-not-may_have-clause-count
returns-then-not-may_have-clause-count c =
    let text = c.args.text.now in
    let is = c.in-Some.ensures.1 in
    let m : c.in-Some.mark ≡ suc c.args.change = omega arith in
    sym (touched_lacks c.args.change (piece text.cells.now text.tables.now c.args.k) (rw m at (c.may_have.ensures.lacks c.if-not-may_have.true)))

pub returns-clause-count : goal.returns-clause-count
returns-clause-count c =
    let text = c.args.text.now in
    let is = c.in-Some.ensures.1 in
    let m : c.in-Some.mark ≡ suc c.args.change = omega arith in
    touched_here (piece text.cells.now text.tables.now c.args.k) (all_cells c.words_of.result.now) c.args.change c.in-Some.mark c.marked_cells.result m c.words_of.ensures.cells c.marked_cells.ensures.count
