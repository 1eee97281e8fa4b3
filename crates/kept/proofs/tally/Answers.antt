use Rattle.std.proofs.Common.{◌≡◌, ◌*◌, ◌/◌, length, ap, ◌∙◌, arith}
use Rattle.slots.specs.Cells.{all_cells, cells_at}
use Rattle.model.specs.Paper.{view}
use Rattle.pieces.specs.Store.{slot, piece}
use Rattle.slots.proofs.Words.{length_cells}
use Rattle.kept.proofs.Remembered.{above_store}
use Rattle.kept.proofs.Seen.{view_most}
use Rattle.kept.proofs.Tallies.{tally_here, tally_other}
use Rattle.kept.proofs.tally.Goals as goal

pub set_tally-requires-clause-accepted : goal.set_tally-requires-clause-accepted
set_tally-requires-clause-accepted c =
    let words = c.part-cells.result.now in
    let small = c.requires.store.table.order.small c.args.k c.requires.here in
    omega (arith, c.seen_of.ensures.accepted, view_most 1 (all_cells words), length_cells words 0 (length words / 4), c.part-cells.ensures.long, c.used.ensures, small)

pub set_tally-requires-clause-rejected : goal.set_tally-requires-clause-rejected
set_tally-requires-clause-rejected c =
    let words = c.part-cells.result.now in
    let small = c.requires.store.table.order.small c.args.k c.requires.here in
    omega (arith, c.seen_of.ensures.rejected, view_most 2 (all_cells words), length_cells words 0 (length words / 4), c.part-cells.ensures.long, c.used.ensures, small)

pub returns : goal.returns
unfolding piece
returns c =
    let words = c.args.c.now in
    let p = c.args.p.now in
    let q = c.set_tally.new.p in
    let s = c.args.s in
    let k = c.args.k in
    let here = c.requires.here in
    let st = c.requires.store in
    let t = c.set_tally.ensures.counted in
    let n = c.seen_of.result in
    let cells : all_cells c.part-cells.result.now ≡ piece words p k = c.part-cells.ensures.cells ∙ ap (cells_at words (1024 * slot p k)) c.used.ensures in
    record {
      above = t.above;
      store = above_store words p q s st t.above;
      trees = c.set_tally.ensures.trees;
      here = tally_here words p q s k n.accepted n.rejected st here t (c.seen_of.ensures.accepted ∙ ap (λ xs. length (view 1 xs)) cells)
          (c.seen_of.ensures.rejected ∙ ap (λ xs. length (view 2 xs)) cells);
      others = tally_other words p q s k n.accepted n.rejected st here t;
    }
