use Rattle.std.proofs.Common.{◌≡◌, length, arith}
use Rattle.model.specs.Paper.{view}
use Rattle.model.specs.Values.{way_number}
use Rattle.session.specs.Memory.{paper_of, slots_of, tables}
use Rattle.session.proofs.Looking.{counted, length_view}
use Rattle.session.proofs.Ranges.{way_good}
use Rattle.session.proofs.desk.Desk.count.Goals as goal

pub returns : goal.returns
returns c =
    let cs = c.args.self.now.cells.now in
    let ps = c.args.self.now.pieces.now in
    let cells : c.text.result.cells.now ≡ cs = c.text.ensures.cells in
    let tab : c.text.result.tables.now ≡ tables ps = c.text.ensures.tables in
    let slots : c.text.result.slots ≡ slots_of ps = c.text.ensures.slots in
    let is : c.seen.result ≡ length (view (way_number c.args.way) (paper_of cs ps).cells) = rw (cells, tab, slots) at c.seen.ensures in
    rw is (counted cs ps (way_number c.args.way) c.args.self.now.held (way_good c.args.way))

pub overflow_cast-result : goal.overflow_cast-result
overflow_cast-result c =
    let cs = c.args.self.now.cells.now in
    let ps = c.args.self.now.pieces.now in
    let is : c.seen.result ≡ length (view (way_number c.args.way) (paper_of cs ps).cells) = rw (c.text.ensures.cells, c.text.ensures.tables, c.text.ensures.slots) at c.seen.ensures in
    let few = length_view (way_number c.args.way) (paper_of cs ps).cells in
    omega (arith, c.args.self.now.held.cells_fit, c.args.self.now.held.few_cells)
