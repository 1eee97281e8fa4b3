use Rattle.std.proofs.Common.{◌≡◌, ◌+◌, ◌<◌, ◌≤◌, length, arith}
use Rattle.model.specs.Paper.{view}
use Rattle.model.specs.Rows.{find_in}
use Rattle.model.specs.Values.{way_number}
use Rattle.session.specs.Memory.{paper_of}
use Rattle.session.proofs.Looking.{find_range, found, found_low}
use Rattle.session.proofs.desk.Desk.find.Goals as goal

pub find-requires : goal.find-requires
find-requires c =
    let range : (way_number c.args.way < 3) × (1 ≤ length c.args.letters.now) × (length c.args.letters.now ≤ 256) =
    find_range c.args.self.now.cells.now c.args.self.now.pieces.now (way_number c.args.way) c.args.from c.args.letters.now c.args.self.now.held c.requires in
    record { some = range.1; most = range.2 }

pub overflow_add-result : goal.overflow_add-result
overflow_add-result c =
    let cs = c.args.self.now.cells.now in
    let ps = c.args.self.now.pieces.now in
    let e = c.text.ensures in
    let is : find_in (view (way_number c.args.way) (paper_of cs ps).cells) c.args.letters.now c.args.from 0 ≡ c.in-Some.place + 1 = rw (e.cells, e.tables, e.slots) at c.in-Some.ensures in
    let low = found_low cs ps (way_number c.args.way) c.args.from c.args.letters.now c.args.self.now.held in
    record { fits = omega (arith, is, low) }

pub returns-in-Some : goal.returns-in-Some
returns-in-Some c =
    let cs = c.args.self.now.cells.now in
    let ps = c.args.self.now.pieces.now in
    let e = c.text.ensures in
    let is : find_in (view (way_number c.args.way) (paper_of cs ps).cells) c.args.letters.now c.args.from 0 ≡ c.in-Some.place + 1 = rw (e.cells, e.tables, e.slots) at c.in-Some.ensures in
    rw is at (found cs ps (way_number c.args.way) c.args.from c.args.letters.now c.args.self.now.held c.requires)

pub returns-in-None : goal.returns-in-None
returns-in-None c =
    let cs = c.args.self.now.cells.now in
    let ps = c.args.self.now.pieces.now in
    let e = c.text.ensures in
    let is : find_in (view (way_number c.args.way) (paper_of cs ps).cells) c.args.letters.now c.args.from 0 ≡ 0 = rw (e.cells, e.tables, e.slots) at c.in-None.ensures in
    rw is at (found cs ps (way_number c.args.way) c.args.from c.args.letters.now c.args.self.now.held c.requires)
