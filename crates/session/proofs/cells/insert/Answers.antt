use Rattle.std.proofs.Common.{rules, ◌≡◌, ◌+◌, ◌*◌, ◌++◌, List, get_or, take, drop, arith}
use Rattle.model.specs.Paper.{Cell, new_cells}
use Rattle.kept.specs.Text.{Edited}
use Rattle.session.proofs.Writing.{inserted_length, restored}
use Rattle.session.specs.Memory.{paper_of, slots_of, tables}
use Rattle.session.proofs.cells.insert.Goals as goal

pub returns : goal.returns
returns c =
    let cs = c.args.cells.now in
    let ps = c.args.pieces.now in
    let ls = c.args.letters.now in
    let old = (paper_of cs ps).cells in
    let xs : List Cell = take c.args.place old ++ (new_cells ls c.args.style c.args.change ++ drop c.args.place old) in
    let from : c.tables_from-from.result ≡ 16 + 2 * get_or ps 1 0 = c.tables_from-from.ensures in
    let front : c.split_at_mut-tables.result.0.now ≡ take (16 + 2 * get_or ps 1 0) ps = rw from at c.split_at_mut-tables.ensures.front in
    let back : c.split_at_mut-tables.result.1.now ≡ tables ps = rw from at c.split_at_mut-tables.ensures.back in
    let slots : c.slots_in-slots.result ≡ slots_of ps = c.slots_in-slots.ensures.is in
    let edited : Edited cs (tables ps) c.put.new.self.cells.now c.put.new.self.tables.now (slots_of ps) xs = rw (back, slots) at c.put.ensures.edited in
    let long = inserted_length old ls c.args.place c.args.style c.args.change in
    restored c.requires.held edited (omega (arith, c.requires.fits)) front (search rules) (search rules)
