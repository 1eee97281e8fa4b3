use Rattle.std.proofs.Common.{rules, ◌≡◌, ◌+◌, ◌*◌, List, get_or, take}
use Rattle.model.specs.Paper.{Cell}
use Rattle.history.specs.Entry.{undo_of}
use Rattle.kept.specs.Text.{Edited}
use Rattle.session.proofs.Reversing.{cells_back_few}
use Rattle.session.proofs.Writing.{restored}
use Rattle.session.specs.Memory.{limits_of, paper_of, slots_of, tables}
use Rattle.session.specs.Undoing.{entry_in}
use Rattle.session.proofs.cells.take_back.Goals as goal

pub returns : goal.returns
returns c =
    let cs = c.args.cells.now in
    let ps = c.args.pieces.now in
    let us = c.args.undo.now in
    let p = paper_of cs ps in
    let e = entry_in us c.args.at in
    let xs : List Cell = (undo_of e p).cells in
    let from : c.tables_from-from.result ≡ 16 + 2 * get_or ps 1 0 = c.tables_from-from.ensures in
    let front : c.split_at_mut-tables.result.0.now ≡ take (16 + 2 * get_or ps 1 0) ps = rw from at c.split_at_mut-tables.ensures.front in
    let back : c.split_at_mut-tables.result.1.now ≡ tables ps = rw from at c.split_at_mut-tables.ensures.back in
    let slots : c.slots_in-slots.result ≡ slots_of ps = c.slots_in-slots.ensures.is in
    let r = c.undo.ensures e p.changes c.requires.can.there.stands in
    let edited : Edited cs (tables ps) c.undo.new.text.cells.now c.undo.new.text.tables.now (slots_of ps) xs =
    rw (back, slots) at r.edited in
    restored c.requires.held edited (cells_back_few (limits_of ps) (undo_of e p) c.requires.can.fits) front (search (rules, r.same_cells)) (search (rules, r.same_tables))
