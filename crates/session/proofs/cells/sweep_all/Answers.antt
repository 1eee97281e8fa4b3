use Rattle.std.proofs.Common.{rules, ◌≡◌, ◌+◌, ◌*◌, List, get_or, take, arith}
use Rattle.model.specs.Paper.{Cell}
use Rattle.kept.specs.Text.{Edited}
use Rattle.sweep.specs.Sweep.{swept}
use Rattle.session.proofs.Striking.{length_swept}
use Rattle.session.proofs.Writing.{restored, row_before}
use Rattle.session.specs.Memory.{paper_of, slots_of, tables}
use Rattle.session.proofs.cells.sweep_all.Goals as goal

pub returns : goal.returns
returns c =
    let cs = c.args.cells.now in
    let ps = c.args.pieces.now in
    let p = paper_of cs ps in
    let xs : List Cell = swept c.args.action p.changes p.cells in
    let from : c.tables_from-from.result ≡ 16 + 2 * get_or ps 1 0 = c.tables_from-from.ensures in
    let front : c.split_at_mut-head.result.0.now ≡ take (16 + 2 * get_or ps 1 0) ps = rw from at c.split_at_mut-head.ensures.front in
    let back : c.split_at_mut-head.result.1.now ≡ tables ps = rw from at c.split_at_mut-head.ensures.back in
    let slots : c.slots_in-slots.result ≡ slots_of ps = c.slots_in-slots.ensures.is in
    let row = row_before ps c.split_at_mut-head.result.0.now front c.requires.changes_fit in
    let edited : Edited cs (tables ps) c.sweep_all.new.text.cells.now c.sweep_all.new.text.tables.now (slots_of ps) xs = rw (back, slots, c.row_in-row.ensures.words, c.row_in-row.ensures.len, row) at c.sweep_all.ensures.swept.edited in
    let short = length_swept c.args.action p.changes p.cells in
    restored c.requires edited (omega (arith, c.requires.cells_fit)) front (search rules) (search rules)
