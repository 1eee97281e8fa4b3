use Rattle.std.proofs.Common.{rules, ◌≡◌, ◌+◌, ◌*◌, get_or, take}
use Rattle.kept.specs.Kept.{Above, Kept}
use Rattle.kept.specs.Text.{Edited}
use Rattle.kept.proofs.Remembered.{above_around, above_text}
use Rattle.session.proofs.Writing.{restored}
use Rattle.session.specs.Memory.{paper_of, slots_of, tables}
use Rattle.session.proofs.cells.keep.Goals as goal

pub returns : goal.returns
returns c =
    let cs = c.args.cells.now in
    let ps = c.args.pieces.now in
    let from : c.tables_from-from.result ≡ 16 + 2 * get_or ps 1 0 = c.tables_from-from.ensures in
    let front : c.split_at_mut-tables.result.0.now ≡ take (16 + 2 * get_or ps 1 0) ps = rw from at c.split_at_mut-tables.ensures.front in
    let back : c.split_at_mut-tables.result.1.now ≡ tables ps = rw from at c.split_at_mut-tables.ensures.back in
    let slots : c.slots_in-slots.result ≡ slots_of ps = c.slots_in-slots.ensures.is in
    let above : Above (tables ps) c.keep.new.p = rw back at c.keep.ensures.above in
    let kept : Kept cs c.keep.new.p (slots_of ps) = rw slots at c.keep.ensures.kept in
    let store = c.requires.held.kept.store in
    let edited : Edited cs (tables ps) cs c.keep.new.p (slots_of ps) (paper_of cs ps).cells =
    record { kept = kept; around = above_around cs (tables ps) c.keep.new.p (slots_of ps) store above; text = above_text cs (tables ps) c.keep.new.p (slots_of ps) store above } in
    restored c.requires.held edited c.requires.held.cells_fit front (search rules) (search rules)
