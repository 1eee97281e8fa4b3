-- As far as the piece goes.
use Rattle.std.proofs.Common.{arith}
use Rattle.pieces.proofs.Texts.{length_text}
use Rattle.recorder.proofs.Runs.{stretched}
use Rattle.recorder.proofs.stretch_at.Goals as goal

pub locate-spot-requires : goal.locate-spot-requires
locate-spot-requires c =
    let t = c.args.text.now in
    omega (arith, c.requires.some, c.requires.within, length_text t.cells.now t.tables.now t.slots)

pub part-requires : goal.part-requires
part-requires c =
    let t = c.args.text.now in
    let f = c.locate-spot.ensures in
    let k = c.locate-spot.result.piece in
    let inside = t.kept.store.table.order.inside k f.here in
    let small = t.kept.store.table.order.small k f.here in
    omega (arith, t.kept.store.room, f.within, c.used.ensures, c.number_of-from.ensures, c.min.ensures)

pub returns : goal.returns
returns c =
    let t = c.args.text.now in
    stretched t.cells.now t.tables.now t.slots c.args.place c.args.most c.locate-spot.result.piece c.locate-spot.result.offset _ c.number_of-from.result _ c.part.result.now
    t.kept.store c.locate-spot.ensures c.used.ensures c.number_of-from.ensures c.requires.some c.min.ensures c.part.ensures.cells c.part.ensures.long
