use Rattle.std.proofs.Common.{◌<◌, arith}
use Rattle.pieces.specs.Store.{slot}
use Rattle.pieces.proofs.Sets.{noted_grown, noted_has}
use Rattle.pieces.proofs.add_mark.Goals as goal

pub note-requires : goal.note-requires
note-requires c =
    let most = c.requires.order.most in
    let a = c.requires.order.inside c.args.k c.requires.here in
    record { inside = omega arith; words = c.requires.order.words }

pub returns : goal.returns
returns c =
    let most = c.requires.order.most in
    let a = c.requires.order.inside c.args.k c.requires.here in
    let p = c.args.p.now in
    let i = slot p c.args.k in
    let l : i < 2048 = omega arith in
    let e = c.note.ensures in
    record { is = e; grown = rw e (noted_grown p i c.args.mark l c.requires.order.words); has = rw e (noted_has p i c.args.mark l c.requires.order.words c.requires.some) }
