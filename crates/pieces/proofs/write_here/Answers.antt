use Rattle.std.proofs.Common.{arith}
use Rattle.model.specs.Values.{cell_of}
use Rattle.pieces.proofs.Sets.{cell_noted}
use Rattle.pieces.proofs.Edit.{written}
use Rattle.pieces.proofs.write_here.Goals as goal

pub returns : goal.returns
returns c =
    let t = c.requires.store in
    let o = t.table.order in
    let most = o.most in
    let a = o.inside c.args.at.piece c.requires.here in
    let noted = cell_noted c.args.p.now c.note.new.p c.note-2.new.p c.args.at.piece (cell_of c.args.cell) (omega arith) (omega arith) o.words
    c.note.ensures c.note-2.ensures in
    let e = c.«number_of-number».ensures in
    let h = written c.args.c.now c.write.new.c c.args.p.now c.note-2.new.p c.args.s c.args.at.piece c.args.at.offset c.«number_of-number».result (cell_of c.args.cell)
    t c.requires.here c.requires.within e c.write.ensures.written c.write.ensures.kept noted.0 noted.1 in
    record { changed = h.0; store = h.1 }
