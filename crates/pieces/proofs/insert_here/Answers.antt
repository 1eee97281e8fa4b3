use Rattle.std.proofs.Common.{◌/◌, length, arith}
use Rattle.slots.specs.Cells.{all_cells}
use Rattle.slots.proofs.Words.{length_cells}
use Rattle.pieces.proofs.Sets.{piece_noted, sums_beside}
use Rattle.pieces.proofs.Change.{replaced_here, resized_grown}
use Rattle.pieces.proofs.Edit.{changed_store}
use Rattle.pieces.proofs.insert_here.Goals as goal

pub note_cells-requires : goal.note_cells-requires
note_cells-requires c =
    let o = c.requires.store.table.order in
    let most = o.most in
    let words = o.words in
    let e = c.resize.ensures.resized.order c.args.at.piece (omega arith) in
    let a = o.inside c.args.at.piece c.requires.here in
    record { inside = omega arith; words = omega (arith, c.resize.auto.p) }

pub returns : goal.returns
returns c =
    let o = c.requires.store.table.order in
    let k = c.args.at.piece in
    let most = o.most in
    let words = o.words in
    let n = length_cells c.args.new.now 0 (length c.args.new.now / 4) in
    let xs = all_cells c.args.new.now in
    let q = c.resize.new.p in
    let r = c.note_cells.new.p in
    let e = c.resize.ensures.resized.order k (omega arith) in
    let a = o.inside k c.requires.here in
    let noted = piece_noted q r k xs (omega arith) (omega arith) (omega (arith, c.resize.auto.p)) c.note_cells.ensures in
    let changed = replaced_here c.args.c.now c.args.p.now c.insert_cells.new.c r c.args.s k c.args.at.offset 0 _
    xs o c.requires.here (omega arith) (omega arith) (omega arith) c.insert_cells.ensures
    (resized_grown c.args.p.now q r k _ (omega arith) c.resize.ensures.resized noted.0) in
    record {
      changed = changed;
      store = changed_store c.args.c.now c.args.p.now c.insert_cells.new.c r c.args.s k c.args.at.offset 0 xs c.requires.store c.requires.here
          changed (sums_beside q r noted.0.beside c.resize.ensures.sums) noted.1;
    }
