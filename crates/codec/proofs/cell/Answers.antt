-- The four numbers of a cell, one after another.
use Rattle.std.proofs.Common.{◌++◌, arith}
use Rattle.codec.specs.Bytes.{word_bytes, words_bytes, cells_bytes}
use Rattle.codec.proofs.Writes.{over_step}
use Rattle.codec.proofs.cell.Goals as goal

pub returns-clause-bytes : goal.returns-clause-bytes
unfolding cells_bytes words_bytes word_bytes
returns-clause-bytes c =
    let out = c.args.out.now in
    let a = word_bytes c.args.x.letter in
    let b = word_bytes c.args.x.style in
    let p = word_bytes c.args.x.put_in in
    let s = word_bytes c.args.x.struck in
    let two = over_step out c.args.at a b c.number-at.ensures.bytes (omega arith) (omega arith) c.number-at-2.ensures.bytes in
    let three = over_step out c.args.at (a ++ b) p two (omega arith) (omega arith) c.number-at-3.ensures.bytes in
    over_step out c.args.at ((a ++ b) ++ p) s three (omega arith) (omega arith) c.number.ensures.bytes
