use Rattle.pieces.proofs.Sets.{noted_is, noted_none}
use Rattle.pieces.proofs.note.Goals as goal

pub returns-then-mark-eq0 : goal.returns-then-mark-eq0
returns-then-mark-eq0 c = noted_none c.args.p.now c.args.i c.args.mark c.if-mark-eq0.true

pub returns : goal.returns
returns c = noted_is c.args.p.now c.args.i c.args.mark c.two_bits.result c.two_bits-2.result c.if-mark-eq0.false c.two_bits.ensures c.two_bits-2.ensures
