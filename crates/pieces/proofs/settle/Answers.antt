use Rattle.std.proofs.Common.{arith}
use Rattle.pieces.proofs.Cuts.{same_both}
use Rattle.pieces.proofs.Packs.{same_none, packed_none, packed_all}
use Rattle.pieces.proofs.settle.Goals as goal

pub loop-i-init : goal.loop-i-init
loop-i-init c = (same_none c.args.c.now c.args.p.now c.args.s c.requires.order, c.requires.first, c.requires.packed)

pub loop-i-preserved : goal.loop-i-preserved
loop-i-preserved c = (
  same_both c.args.c.now c.args.p.now c.loop-i.c c.loop-i.p c.pour-i.new.c c.pour-i.new.p c.args.s c.loop-i.invariant.0 c.pour-i.ensures.same,
  c.pour-i.ensures.first,
  c.pour-i.ensures.packed,
)

pub returns-else-used-gt0 : goal.returns-else-used-gt0
returns-else-used-gt0 c =
    record { same = c.loop-i.invariant.0; first = c.loop-i.invariant.1; packed = packed_none c.loop-i.p c.loop-i.i c.args.j c.loop-i.invariant.2 (omega arith) }

pub returns-after-loop-i : goal.returns-after-loop-i
returns-after-loop-i c =
    let le = c.loop-i.invariant.1 in
    record { same = c.loop-i.invariant.0; first = le; packed = packed_all c.loop-i.p c.loop-i.i c.args.j c.loop-i.invariant.2 (omega arith) }
