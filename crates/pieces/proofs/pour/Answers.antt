use Rattle.std.proofs.Common.{◌≤◌, arith}
use Rattle.pieces.specs.Store.{used}
use Rattle.pieces.proofs.Packs.{same_none, packed_next, poured_text, poured_packed, poured_less}
use Rattle.pieces.proofs.pour.Goals as goal

pub returns : goal.returns
returns c =
    let d = c.shift.new.c in
    let q = c.shift.new.p in
    let n = c.min-n.result in
    let a : n ≤ used c.args.p.now c.args.j = omega arith in
    let less = poured_less c.args.c.now c.args.p.now d q c.args.s c.args.i c.args.j n c.requires.first c.requires.here a c.requires.packed c.shift.ensures in
    record {
      same = poured_text c.args.c.now c.args.p.now d q c.args.s c.args.i c.args.j n c.requires.first c.requires.here a c.requires.packed c.shift.ensures;
      first = omega arith;
      packed = poured_packed c.args.c.now c.args.p.now d q c.args.s c.args.i c.args.j n c.requires.first c.requires.here a c.requires.packed c.shift.ensures;
      falls = omega arith;
    }

pub returns-then-has-ge-FULL : goal.returns-then-has-ge-FULL
returns-then-has-ge-FULL c =
    record {
      same = same_none c.args.c.now c.args.p.now c.args.s c.requires.order;
      first = omega arith;
      packed = packed_next c.args.p.now c.args.i c.args.j c.requires.packed (omega arith);
      falls = omega arith;
    }
