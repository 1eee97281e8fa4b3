-- The head, the tail, and the entry is pushed.
use Rattle.std.proofs.Common.{arith}
use Rattle.recorder.proofs.Sealing.{room_inside, can_push, sealed, rest_sealed}
use Rattle.recorder.proofs.seal.Goals as goal

pub write_head-requires : goal.write_head-requires
write_head-requires c =
    let r = room_inside c.args.u.now c.requires.limit c.args.head.count c.args.at c.requires.keeps c.requires.room in
    omega (arith, r.0, c.requires.some, c.requires.most)

pub write_tail-requires : goal.write_tail-requires
write_tail-requires c =
    let r = room_inside c.args.u.now c.requires.limit c.args.head.count c.args.at c.requires.keeps c.requires.room in
    record { some = omega (arith, c.requires.some); within = omega (arith, r.0, c.requires.most, c.write_head.auto.u) }

pub push-requires : goal.push-requires
push-requires c = can_push c.args.u.now c.write_head.new.u c.write_tail.new.u c.args.at c.args.head c.requires c.write_head.ensures c.write_tail.ensures

pub returns : goal.returns
returns c =
    record {
      seals = sealed c.args.u.now c.write_head.new.u c.write_tail.new.u c.args.at c.args.head c.requires c.write_head.ensures c.write_tail.ensures c.push.new.u c.push.ensures.pushes;
      rest = rest_sealed c.args.u.now c.write_head.new.u c.write_tail.new.u c.args.at c.args.head c.requires c.write_head.ensures c.write_tail.ensures c.push.new.u c.push.ensures.rest;
    }
