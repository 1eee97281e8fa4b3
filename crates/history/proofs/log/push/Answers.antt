-- The entry at the cursor becomes the latest.
use Rattle.std.proofs.Common.{arith}
use Rattle.history.proofs.Keeping.{push_can, pushed}
use Rattle.history.proofs.log.push.Goals as goal

pub returns : goal.returns
returns c =
    record {
      pushes = pushed c.args.u.now c.write.new.u c.read-log.result c.args.size c.args.count c.read-log.ensures c.write.ensures.head c.write.ensures.rest c.write.auto.u;
      rest = c.write.ensures.rest;
    }

pub overflow_add-state : goal.overflow_add-state
overflow_add-state c = omega (arith, push_can c.args.u.now c.read-log.result c.args.size c.args.count c.requires c.read-log.ensures)

pub overflow_add-state-2 : goal.overflow_add-state-2
overflow_add-state-2 c = omega (arith, push_can c.args.u.now c.read-log.result c.args.size c.args.count c.requires c.read-log.ensures)

pub overflow_add-state-3 : goal.overflow_add-state-3
overflow_add-state-3 c = omega (arith, push_can c.args.u.now c.read-log.result c.args.size c.args.count c.requires c.read-log.ensures)
