-- The oldest entry ends before the cursor.
use Rattle.std.proofs.Common.{arith}
use Rattle.history.proofs.Keeping.{old_can, forgot}
use Rattle.history.proofs.log.forget_oldest.Goals as goal

pub bounds-u-at : goal.bounds-u-at
bounds-u-at c = omega (arith, old_can c.args.u.now c.read-log.result c.requires.log c.read-log.ensures c.requires.more)

pub bounds-u-at-2 : goal.bounds-u-at-2
bounds-u-at-2 c = omega (arith, old_can c.args.u.now c.read-log.result c.requires.log c.read-log.ensures c.requires.more)

pub overflow_add-state : goal.overflow_add-state
overflow_add-state c = omega (arith, old_can c.args.u.now c.read-log.result c.requires.log c.read-log.ensures c.requires.more)

pub overflow_sub-state : goal.overflow_sub-state
overflow_sub-state c = omega (arith, old_can c.args.u.now c.read-log.result c.requires.log c.read-log.ensures c.requires.more)

pub overflow_sub-state-2 : goal.overflow_sub-state-2
overflow_sub-state-2 c = omega (arith, old_can c.args.u.now c.read-log.result c.requires.log c.read-log.ensures c.requires.more)

pub returns : goal.returns
returns c =
    let can = old_can c.args.u.now c.read-log.result c.requires.log c.read-log.ensures c.requires.more in
    record {
      forgets = forgot c.args.u.now c.write.new.u c.read-log.result c.read-log.ensures c.write.ensures.head c.write.ensures.rest c.write.auto.u;
      fewer = omega (arith, can.one, c.read-log.ensures.behind, c.write.ensures.head.behind);
      rest = c.write.ensures.rest;
    }
