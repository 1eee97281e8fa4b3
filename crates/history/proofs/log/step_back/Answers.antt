-- The latest entry behind the cursor has room there.
use Rattle.std.proofs.Common.{arith}
use Rattle.history.proofs.Keeping.{back_can, back_at, stepped_back, keeps_back}
use Rattle.history.proofs.log.step_back.Goals as goal

pub overflow_sub-cursor : goal.overflow_sub-cursor
overflow_sub-cursor c = (back_can c.args.u.now c.read-log.result c.requires.log c.read-log.ensures c.requires.more).fits

pub bounds-u-at : goal.bounds-u-at
bounds-u-at c = omega (arith, back_can c.args.u.now c.read-log.result c.requires.log c.read-log.ensures c.requires.more)

pub overflow_add-state : goal.overflow_add-state
overflow_add-state c = omega (arith, back_can c.args.u.now c.read-log.result c.requires.log c.read-log.ensures c.requires.more)

pub overflow_sub-state-2 : goal.overflow_sub-state-2
overflow_sub-state-2 c = omega (arith, back_can c.args.u.now c.read-log.result c.requires.log c.read-log.ensures c.requires.more)

pub overflow_add-state-2 : goal.overflow_add-state-2
overflow_add-state-2 c = omega (arith, back_can c.args.u.now c.read-log.result c.requires.log c.read-log.ensures c.requires.more)

pub returns : goal.returns
returns c =
    let u = c.args.u.now in
    let new = c.write.new.u in
    let at = back_at c.args.u.now c.read-log.result in
    let steps = stepped_back u new c.read-log.result c.read-log.ensures c.write.ensures.head c.write.ensures.rest c.write.auto.u in
    record {
      steps = steps;
      keeps = λ limit x. (keeps_back u new at limit steps c.requires.more x).0;
      inside = (keeps_back u new at c.requires.log.limit steps c.requires.more c.requires.log.keeps).1;
      rest = c.write.ensures.rest;
    }
