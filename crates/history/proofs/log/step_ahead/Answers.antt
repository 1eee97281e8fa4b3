-- The entry at the cursor ends before the log does.
use Rattle.std.proofs.Common.{arith}
use Rattle.history.proofs.Keeping.{ahead_can, ahead_at, stepped_ahead, keeps_ahead}
use Rattle.history.proofs.log.step_ahead.Goals as goal

pub bounds-u-at : goal.bounds-u-at
bounds-u-at c = omega (arith, ahead_can c.args.u.now c.read-log.result c.requires.log c.read-log.ensures c.requires.more)

pub bounds-u-at-2 : goal.bounds-u-at-2
bounds-u-at-2 c = omega (arith, ahead_can c.args.u.now c.read-log.result c.requires.log c.read-log.ensures c.requires.more)

pub overflow_add-state : goal.overflow_add-state
overflow_add-state c = omega (arith, ahead_can c.args.u.now c.read-log.result c.requires.log c.read-log.ensures c.requires.more)

pub overflow_add-state-2 : goal.overflow_add-state-2
overflow_add-state-2 c = omega (arith, ahead_can c.args.u.now c.read-log.result c.requires.log c.read-log.ensures c.requires.more)

pub overflow_add-state-3 : goal.overflow_add-state-3
overflow_add-state-3 c = omega (arith, ahead_can c.args.u.now c.read-log.result c.requires.log c.read-log.ensures c.requires.more)

pub overflow_sub-state-2 : goal.overflow_sub-state-2
overflow_sub-state-2 c = omega (arith, ahead_can c.args.u.now c.read-log.result c.requires.log c.read-log.ensures c.requires.more)

pub returns : goal.returns
returns c =
    let u = c.args.u.now in
    let new = c.write.new.u in
    let at = ahead_at c.read-log.result in
    let steps = stepped_ahead u new c.read-log.result c.read-log.ensures c.write.ensures.head c.write.ensures.rest c.write.auto.u in
    record {
      steps = steps;
      keeps = λ limit x. (keeps_ahead u new at limit steps c.requires.more x).0;
      inside = (keeps_ahead u new at c.requires.log.limit steps c.requires.more c.requires.log.keeps).1;
      rest = c.write.ensures.rest;
    }
