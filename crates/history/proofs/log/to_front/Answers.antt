-- The words from the front on are those of the log.
use Rattle.std.proofs.Common.{◌+◌, ◌≤◌, length, arith}
use Rattle.history.proofs.Keeping.{front_stays, front_rest}
use Rattle.history.proofs.log.to_front.Goals as goal

pub returns : goal.returns
returns c =
    let w = c.requires.keeps.log.words in
    let a : c.read-log.result.start ≤ c.read-log.result.end = omega (arith, w.begun, w.ended, c.read-log.ensures) in
    let b : 16 + c.read-log.result.end ≤ length c.args.u.now = omega (arith, w.inside, c.read-log.ensures) in
    record {
      stays =
          front_stays c.args.u.now c.copy_within.new.self c.write.new.u c.read-log.result c.read-log.ensures a b
          c.copy_within.ensures.after c.write.ensures.rest (omega (arith, c.write.auto.u, c.copy_within.ensures.len)) c.write.ensures.head;
      front = c.write.ensures.head.start;
      rest =
          λ n h.
          front_rest c.args.u.now c.copy_within.new.self c.write.new.u c.read-log.result c.read-log.ensures a b
          c.copy_within.ensures.after c.write.ensures.rest (omega (arith, c.write.auto.u, c.copy_within.ensures.len)) n (omega (arith, h, c.read-log.ensures));
    }
