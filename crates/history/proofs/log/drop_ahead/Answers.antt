-- The end is where the cursor stands.
use Rattle.history.proofs.Keeping.{dropped}
use Rattle.history.proofs.log.drop_ahead.Goals as goal

pub returns : goal.returns
returns c =
    record {
      drops = dropped c.args.u.now c.write.new.u c.read-log.result c.read-log.ensures c.write.ensures.head c.write.ensures.rest c.write.auto.u;
      none = c.write.ensures.head.ahead;
      rest = c.write.ensures.rest;
    }
