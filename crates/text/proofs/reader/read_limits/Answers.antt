use Rattle.text.proofs.Ends.{end_place}
use Rattle.text.proofs.Furthest.{limits_end}
use Rattle.text.proofs.Whole.{limits_whole, limits_stop}
use Rattle.text.proofs.reader.read_limits.Goals as goal

pub returns-in-Ok : goal.returns-in-Ok
returns-in-Ok c = limits_whole c.args.line.now c.in-Ok.numbers c.in-Ok.ensures.1 c.in-Ok.ensures.0

pub overflow_sub-result : goal.overflow_sub-result
overflow_sub-result c = (end_place c.args.line.now c.in-Err.rest.now (limits_end c.args.line.now c.in-Err.rest.now c.in-Err.ensures)).1

pub returns-in-Err : goal.returns-in-Err
returns-in-Err c = limits_stop c.args.line.now c.in-Err.rest.now c.in-Err.ensures
