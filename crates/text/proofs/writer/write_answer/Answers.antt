use Rattle.std.proofs.Common.{subst}
use Rattle.text.specs.Lines.{Stops}
use Rattle.text.specs.Shown.{answer_shown}
use Rattle.text.proofs.Ends.{end_place, stops_there, answer_stop}
use Rattle.text.proofs.Shows.{written, no_stop}
use Rattle.text.proofs.writer.write_answer.Goals as goal

pub returns-in-Ok-clause-line : goal.returns-in-Ok-clause-line
returns-in-Ok-clause-line c = λ a ok e. written c.args.answer.now a ok e c.in-Ok.line.items c.in-Ok.ensures

pub overflow_sub-result : goal.overflow_sub-result
overflow_sub-result c =
    let stops = subst (Stops (answer_shown c.args.answer.now)) c.in-Err-At.field-0-is c.in-Err-At.ensures in
    (end_place c.args.answer.now c.in-Err-At.rest.now (answer_stop c.args.answer.now c.in-Err-At.rest.now stops)).1

pub returns-in-Err-At-clause-shown : goal.returns-in-Err-At-clause-shown
returns-in-Err-At-clause-shown c =
    let stops = subst (Stops (answer_shown c.args.answer.now)) c.in-Err-At.field-0-is c.in-Err-At.ensures in
    stops_there (answer_shown c.args.answer.now) c.args.answer.now c.in-Err-At.rest.now (answer_stop c.args.answer.now c.in-Err-At.rest.now stops) stops

pub returns-in-Err-At-clause-line : goal.returns-in-Err-At-clause-line
returns-in-Err-At-clause-line c =
    let stops = subst (Stops (answer_shown c.args.answer.now)) c.in-Err-At.field-0-is c.in-Err-At.ensures in
    λ a ok e. no_stop c.args.answer.now a ok e c.in-Err-At.rest.now stops
