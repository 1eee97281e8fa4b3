use Rattle.std.proofs.Common.{◌∙◌}
use Rattle.transcript.proofs.Serving.{line_done}
use Rattle.transcript.proofs.open.OpenDesk.answer_line.Goals as goal

pub returns-in-Ok : goal.returns-in-Ok
returns-in-Ok c =
    let p = c.in-Ok.ensures in
    line_done c.args.self.now c.answer_call.new.self c.args.line.now c.as_slice.result.now c.args.out.now.items c.answer_call.new.out.items c.answer_call.result
    (p.0, p.1, c.as_slice.ensures.value ∙ p.2) c.answer_call.ensures
