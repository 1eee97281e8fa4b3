use Rattle.transcript.proofs.Calls.{answers_calls}
use Rattle.transcript.proofs.answers_calls.Goals as goal

pub returns : goal.returns
returns c = answers_calls c.reads_back.ensures c.limits_back.ensures
