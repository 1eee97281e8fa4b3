-- Two answers with the same bytes are the same.
use Rattle.codec.proofs.OneAnswer.{one_answer}
use Rattle.codec.proofs.one_answer.Goals as goal

pub returns : goal.returns
returns c = one_answer
