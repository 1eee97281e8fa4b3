use Rattle.codec.proofs.OneAnswer.{one_answer}
use Rattle.codec.proofs.ReadsBack.{reads_back}
use Rattle.session.proofs.Keeping.{main_promise}
use Rattle.session.proofs.main_promise.Goals as goal

pub returns : goal.returns
returns c = main_promise reads_back one_answer
