use Rattle.sweep.proofs.Laws.{one_meaning}
use Rattle.sweep.proofs.one_meaning.Goals as goal

pub returns : goal.returns
returns c = one_meaning
