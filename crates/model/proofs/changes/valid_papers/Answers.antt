-- The contract is a law, which is proved of the model.
use Rattle.model.proofs.Valid.{valid_papers}
use Rattle.model.proofs.changes.valid_papers.Goals as goal

pub returns : goal.returns
returns c = valid_papers
