-- The contract is a law, which is proved of the model.
use Rattle.model.proofs.Keeping.{as_it_was}
use Rattle.model.proofs.changes.as_it_was.Goals as goal

pub returns : goal.returns
returns c = as_it_was
