-- The contract is a law, which is proved of the model.
use Rattle.model.proofs.Looking.{as_if}
use Rattle.model.proofs.changes.as_if.Goals as goal

pub returns : goal.returns
returns c = as_if
