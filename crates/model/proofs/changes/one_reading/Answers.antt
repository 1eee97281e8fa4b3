-- The contract is a law, which is proved of the model.
use Rattle.model.proofs.File.{one_reading}
use Rattle.model.proofs.changes.one_reading.Goals as goal

pub returns : goal.returns
returns c = one_reading
