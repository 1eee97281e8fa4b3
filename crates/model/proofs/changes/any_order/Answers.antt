-- The contract is a law, which is proved of the model.
use Rattle.model.proofs.Deciding.{any_order}
use Rattle.model.proofs.changes.any_order.Goals as goal

pub returns : goal.returns
returns c = any_order
