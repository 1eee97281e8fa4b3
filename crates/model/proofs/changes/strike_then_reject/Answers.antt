-- The contract is a law, which is proved of the model.
use Rattle.model.proofs.Rejecting.{strike_then_reject}
use Rattle.model.proofs.changes.strike_then_reject.Goals as goal

pub returns : goal.returns
returns c = strike_then_reject
