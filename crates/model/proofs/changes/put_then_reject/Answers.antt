-- The contract is a law, which is proved of the model.
use Rattle.model.proofs.Rejecting.{put_then_reject}
use Rattle.model.proofs.changes.put_then_reject.Goals as goal

pub returns : goal.returns
returns c = put_then_reject
