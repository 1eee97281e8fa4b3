-- The contract is a law, which is proved of the model.
use Rattle.model.proofs.Orders.{any_list_order}
use Rattle.model.proofs.changes.any_list_order.Goals as goal

pub returns : goal.returns
returns c = any_list_order
