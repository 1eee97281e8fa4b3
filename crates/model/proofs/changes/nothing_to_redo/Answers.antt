-- The contract is a law, which is proved of the model.
use Rattle.model.proofs.Undoing.{nothing_to_redo}
use Rattle.model.proofs.changes.nothing_to_redo.Goals as goal

pub returns : goal.returns
returns c = nothing_to_redo
