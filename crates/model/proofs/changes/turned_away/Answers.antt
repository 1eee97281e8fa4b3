-- The contract is a law, which is proved of the model.
use Rattle.model.proofs.Undoing.{turned_away}
use Rattle.model.proofs.changes.turned_away.Goals as goal

pub returns : goal.returns
returns c = turned_away
