-- The contract is a law, which is proved of the model.
use Rattle.model.proofs.Undoing.{undone_redone}
use Rattle.model.proofs.changes.undone.Goals as goal

pub returns : goal.returns
returns c = undone_redone
