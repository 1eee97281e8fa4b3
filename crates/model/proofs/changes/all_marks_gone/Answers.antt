-- The contract is a law, which is proved of the model.
use Rattle.model.proofs.Marks.{all_marks_gone}
use Rattle.model.proofs.changes.all_marks_gone.Goals as goal

pub returns : goal.returns
returns c = all_marks_gone
