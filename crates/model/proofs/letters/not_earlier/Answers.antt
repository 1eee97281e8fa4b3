use Rattle.model.proofs.Rows.{not_earlier}
use Rattle.model.proofs.letters.not_earlier.Goals as goal

pub returns : goal.returns
returns c = not_earlier
