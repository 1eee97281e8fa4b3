use Rattle.model.proofs.Origin.{nothing_from_nowhere}
use Rattle.model.proofs.letters.nothing_from_nowhere.Goals as goal

pub returns : goal.returns
returns c = nothing_from_nowhere
