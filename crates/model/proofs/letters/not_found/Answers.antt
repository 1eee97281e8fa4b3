use Rattle.model.proofs.Finding.{not_found}
use Rattle.model.proofs.letters.not_found.Goals as goal

pub returns : goal.returns
returns c = not_found
