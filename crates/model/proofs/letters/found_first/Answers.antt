use Rattle.model.proofs.Finding.{found_first}
use Rattle.model.proofs.letters.found_first.Goals as goal

pub returns : goal.returns
returns c = found_first
