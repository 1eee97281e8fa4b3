use Rattle.finder.proofs.Finding.{full_is_found}
use Rattle.finder.proofs.full_is_found.Goals as goal

pub returns : goal.returns
returns c = full_is_found
