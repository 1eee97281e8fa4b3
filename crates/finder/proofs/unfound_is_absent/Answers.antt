use Rattle.finder.proofs.Finding.{unfound_is_absent}
use Rattle.finder.proofs.unfound_is_absent.Goals as goal

pub returns : goal.returns
returns c = unfound_is_absent
