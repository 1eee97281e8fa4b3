use Rattle.breaks.proofs.Starts.{breaks}
use Rattle.breaks.proofs.same_rows.Goals as goal

pub returns : goal.returns
returns c = breaks
