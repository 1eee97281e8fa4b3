use Rattle.capi.proofs.Staying.{stays}
use Rattle.capi.proofs.stays_callable.Goals as goal

pub returns : goal.returns
returns c = stays
