use Rattle.witness.proofs.Keeper.{some_keeper}
use Rattle.witness.proofs.some_keeper.Goals as goal

pub returns : goal.returns
returns c = some_keeper
