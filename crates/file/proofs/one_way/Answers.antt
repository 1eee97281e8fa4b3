use Rattle.file.proofs.Beginnings.{one_way}
use Rattle.file.proofs.one_way.Goals as goal

pub returns : goal.returns
returns c = one_way
