use Rattle.std.proofs.Common.{refl}
use Rattle.slots.specs.Cells.{cell_at}
use Rattle.slots.proofs.read.Goals as goal

pub returns : goal.returns
unfolding cell_at
returns c = refl
