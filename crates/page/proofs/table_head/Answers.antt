use Rattle.std.proofs.Common.{refl}
use Rattle.page.specs.Page.{table_head}
use Rattle.page.proofs.table_head.Goals as goal

pub returns : goal.returns
unfolding table_head
returns c = refl
