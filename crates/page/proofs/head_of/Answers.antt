use Rattle.std.proofs.Common.{refl}
use Rattle.page.specs.Page.{head}
use Rattle.page.proofs.head_of.Goals as goal

pub returns : goal.returns
unfolding head
returns c = refl
