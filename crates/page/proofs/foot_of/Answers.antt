use Rattle.std.proofs.Common.{refl}
use Rattle.page.specs.Page.{foot}
use Rattle.page.proofs.foot_of.Goals as goal

pub returns : goal.returns
unfolding foot
returns c = refl
