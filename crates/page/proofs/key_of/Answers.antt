use Rattle.std.proofs.Common.{refl}
use Rattle.page.specs.Page.{key}
use Rattle.page.proofs.key_of.Goals as goal

pub returns : goal.returns
unfolding key
returns c = refl
