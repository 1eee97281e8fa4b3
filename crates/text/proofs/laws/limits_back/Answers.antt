use Rattle.text.proofs.Back as law
use Rattle.text.proofs.laws.limits_back.Goals as goal

pub returns : goal.returns
returns c = law.limits_back
