use Rattle.text.proofs.Back as law
use Rattle.text.proofs.laws.reads_back.Goals as goal

pub returns : goal.returns
returns c = law.reads_back
