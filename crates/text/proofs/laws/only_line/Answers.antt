use Rattle.text.proofs.Only as law
use Rattle.text.proofs.laws.only_line.Goals as goal

pub returns : goal.returns
returns c = law.only_line
