use Rattle.text.proofs.Furthest as law
use Rattle.text.proofs.laws.place_begins.Goals as goal

pub returns : goal.returns
returns c = law.place_begins
