use Rattle.file.proofs.WordSteps.{words_are}
use Rattle.file.proofs.words_are.Goals as goal

pub returns : goal.returns
returns c = words_are
