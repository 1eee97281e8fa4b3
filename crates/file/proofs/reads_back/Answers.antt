use Rattle.file.proofs.Beginnings.{reads_back}
use Rattle.file.proofs.reads_back.Goals as goal

pub returns : goal.returns
returns c = reads_back
