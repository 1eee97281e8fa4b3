-- The bytes of a call are read as that call.
use Rattle.codec.proofs.ReadsBack.{reads_back}
use Rattle.codec.proofs.reads_back.Goals as goal

pub returns : goal.returns
returns c = reads_back
