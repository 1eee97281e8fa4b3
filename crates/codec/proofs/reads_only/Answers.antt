-- Only the bytes of a call are read as that call.
use Rattle.codec.proofs.ReadsOnly.{reads_only}
use Rattle.codec.proofs.reads_only.Goals as goal

pub returns : goal.returns
returns c = reads_only
