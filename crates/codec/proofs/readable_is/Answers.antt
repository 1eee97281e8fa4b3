-- A call is readable if, and only if, its bytes are below 256.
use Rattle.codec.proofs.ReadableIs.{readable_is}
use Rattle.codec.proofs.readable_is.Goals as goal

pub returns : goal.returns
returns c = readable_is
