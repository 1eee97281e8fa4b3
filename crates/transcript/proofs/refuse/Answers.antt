use Rattle.std.proofs.Common.{arith}
use Rattle.codec.specs.Values.{told}
use Rattle.transcript.proofs.Serving.{refusal_bytes}
use Rattle.transcript.proofs.refuse.Goals as goal

pub returns : goal.returns
returns c =
    refusal_bytes c.args.refusal (told c.from.result) c.write-long.new.out _ c.args.out.now.items c.tell.new.out.items c.write-long.result c.tell.result c.from.ensures
    c.write-long.ensures.bytes c.write-long.ensures.long (omega arith) c.tell.ensures
