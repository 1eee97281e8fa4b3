use Rattle.slots.proofs.Steps.{copied}
use Rattle.slots.proofs.copy.Goals as goal

pub returns : goal.returns
returns c =
    let w = copied c.args.c.now c.copy_within.new.self c.args.from c.args.to c.args.n c.copy_within.ensures.len c.copy_within.ensures.by_index in
    record { copied = w.0; kept = w.1 }
