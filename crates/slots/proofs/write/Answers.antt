use Rattle.slots.proofs.Steps.{written}
use Rattle.slots.proofs.write.Goals as goal

pub returns : goal.returns
returns c = let w = written c.args.c.now c.args.a c.args.cell c.requires in record { written = w.0; kept = w.1 }
