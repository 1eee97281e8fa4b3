use Rattle.pieces.proofs.Counts.{root_before}
use Rattle.pieces.proofs.count.Goals as goal

pub returns : goal.returns
returns c = root_before c.args.p.now c.args.s c.requires
