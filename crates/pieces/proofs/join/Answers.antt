use Rattle.pieces.proofs.Sets.{joined}
use Rattle.pieces.proofs.join.Goals as goal

pub returns : goal.returns
returns c = joined c.args.p.now c.args.a c.args.b c.requires.target c.requires.words
