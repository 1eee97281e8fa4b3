use Rattle.pieces.proofs.Leaves.{set_resized}
use Rattle.pieces.proofs.set_length.Goals as goal

pub returns : goal.returns
returns c = set_resized c.args.p.now c.args.k c.args.n c.requires.leaf c.requires.words
