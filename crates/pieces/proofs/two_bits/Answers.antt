use Rattle.std.proofs.lemmas.Nat.{one_shl}
use Rattle.pieces.proofs.two_bits.Goals as goal

pub returns : goal.returns
returns c = rw (one_shl c.args.i 32 c.requires.first, one_shl c.args.j 32 c.requires.second)
