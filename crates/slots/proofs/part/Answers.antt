use Rattle.std.proofs.Common.{◌*◌, ◌+◌, arith}
use Rattle.std.proofs.lemmas.List.Edits.{length-between}
use Rattle.slots.proofs.Words.{all_part}
use Rattle.slots.proofs.part.Goals as goal

pub returns : goal.returns
returns c =
    record {
      cells = all_part c.args.c.now c.args.a c.args.n c.requires;
      long = omega (arith, length-between c.args.c.now (4 * c.args.a) (4 * (c.args.a + c.args.n)) c.requires);
    }
