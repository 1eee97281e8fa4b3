use Rattle.std.proofs.Common.{arith}
use Rattle.pieces.proofs.Texts.{length_text}
use Rattle.kept.proofs.text.TextMut.spare_last.Goals as goal

pub returns-then-used-gt0-clause-spare : goal.returns-then-used-gt0-clause-spare
returns-then-used-gt0-clause-spare c =
    let n = length_text c.args.self.now.cells.now c.args.self.now.tables.now c.args.self.now.slots in
    c.pack.ensures.spare (omega (arith, c.requires))
