use Rattle.file.proofs.Rows.{change_of_part}
use Rattle.file.proofs.File.change.Goals as goal

pub returns : goal.returns
returns c d = let e = change_of_part c.args.self.now.numbers.now c.args.self.now.changes c.args.k d c.requires in cc
