use Rattle.std.proofs.Common.{◌+◌, ◌*◌}
use Rattle.file.proofs.Rows.{cell_of_part}
use Rattle.file.proofs.File.cell.Goals as goal

pub returns : goal.returns
returns c d = let e = cell_of_part c.args.self.now.numbers.now (1 + 2 * c.args.self.now.changes) c.args.self.now.cells c.args.k d c.requires in cc
