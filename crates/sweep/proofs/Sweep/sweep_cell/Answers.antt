use Rattle.std.proofs.Common.{ap}
use Rattle.model.specs.Values.{cell_of}
use Rattle.changes.specs.Rows.{changes_in}
use Rattle.sweep.specs.Sweep.{fate}
use Rattle.sweep.proofs.Steps.{written_behind}
use Rattle.sweep.proofs.Sweep.sweep_cell.Goals as goal

pub returns-in-Some-clause-cells : goal.returns-in-Some-clause-cells
returns-in-Some-clause-cells c =
    let w = written_behind c.args.c.now c.write.new.c c.args.at c.args.stay (cell_of c.in-Some.cell) c.write.ensures.written c.write.ensures.kept in
    let f = c.in-Some.ensures in
    let g = ap (fate c.args.self.now.action (changes_in c.args.self.now.row)) c.read.ensures in
    cc
