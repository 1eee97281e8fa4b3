use Rattle.std.proofs.Common.{vec_items}
use Rattle.printing.specs.Printed.{way_printed}
use Rattle.printing.specs.Values.{cells_of}
use Rattle.printing.proofs.Joins.{at_end, join3, same}
use Rattle.printing.proofs.printer.push_ways.Goals as goal

pub returns : goal.returns
returns c =
    at_end c.push_way-3.result c.push_way-3.ensures (λ e.
    join3 (vec_items c.args.out.now)
    (same (way_printed 0 (cells_of c.args.cells.now))) c.in_ok-push_way.ensures
    (same (way_printed 1 (cells_of c.args.cells.now))) c.in_ok-push_way-2.ensures
    (same (way_printed 2 (cells_of c.args.cells.now))) e)
