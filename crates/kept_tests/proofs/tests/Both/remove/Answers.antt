use Rattle.std.proofs.Common.{arith, ap, length}
use Rattle.kept.specs.Text.{cells_of_mut}
use Rattle.kept.proofs.Seen.{view_all}
use Rattle.kept_tests.proofs.tests.Both.remove.Goals as goal

pub remove-requires : goal.remove-requires
remove-requires c =
    let e = ap length (view_all (cells_of_mut c.args.self.now.text)) in
    let n = rw (c.text.ensures.cells, c.text.ensures.tables, c.text.ensures.slots, e) at c.seen.ensures in
    omega (arith, c.min-n.ensures)
