use Rattle.std.proofs.Common.{arith, ap, length}
use Rattle.kept.specs.Text.{cells_of_mut}
use Rattle.kept.proofs.Seen.{view_all}
use Rattle.kept_tests.proofs.tests.Both.insert.Goals as goal

pub insert-requires : goal.insert-requires
insert-requires c =
    let e = ap length (view_all (cells_of_mut c.args.self.now.text)) in
    let n = rw (c.text.ensures.cells, c.text.ensures.tables, c.text.ensures.slots, e) at c.seen-n.ensures in
    record { place = omega arith; fits = omega (arith, c.args.self.now.five) }
