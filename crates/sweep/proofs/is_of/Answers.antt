use Rattle.std.proofs.Common.{ap, arith}
use Rattle.changes.specs.Rows.{changes_in}
use Rattle.sweep.proofs.Laws.{of_none, of_row, of_past}
use Rattle.sweep.proofs.is_of.Goals as goal

pub returns-then-mark-eq0 : goal.returns-then-mark-eq0
returns-then-mark-eq0 c = of_none (changes_in c.args.row.now) c.args.mark c.args.author (omega arith)

pub returns-in-Some : goal.returns-in-Some
returns-in-Some c =
    let e = c.in-Some.ensures in
    of_row c.args.row.now.words.now c.args.row.now.len c.args.mark c.args.author c.in-Some.change.author c.if-mark-eq0.false e.0 (ap (λ x. x.author) e.1)

pub returns-in-None : goal.returns-in-None
returns-in-None c = of_past c.args.row.now.words.now c.args.row.now.len c.args.mark c.args.author c.if-mark-eq0.false c.in-None.ensures
