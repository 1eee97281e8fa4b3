use Rattle.layout.specs.Found.{Passed}
use Rattle.layout.proofs.sheet.Sheet.pass_rows.Given as goal

abbrev pub invariant-loop-i : goal.invariant-loop-i
invariant-loop-i l = Passed l.self l.initial.spot l._i l.spot
