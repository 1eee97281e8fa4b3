use Rattle.std.proofs.Common.{◌-◌}
use Rattle.layout.specs.Found.{Within, ahead}
use Rattle.layout.proofs.Written.{RowsWritten}
use Rattle.layout.proofs.sheet.Sheet.write_rows.Given as goal

abbrev pub invariant-loop-i : goal.invariant-loop-i
invariant-loop-i l =
    RowsWritten l.self.width l.initial.out l.initial.at l.n (ahead l.self l.initial.spot)
    l.out l.at (l.n - l._i) (ahead l.self l.spot)
    × Within l.self l.spot
