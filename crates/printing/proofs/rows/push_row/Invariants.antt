use Rattle.std.proofs.Common.{◌≡◌, ◌++◌, drop, vec_items}
use Rattle.text.specs.Shown.{row_line}
use Rattle.printing.specs.Values.{cells_of}
use Rattle.printing.proofs.rows.push_row.Given as goal

abbrev pub invariant-loop-x : goal.invariant-loop-x
invariant-loop-x l = vec_items l.out ++ row_line (cells_of (drop l.x-index l.row)) ≡ vec_items l.initial.out ++ row_line (cells_of l.row)
