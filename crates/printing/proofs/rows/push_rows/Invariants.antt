use Rattle.std.proofs.Common.{◌≡◌, ◌≤◌, ◌++◌, length, vec_items}
use Rattle.model.specs.Rows as model
use Rattle.printing.specs.Printed.{rows_printed}
use Rattle.printing.specs.Values.{cells_of}
use Rattle.printing.proofs.rows.push_rows.Given as goal

abbrev pub invariant-loop-rest : goal.invariant-loop-rest
invariant-loop-rest l =
    (vec_items l.out ++ rows_printed (model.rows 64 (cells_of l.rest)) ≡ vec_items l.initial.out ++ rows_printed (model.rows 64 (cells_of l.cells)))
    × (length l.rest ≤ length l.cells)

abbrev pub decreases-loop-rest : goal.decreases-loop-rest
decreases-loop-rest l = length l.rest
