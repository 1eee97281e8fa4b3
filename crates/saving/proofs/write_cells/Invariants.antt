use Rattle.model.specs.Paper.{cells_written}
use Rattle.kept.specs.Text.{cells_in}
use Rattle.saving.proofs.Runs.{Writing}
use Rattle.saving.proofs.write_cells.Given as goal

abbrev pub invariant-loop-left : goal.invariant-loop-left
invariant-loop-left l =
    Writing (cells_written (cells_in l.text)) l.initial.out l.initial.at l.initial.next l.initial.left l.out l.at l.next l.left

abbrev pub decreases-loop-left : goal.decreases-loop-left
decreases-loop-left l = l.left
