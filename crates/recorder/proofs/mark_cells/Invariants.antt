-- The marks of the cells so far, and those that are left.
use Rattle.std.specs.Iterator.Adapters.{enumerate_source, enumerate_count}
use Rattle.slots.specs.Cells.{all_cells}
use Rattle.recorder.proofs.Marking.{Going}
use Rattle.recorder.proofs.mark_cells.Given as goal

abbrev pub invariant-loop-i : goal.invariant-loop-i
invariant-loop-i l =
    (goal.iterator-loop-i).can_next l.i-iterator ×
    (goal.iterator-loop-i).is_finite l.i-iterator ×
    Going l.initial.words l.words (all_cells l.cells) (all_cells (enumerate_source l.i-iterator).words.now) l.change l.first (enumerate_count l.i-iterator) l.found
