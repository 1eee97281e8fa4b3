-- What is left to note leads to the same words.
use Rattle.std.proofs.Common.{◌≡◌}
use Rattle.slots.specs.Cells.{all_cells}
use Rattle.pieces.specs.Marks.{noted_cells}
use Rattle.pieces.proofs.note_cells.Given as goal

abbrev pub invariant-loop-cell : goal.invariant-loop-cell
invariant-loop-cell l = noted_cells l.p l.i (all_cells l.cell-iterator.words.now) ≡ noted_cells l.initial.p l.i (all_cells l.cells)
