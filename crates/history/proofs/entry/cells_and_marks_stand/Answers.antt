-- The words of cells and marks.
use Rattle.history.proofs.Heads.{cells_stand, marks_stand, cells_make, marks_make, written_long}
use Rattle.history.proofs.entry.cells_and_marks_stand.Goals as goal

pub returns : goal.returns
returns c = record { cells = cells_stand; marks = marks_stand; make_cells = cells_make; make_marks = marks_make; long = written_long }
