use Rattle.undone.proofs.After.{undo_brings_back, redo_does_again}
use Rattle.undone.proofs.undo_and_redo.Goals as goal

pub returns : goal.returns
returns c = record { undo = undo_brings_back; redo = redo_does_again }
