-- The laws of one entry.
use Rattle.history.proofs.undo_brings_back.Goals as goal
use Rattle.history.proofs.Undoing.{undo_brings_back, redo_does_again, counts_as_much, undo_finds}

pub returns : goal.returns
returns c = record { undo = undo_brings_back; redo = redo_does_again; counts = counts_as_much; finds = undo_finds }
