-- The step of every call.
use Rattle.history.proofs.entries_stand.Goals as goal
use Rattle.history.proofs.Stepping.{opens, write_steps, undo_steps, redo_steps, undo_turned, redo_turned, turned_keeps, looking_keeps, always_stands}

pub returns : goal.returns
returns c = record { opens = opens; write = write_steps; undo = undo_steps; redo = redo_steps; nothing_behind = undo_turned; nothing_ahead = redo_turned; turned = turned_keeps; looking = looking_keeps; always = always_stands }
