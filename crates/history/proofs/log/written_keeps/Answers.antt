-- What is written from the end on.
use Rattle.history.proofs.log.written_keeps.Goals as goal
use Rattle.history.proofs.Keeping.{written_keeps, written_keeps_room, room_pushes}

pub returns : goal.returns
returns c = record { log = written_keeps; room = written_keeps_room; pushes = room_pushes }
