use Rattle.printing.proofs.Texts.{stops}
use Rattle.printing.proofs.reading.file_of.Goals as goal

pub returns-in-Err : goal.returns-in-Err
returns-in-Err c = rw c.and.ensures (stops c.args.text.now c.args.room.now c.numbers.new.out c.in-Err.n c.requires c.in-Err.ensures _ c.read-in-Err.ensures)
