use Rattle.session.specs.Memory.{paper_of}
use Rattle.session.proofs.recording.style.Goals as goal

pub returns : goal.returns
returns c =
    let e = c.text_in-text.ensures in
    record { records = rw (e.cells, e.tables, e.slots) at (c.style.ensures.records (paper_of c.args.cells.now c.args.pieces.now).changes); beyond = c.style.ensures.rest; undo_length = c.style.auto.u }
