use Rattle.session.proofs.recording.strike.Goals as goal

pub returns : goal.returns
returns c =
    let e = c.text_in-text.ensures in
    record { records = rw (e.cells, e.tables, e.slots, c.row_in-row.ensures.words, c.row_in-row.ensures.len) at c.strike.ensures.records; beyond = c.strike.ensures.rest; undo_length = c.strike.auto.u }
