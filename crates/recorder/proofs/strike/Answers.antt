-- Room, the cells as they are, how many stay, and the head around them.
use Rattle.std.proofs.Common.{◌+◌, take, drop, ◌-◌, length, refl, arith}
use Rattle.model.specs.Paper.{Paper, cells_written}
use Rattle.model.specs.Calls.{strikes}
use Rattle.changes.specs.Rows.{changes_in}
use Rattle.kept.specs.Text.{cells_in}
use Rattle.history.specs.Entry.{entry_of}
use Rattle.recorder.proofs.Splices.{written_from}
use Rattle.recorder.proofs.Entries.{struck_words, struck_counts, struck_head}
use Rattle.recorder.proofs.Runs.{text_small, copied_stay}
use Rattle.recorder.proofs.Sealing.{too_much, roomed_inside, ready, recorded, rest_recorded}
use Rattle.recorder.proofs.strike.Goals as goal

pub overflow_add-n : goal.overflow_add-n
overflow_add-n c = omega (arith, c.requires.within, text_small c.args.text.now.cells.now c.args.text.now.tables.now c.args.text.now.slots c.args.text.now.kept.store.table.order)

pub returns-in_default : goal.returns-in_default
returns-in_default c =
    let p : Paper = record { cells = cells_in c.args.text.now; changes = changes_in c.args.row.now } in
    record {
      records =
          too_much c.args.u.now c.make_room.new.u c.args.limit (1 + c.args.n) (entry_of p (strikes c.args.author c.args.place c.args.n))
          (struck_counts p c.args.place c.args.n c.requires.within c.args.author) c.in_default.ensures.room;
      rest = c.make_room.ensures.rest;
    }

pub copy_text-requires : goal.copy_text-requires
copy_text-requires c =
    let r = roomed_inside c.args.u.now c.make_room.new.u c.args.limit (1 + c.args.n) c.in-Some.at c.requires.log c.in-Some.ensures.room in
    record { within = c.requires.within; target = omega (arith, r.0) }

pub seal-requires : goal.seal-requires
seal-requires c =
    let cells = cells_in c.args.text.now in
    let p : Paper = record { cells = cells; changes = changes_in c.args.row.now } in
    let e = entry_of p (strikes c.args.author c.args.place c.args.n) in
    let room = c.in-Some.ensures.room in
    let free = c.make_room.new.u in
    let r = roomed_inside c.args.u.now free c.args.limit (1 + c.args.n) c.in-Some.at c.requires.log room in
    let copied = written_from free (cells_written (take c.args.n (drop c.args.place cells))) c.copy_text.new.words (c.in-Some.at + 7) (length free - (c.in-Some.at + 7)) refl c.copy_text.ensures in
    let stay = copied_stay free _ (c.in-Some.at + 7) c.args.place c.args.n cells p.changes c.args.author c.staying-standing.result
    c.requires.within (omega (arith, r.0)) copied c.staying-standing.ensures in
    let is = struck_head p c.args.place c.args.n c.requires.within c.args.author c.staying-standing.result stay in
    let words = struck_words p c.args.place c.args.n c.args.author in
    ready c.args.u.now free _ c.args.limit c.in-Some.at _ e _ c.requires.log room is words copied

pub returns : goal.returns
returns c =
    let cells = cells_in c.args.text.now in
    let p : Paper = record { cells = cells; changes = changes_in c.args.row.now } in
    let e = entry_of p (strikes c.args.author c.args.place c.args.n) in
    let room = c.in-Some.ensures.room in
    let free = c.make_room.new.u in
    let r = roomed_inside c.args.u.now free c.args.limit (1 + c.args.n) c.in-Some.at c.requires.log room in
    let copied = written_from free (cells_written (take c.args.n (drop c.args.place cells))) c.copy_text.new.words (c.in-Some.at + 7) (length free - (c.in-Some.at + 7)) refl c.copy_text.ensures in
    let stay = copied_stay free _ (c.in-Some.at + 7) c.args.place c.args.n cells p.changes c.args.author c.staying-standing.result
    c.requires.within (omega (arith, r.0)) copied c.staying-standing.ensures in
    let is = struck_head p c.args.place c.args.n c.requires.within c.args.author c.staying-standing.result stay in
    let words = struck_words p c.args.place c.args.n c.args.author in
    record {
      records = recorded c.args.u.now free _ c.args.limit c.in-Some.at _ e _ c.requires.log room is words copied c.seal.new.u c.seal.ensures.seals;
      rest = rest_recorded c.args.u.now free _ c.args.limit c.in-Some.at _ e _ c.requires.log room is words copied c.seal.new.u c.make_room.ensures.rest c.seal.ensures.rest;
    }
