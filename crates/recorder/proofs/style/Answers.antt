-- Room, the cells as they are, and the head around them.
use Rattle.std.proofs.Common.{◌+◌, [], ◌-◌, length, refl, arith}
use Rattle.model.specs.Paper.{Paper}
use Rattle.model.specs.Calls.{styles}
use Rattle.kept.specs.Text.{cells_in}
use Rattle.history.specs.Entry.{entry_of}
use Rattle.recorder.proofs.Entries.{styled_words, styled_counts, styled_head}
use Rattle.recorder.proofs.Runs.{text_small}
use Rattle.recorder.proofs.Splices.{written_from}
use Rattle.recorder.proofs.Sealing.{too_much, roomed_inside, ready, recorded, rest_recorded}
use Rattle.recorder.proofs.style.Goals as goal

pub overflow_add-n : goal.overflow_add-n
overflow_add-n c = omega (arith, c.requires.within, text_small c.args.text.now.cells.now c.args.text.now.tables.now c.args.text.now.slots c.args.text.now.kept.store.table.order)

pub returns-in_default : goal.returns-in_default
returns-in_default c =
    record {
      records = λ cs.
          let p : Paper = record { cells = cells_in c.args.text.now; changes = cs } in
          too_much c.args.u.now c.make_room.new.u c.args.limit (1 + c.args.n) (entry_of p (styles c.args.place c.args.n c.args.style))
          (styled_counts p c.args.place c.args.n c.requires.within c.args.style) c.in_default.ensures.room;
      rest = c.make_room.ensures.rest;
    }

pub copy_text-requires : goal.copy_text-requires
copy_text-requires c =
    let r = roomed_inside c.args.u.now c.make_room.new.u c.args.limit (1 + c.args.n) c.in-Some.at c.requires.log c.in-Some.ensures.room in
    record { within = c.requires.within; target = omega (arith, r.0) }

pub seal-requires : goal.seal-requires
seal-requires c =
    let p : Paper = record { cells = cells_in c.args.text.now; changes = [] } in
    ready c.args.u.now c.make_room.new.u _ c.args.limit c.in-Some.at _ (entry_of p (styles c.args.place c.args.n c.args.style)) _
    c.requires.log c.in-Some.ensures.room (styled_head p c.args.place c.args.n c.requires.within c.args.style) (styled_words p c.args.place c.args.n c.args.style) (written_from c.make_room.new.u _ c.copy_text.new.words (c.in-Some.at + 7) (length c.make_room.new.u - (c.in-Some.at + 7)) refl c.copy_text.ensures)

pub returns : goal.returns
returns c =
    record {
      records = λ cs.
          let p : Paper = record { cells = cells_in c.args.text.now; changes = cs } in
          recorded c.args.u.now c.make_room.new.u _ c.args.limit c.in-Some.at _ (entry_of p (styles c.args.place c.args.n c.args.style)) _
          c.requires.log c.in-Some.ensures.room (styled_head p c.args.place c.args.n c.requires.within c.args.style) (styled_words p c.args.place c.args.n c.args.style) (written_from c.make_room.new.u _ c.copy_text.new.words (c.in-Some.at + 7) (length c.make_room.new.u - (c.in-Some.at + 7)) refl c.copy_text.ensures)
          c.seal.new.u c.seal.ensures.seals;
      rest =
          let p : Paper = record { cells = cells_in c.args.text.now; changes = [] } in
          rest_recorded c.args.u.now c.make_room.new.u _ c.args.limit c.in-Some.at _ (entry_of p (styles c.args.place c.args.n c.args.style)) _
          c.requires.log c.in-Some.ensures.room (styled_head p c.args.place c.args.n c.requires.within c.args.style) (styled_words p c.args.place c.args.n c.args.style) (written_from c.make_room.new.u _ c.copy_text.new.words (c.in-Some.at + 7) (length c.make_room.new.u - (c.in-Some.at + 7)) refl c.copy_text.ensures)
          c.seal.new.u c.make_room.ensures.rest c.seal.ensures.rest;
    }
