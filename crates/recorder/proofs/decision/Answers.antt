-- Room, the marks, and the head around them.
use Rattle.std.proofs.Common.{◌+◌, [], ◌-◌, length, refl, arith}
use Rattle.model.specs.Paper.{Paper}
use Rattle.kept.specs.Text.{cells_in}
use Rattle.history.specs.Entry.{entry_of}
use Rattle.recorder.specs.Records.{decided}
use Rattle.recorder.proofs.Entries.{decided_words, decided_counts, decided_head}
use Rattle.recorder.proofs.Marking.{touched_few}
use Rattle.recorder.proofs.Runs.{text_small}
use Rattle.recorder.proofs.Splices.{written_from}
use Rattle.recorder.proofs.Sealing.{too_much, roomed_inside, ready, recorded, rest_recorded}
use Rattle.recorder.proofs.decision.Goals as goal

pub overflow_add-count : goal.overflow_add-count
overflow_add-count c =
    let small = text_small c.args.text.now.cells.now c.args.text.now.tables.now c.args.text.now.slots c.args.text.now.kept.store.table.order in
    omega (arith, c.requires.count, touched_few (cells_in c.args.text.now) c.args.change)

pub returns-in_default : goal.returns-in_default
returns-in_default c =
    record {
      records = λ cs.
          let p : Paper = record { cells = cells_in c.args.text.now; changes = cs } in
          too_much c.args.u.now c.make_room.new.u c.args.limit (1 + c.args.count) (entry_of p (decided c.args.verdict c.args.change))
          (decided_counts p c.args.change c.args.verdict c.args.count c.requires.count) c.in_default.ensures.room;
      rest = c.make_room.ensures.rest;
    }

pub mark_text-requires : goal.mark_text-requires
mark_text-requires c =
    let r = roomed_inside c.args.u.now c.make_room.new.u c.args.limit (1 + c.args.count) c.in-Some.at c.requires.log c.in-Some.ensures.room in
    record { mark = c.requires.mark; target = omega (arith, r.0, c.requires.count) }

pub seal-requires : goal.seal-requires
seal-requires c =
    let p : Paper = record { cells = cells_in c.args.text.now; changes = [] } in
    ready c.args.u.now c.make_room.new.u _ c.args.limit c.in-Some.at _ (entry_of p (decided c.args.verdict c.args.change)) _
    c.requires.log c.in-Some.ensures.room (decided_head p c.args.change c.args.verdict c.args.count c.from.result c.requires.count c.from.ensures)
    (decided_words p c.args.change c.args.verdict) (written_from c.make_room.new.u _ c.mark_text.new.words (c.in-Some.at + 7) (length c.make_room.new.u - (c.in-Some.at + 7)) refl c.mark_text.ensures)

pub returns : goal.returns
returns c =
    record {
      records = λ cs.
          let p : Paper = record { cells = cells_in c.args.text.now; changes = cs } in
          recorded c.args.u.now c.make_room.new.u _ c.args.limit c.in-Some.at _ (entry_of p (decided c.args.verdict c.args.change)) _
          c.requires.log c.in-Some.ensures.room (decided_head p c.args.change c.args.verdict c.args.count c.from.result c.requires.count c.from.ensures)
          (decided_words p c.args.change c.args.verdict) (written_from c.make_room.new.u _ c.mark_text.new.words (c.in-Some.at + 7) (length c.make_room.new.u - (c.in-Some.at + 7)) refl c.mark_text.ensures)
          c.seal.new.u c.seal.ensures.seals;
      rest =
          let p : Paper = record { cells = cells_in c.args.text.now; changes = [] } in
          rest_recorded c.args.u.now c.make_room.new.u _ c.args.limit c.in-Some.at _ (entry_of p (decided c.args.verdict c.args.change)) _
          c.requires.log c.in-Some.ensures.room (decided_head p c.args.change c.args.verdict c.args.count c.from.result c.requires.count c.from.ensures)
          (decided_words p c.args.change c.args.verdict) (written_from c.make_room.new.u _ c.mark_text.new.words (c.in-Some.at + 7) (length c.make_room.new.u - (c.in-Some.at + 7)) refl c.mark_text.ensures)
          c.seal.new.u c.make_room.ensures.rest c.seal.ensures.rest;
    }
