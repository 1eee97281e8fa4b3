-- Room, the letters, and the head around them.
use Rattle.std.proofs.Common.{◌+◌, length, ◌-◌, refl, arith}
use Rattle.history.specs.Entry.{was_put}
use Rattle.recorder.proofs.Entries.{put_words, put_counts, put_head}
use Rattle.recorder.proofs.Splices.{written_from}
use Rattle.recorder.proofs.Sealing.{too_much, roomed_inside, ready, recorded, rest_recorded}
use Rattle.recorder.proofs.put.Goals as goal

pub returns-in_default : goal.returns-in_default
returns-in_default c =
    let ls = c.args.letters.now in
    let e = was_put c.args.author c.args.place c.args.style ls in
    record {
      records = too_much c.args.u.now c.make_room.new.u c.args.limit (1 + length ls) e (put_counts c.args.author c.args.place c.args.style ls) c.in_default.ensures.room;
      rest = c.make_room.ensures.rest;
    }

pub copy_letters-requires : goal.copy_letters-requires
copy_letters-requires c =
    let r = roomed_inside c.args.u.now c.make_room.new.u c.args.limit (1 + length c.args.letters.now) c.in-Some.at c.requires.log c.in-Some.ensures.room in
    omega (arith, r)

pub seal-requires : goal.seal-requires
seal-requires c =
    let ls = c.args.letters.now in
    ready c.args.u.now c.make_room.new.u _ c.args.limit c.in-Some.at _ (was_put c.args.author c.args.place c.args.style ls) ls
    c.requires.log c.in-Some.ensures.room (put_head c.args.author c.args.place c.args.style ls) (put_words c.args.author c.args.place c.args.style ls) (written_from c.make_room.new.u ls c.copy_letters.new.words (c.in-Some.at + 7) (length c.make_room.new.u - (c.in-Some.at + 7)) refl c.copy_letters.ensures)

pub returns : goal.returns
returns c =
    let ls = c.args.letters.now in
    let e = was_put c.args.author c.args.place c.args.style ls in
    let room = c.in-Some.ensures.room in
    let is = put_head c.args.author c.args.place c.args.style ls in
    let words = put_words c.args.author c.args.place c.args.style ls in
    record {
      records = recorded c.args.u.now c.make_room.new.u _ c.args.limit c.in-Some.at _ e ls c.requires.log room is words (written_from c.make_room.new.u ls c.copy_letters.new.words (c.in-Some.at + 7) (length c.make_room.new.u - (c.in-Some.at + 7)) refl c.copy_letters.ensures) c.seal.new.u c.seal.ensures.seals;
      rest =
          rest_recorded c.args.u.now c.make_room.new.u _ c.args.limit c.in-Some.at _ e ls c.requires.log room is words (written_from c.make_room.new.u ls c.copy_letters.new.words (c.in-Some.at + 7) (length c.make_room.new.u - (c.in-Some.at + 7)) refl c.copy_letters.ensures)
          c.seal.new.u c.make_room.ensures.rest c.seal.ensures.rest;
    }
