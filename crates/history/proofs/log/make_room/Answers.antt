-- One step after another: nothing ahead, the oldest forgotten, room at the end.
use Rattle.std.proofs.Common.{◌+◌, ◌-◌, ◌*◌, ◌∙◌, arith}
use Rattle.history.proofs.Keeping.{keeps_dropped, keeps_forgot, none_forgot, emptied, roomed, from_on}
use Rattle.history.proofs.log.make_room.Goals as goal

pub forget-requires : goal.forget-requires
forget-requires c = record { limit = c.args.limit; keeps = keeps_dropped c.args.u.now c.drop_ahead.new.u c.args.limit c.requires c.drop_ahead.ensures.drops }

pub forget-requires-2 : goal.forget-requires-2
forget-requires-2 c = record { limit = c.args.limit; keeps = keeps_dropped c.args.u.now c.drop_ahead.new.u c.args.limit c.requires c.drop_ahead.ensures.drops }

pub returns-then-count-limit : goal.returns-then-count-limit
returns-then-count-limit c =
    record {
      room = emptied c.args.u.now c.drop_ahead.new.u c.forget.new.u c.args.limit c.args.count c.if-count-limit.true c.drop_ahead.ensures.drops c.forget.ensures.forgets;
      rest = from_on c.args.u.now c.forget.new.u 7 (16 + 16 * c.args.limit) (omega arith) (c.forget.ensures.rest ∙ c.drop_ahead.ensures.rest);
    }

pub room_for-requires : goal.room_for-requires
room_for-requires c =
    let k = keeps_dropped c.args.u.now c.drop_ahead.new.u c.args.limit c.requires c.drop_ahead.ensures.drops in
    record {
      log = keeps_forgot c.drop_ahead.new.u c.forget-2.new.u c.args.limit (c.args.limit - c.args.count) k c.forget-2.ensures.forgets;
      none = none_forgot c.drop_ahead.new.u c.forget-2.new.u c.args.limit (c.args.limit - c.args.count) k c.forget-2.ensures.forgets c.drop_ahead.ensures.none;
      within = omega (arith, c.forget-2.ensures.within, c.if-count-limit.false);
    }

pub returns : goal.returns
returns c =
    record {
      room =
          roomed c.args.u.now c.drop_ahead.new.u c.forget-2.new.u c.room_for.new.u c.args.limit c.args.count c.room_for.result c.if-count-limit.false
          c.drop_ahead.ensures.drops c.forget-2.ensures.forgets c.room_for.ensures.stays c.room_for.ensures.room;
      rest =
          c.room_for.ensures.rest
          ∙ from_on c.args.u.now c.forget-2.new.u 7 (16 + 16 * c.args.limit) (omega arith) (c.forget-2.ensures.rest ∙ c.drop_ahead.ensures.rest);
    }
