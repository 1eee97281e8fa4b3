-- There is room after the end, or after the end of the log at the front.
use Rattle.std.proofs.Common.{ℕ, ◌+◌, ◌*◌, refl, ap, subst, arith}
use Rattle.history.specs.Log.{Room}
use Rattle.history.proofs.Keeping.{room_there, room_front}
use Rattle.history.proofs.log.room_for.Goals as goal

pub returns-then-end-count : goal.returns-then-end-count
returns-then-end-count c =
    record {
      stays = λ limit back ahead h. h;
      room =
          subst (Room c.args.u.now c.args.limit c.args.count) (ap (λ (n : ℕ). 16 + n) c.read.ensures.end)
          (room_there c.args.u.now c.args.limit c.args.count c.requires.log c.requires.none c.requires.within (omega arith));
      rest = refl;
    }

pub returns : goal.returns
returns c =
    record {
      stays = c.to_front.ensures.stays;
      room =
          subst (Room c.to_front.new.u c.args.limit c.args.count) (ap (λ (n : ℕ). 16 + n) c.read-2.ensures.end)
          (room_front c.args.u.now c.to_front.new.u c.args.limit c.args.count c.requires.log c.requires.none c.requires.within c.to_front.ensures.stays c.to_front.ensures.front);
      rest = c.to_front.ensures.rest (16 + 16 * c.args.limit) c.requires.log.log.room;
    }
