use Rattle.std.proofs.Common.{arith}
use Rattle.pieces.proofs.Cuts.{rotated_order, rotated_next, rotated_here, cut}
use Rattle.pieces.proofs.Edit.{store_after}
use Rattle.pieces.proofs.split.Goals as goal

pub shift-requires : goal.shift-requires
shift-requires c =
    let p = c.args.p.now in
    let r = c.rotate-2.new.p in
    let s = c.args.s in
    let k = c.args.at.piece in
    let w = c.requires.store.table.order in
    let w' = rotated_order p c.rotate.new.p r s k w c.requires.here c.rotate.ensures c.rotate-2.ensures in
    let next = rotated_next p c.rotate.new.p r s k w c.requires.here c.rotate.ensures c.rotate-2.ensures c.requires.spare in
    let here = rotated_here p c.rotate.new.p r s k w c.requires.here c.rotate.ensures c.rotate-2.ensures c.requires.spare in
    let small = w'.small k (omega arith) in
    record {
      order = w';
      room = c.requires.store.room;
      target = c.requires.here;
      source = omega arith;
      two = omega arith;
      within = omega (arith, c.used.ensures, c.requires.within);
      fits = omega (arith, c.used.ensures);
    }

pub returns : goal.returns
returns c =
    let h = cut c.args.c.now c.args.p.now c.rotate.new.p c.rotate-2.new.p c.shift.new.c c.shift.new.p c.recount.new.p
    c.args.s c.args.at.piece c.args.at.offset _ c.requires.store.table.order c.requires.here c.requires.within c.requires.spare
    c.rotate.ensures c.rotate-2.ensures (omega (arith, c.used.ensures)) c.shift.ensures c.recount.ensures.same in
    record {
      cut = h;
      store = store_after c.args.c.now c.args.p.now c.shift.new.c c.recount.new.p c.args.s c.requires.store h.same.frame h.same.order c.recount.ensures.sums
          (h.same.marked c.requires.store.marked);
    }
