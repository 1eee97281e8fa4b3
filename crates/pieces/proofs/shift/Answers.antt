use Rattle.std.proofs.Common.{arith}
use Rattle.pieces.specs.Store.{slot}
use Rattle.pieces.proofs.Change.{resized_grown, resized_order, shifted}
use Rattle.pieces.proofs.shift.Goals as goal

pub join-requires : goal.join-requires
join-requires c =
    let o = c.requires.order in
    let most = o.most in
    let a = o.inside c.args.i c.requires.target in
    let b = o.inside c.args.from.piece c.requires.source in
    record { target = omega arith; source = omega arith; words = omega (arith, o.words, c.set_length.auto.p) }

pub returns : goal.returns
returns c =
    let p = c.args.p.now in
    let o = c.requires.order in
    let most = o.most in
    let b = o.inside c.args.from.piece c.requires.source in
    let h = resized_grown p c.set_length.new.p c.join.new.p c.args.i _ (omega arith) c.set_length.ensures c.join.ensures.grown in
    shifted c.args.c.now p c.append_cells.new.c c.join.new.p c.remove_cells.new.c c.set_length-2.new.p
    c.args.s c.args.i c.args.from.piece c.args.from.offset c.args.n _ _
    o c.requires.target c.requires.source c.requires.two c.requires.within c.requires.fits (omega arith) (omega arith)
    c.append_cells.ensures h (λ m x. c.join.ensures.both m (c.set_length.ensures.has (slot p c.args.from.piece) m (omega arith) x))
    c.remove_cells.ensures c.set_length-2.ensures

pub remove_cells-requires : goal.remove_cells-requires
remove_cells-requires c =
    let o = c.requires.order in
    let w = c.requires.within in
    let most = o.most in
    let h = resized_grown c.args.p.now c.set_length.new.p c.join.new.p c.args.i _ (omega arith) c.set_length.ensures c.join.ensures.grown in
    let u = h.others c.args.from.piece (omega arith) (omega (arith, c.requires.two)) in
    record {
      order = resized_order c.args.p.now c.join.new.p c.args.s c.args.i _ o h c.requires.target (omega arith);
      room = omega (arith, c.append_cells.auto.c);
      here = c.requires.source;
      within = omega arith;
    }
