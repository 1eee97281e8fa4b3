use Rattle.pieces.proofs.Sets.{beside_both, beside_none}
use Rattle.pieces.proofs.remark_all.Goals as goal

pub loop-k-init : goal.loop-k-init
loop-k-init c = record { beside = beside_none c.args.p.now; store = c.requires }

pub loop-k-preserved : goal.loop-k-preserved
loop-k-preserved c =
    let inv = c.loop-k.invariant in
    record { beside = beside_both c.args.p.now c.loop-k.p c.remark.new.p inv.beside c.remark.ensures.beside; store = c.remark.ensures.store }
