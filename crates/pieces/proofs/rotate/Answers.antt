use Rattle.std.proofs.Common.{get_or, set, refl}
use Rattle.pieces.proofs.Cuts.{rotated}
use Rattle.pieces.proofs.rotate.Goals as goal

pub returns : goal.returns
returns c =
    rotated c.args.p.now c.copy_within.new.self (set c.copy_within.new.self c.args.from (get_or c.args.p.now c.args.to 0)) c.args.from c.args.to
    c.requires.order c.requires.within c.copy_within.ensures.len c.copy_within.ensures.by_index refl
