use Rattle.std.proofs.Common.{set, take, ap, ◌∙◌}
use Rattle.pieces.proofs.Cleared.{counting_more}
use Rattle.pieces.proofs.enumerate.Goals as goal

pub loop-i-preserved : goal.loop-i-preserved
loop-i-preserved c = ap (λ w. set w c.loop-i.i c.loop-i.i) c.loop-i.invariant ∙ counting_more c.loop-i.i (take c.args.n c.args.w.now) c.loop-i-test.true
