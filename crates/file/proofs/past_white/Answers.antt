use Rattle.std.proofs.Common.{sym, ◌∙◌, arith}
use Rattle.file.proofs.WordSteps.{first_rest, white_more, length_rest}
use Rattle.file.proofs.past_white.Goals as goal

pub loop-left-preserved : goal.loop-left-preserved
loop-left-preserved c =
    let left = c.loop-left.left.now in
    let long = c.in-len1-up.len_at_least in
    (white_more _ left _ (first_rest left long) (sym c.if-is_white.ensures) ∙ c.loop-left.invariant.0, omega (arith, length_rest left long, c.loop-left.invariant.1))
