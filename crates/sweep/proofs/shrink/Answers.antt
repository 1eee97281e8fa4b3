use Rattle.std.proofs.Common.{arith}
use Rattle.pieces.proofs.Sets.{sums_beside}
use Rattle.sweep.proofs.shrink.Goals as goal

pub returns-then-mark-gt0-clause-sums : goal.returns-then-mark-gt0-clause-sums
returns-then-mark-gt0-clause-sums c = sums_beside c.resize.new.p c.add_mark.new.p c.add_mark.ensures.grown.beside c.resize.ensures.sums

pub returns-then-mark-gt0-clause-noted : goal.returns-then-mark-gt0-clause-noted
returns-then-mark-gt0-clause-noted c =
    let most = c.requires.order.most in
    let here = c.requires.here in
    rw c.in-Strike.is (λ l. rw (c.add_mark.ensures.grown.beside.below c.args.k (omega arith)) c.add_mark.ensures.has)
