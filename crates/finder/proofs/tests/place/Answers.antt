-- The laws of a search, from letter to letter.
use Rattle.std.proofs.Common.{subst, arith}
use Rattle.finder.specs.Match.{Step}
use Rattle.finder.proofs.Finding.{seeking_none, seeking_more, seeking_read}
use Rattle.finder.proofs.tests.place.Goals as goal

pub loop-i-init : goal.loop-i-init
loop-i-init c = seeking_none c.args.letters.now c.args.text.now (omega arith)

pub overflow_sub-result : goal.overflow_sub-result
overflow_sub-result c = seeking_read c.step-k.ensures c.loop-i.invariant

pub loop-i-preserved : goal.loop-i-preserved
loop-i-preserved c = seeking_more c.loop-i-test.true (subst (λ x. Step c.args.letters.now c.loop-i.k x c.step-k.result) c.from.ensures c.step-k.ensures) c.if-k-letters.false c.loop-i.invariant
