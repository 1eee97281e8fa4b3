-- The table is filled by the steps of the letters over themselves.
use Rattle.std.proofs.Common.{refl, ◌∙◌, subst, arith}
use Rattle.std.proofs.lemmas.List.{length-set, drop-set-lt}
use Rattle.finder.specs.Match.{Step}
use Rattle.finder.proofs.Matching.{filling_first, filling_more}
use Rattle.finder.proofs.prepare.Goals as goal

pub loop-i-init : goal.loop-i-init
loop-i-init c = (filling_first c.args.letters.now c.args.table.now (omega arith) (omega arith), refl)

pub loop-i-preserved : goal.loop-i-preserved
loop-i-preserved c = (
  filling_more c.args.letters.now c.loop-i.table c.loop-i.i c.loop-i.k c.step-k.result
      (omega arith) c.loop-i-test.true (omega (arith, length-set c.args.table.now 0 0)) c.loop-i.invariant.0 (subst (λ x. Step c.args.letters.now c.loop-i.k x c.step-k.result) c.from.ensures c.step-k.ensures),
  drop-set-lt _ _ _ _ c.loop-i-test.true ∙ c.loop-i.invariant.1,
)
