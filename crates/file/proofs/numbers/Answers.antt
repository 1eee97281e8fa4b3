-- Word by word, by the lemmas on what was read.
use Rattle.std.proofs.Common.{rules, arith, sym, ◌∙◌}
use Rattle.std.proofs.lemmas.Bool.Decides.{nat_tests}
use Rattle.file.proofs.WordSteps.{answered_none, answered_some, reads_more, reads_all, reads_full, reads_bad}
use Rattle.file.proofs.numbers.Goals as goal

pub returns-then-count-out : goal.returns-then-count-out
returns-then-count-out c = reads_full _ _ _ _ _ c.loop-left.invariant (omega arith) (grind (arith, nat_tests))

pub returns-in_err-n : goal.returns-in_err-n
returns-in_err-n c =
    let bad = answered_none _ _ _ _ (sym c.ok_or.ensures.value ∙ c.in_err-n.was) c.number.ensures in
    let s = reads_bad _ _ _ _ _ c.loop-left.invariant bad.0 in
    search rules

pub loop-left-preserved : goal.loop-left-preserved
loop-left-preserved c =
    reads_more _ _ _ _ _ c.loop-left.invariant (omega arith) _ _ _ (answered_some _ _ _ _ (sym c.ok_or.ensures.value ∙ c.in_ok-n.was) c.number.ensures) c.past_white-left-in-loop-left.ensures

pub returns : goal.returns
returns c = reads_all _ _ _ _ _ c.loop-left.invariant (grind (arith, nat_tests))
