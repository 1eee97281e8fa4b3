use Rattle.std.proofs.Common.{◌≤◌, length, sym, refl, arith}
use Rattle.saving.proofs.Runs.{run_none, run_more}
use Rattle.saving.proofs.write_words.Goals as goal

pub loop-word-init : goal.loop-word-init
loop-word-init c = (sym (run_none c.args.out.now c.args.at 0 c.args.words.now refl), omega arith)

pub loop-word-preserved : goal.loop-word-preserved
loop-word-preserved c =
    let a = c.loop-word.invariant.1 in
    let n = c.number-at.ensures.next in
    let k = c.loop-word.auto.out in
    let l : c.loop-word.at ≤ length c.args.out.now = omega arith in
    (run_more c.args.words.now _ _ _ _ _ _ c.loop-word-test.true c.loop-word.invariant.0 a l c.number-at.ensures.bytes, omega arith)
