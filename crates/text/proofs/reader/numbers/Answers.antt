use Rattle.std.proofs.Common.{◌<◌, length, take, sym, ap, ◌∙◌, arith}
use Rattle.std.proofs.lemmas.List.{take_all}
use Rattle.std.proofs.lemmas.Result.{err_from_is_err_and}
use Rattle.text.specs.Lines.{got}
use Rattle.text.proofs.Steps.{numbers_more, numbers_stop, numbers_done}
use Rattle.text.proofs.reader.numbers.Goals as goal

pub returns-in_err-v-clause-read : goal.returns-in_err-v-clause-read
returns-in_err-v-clause-read c =
    let p = err_from_is_err_and c.from_residual.result c.from_residual.ensures.1 in
    rw (p.1, p.2)
    (sym c.loop-n.invariant ∙ numbers_stop (length c.args.all.now) c.loop-n.n-index (take c.loop-n.n-index c.loop-n.all) c.loop-n.left.now c.in_err-v.field-0.0.now c.loop-n-test.true c.in_err-v.ensures)

pub loop-n-preserved : goal.loop-n-preserved
loop-n-preserved c =
    let k : c.loop-n.n-index < length c.loop-n.all = omega (arith, c.loop-n.auto.all) in
    sym (numbers_more (length c.args.all.now) c.loop-n.n-index c.loop-n.all c.loop-n.left.now c.in_ok-v.rest.now c.in_ok-v.v c.loop-n-test.true k c.in_ok-v.ensures)
    ∙ c.loop-n.invariant

pub returns-clause-read : goal.returns-clause-read
returns-clause-read c =
    let whole = take_all c.loop-n.n-index c.loop-n.all (omega (arith, c.loop-n.auto.all)) in
    sym c.loop-n.invariant
    ∙ (numbers_done (length c.args.all.now) c.loop-n.n-index (take c.loop-n.n-index c.loop-n.all) c.loop-n.left.now c.loop-n-test.false
    ∙ ap (λ ns. got ns c.loop-n.left.now) whole)
