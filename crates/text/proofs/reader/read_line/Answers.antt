use Rattle.std.proofs.Common.{◌+◌, ◌-◌, sym, ap, ◌∙◌, subst}
use Rattle.text.specs.Lines.{call_in, reading_from, Fails}
use Rattle.text.proofs.Whole.{reading_got, reading_stop, reading_none}
use Rattle.text.proofs.reader.read_line.Goals as goal

pub returns-in-Ok : goal.returns-in-Ok
returns-in-Ok c =
    let p = c.in-Ok.ensures in
    (p.0, sym c.loop-k.invariant ∙ reading_got c.loop-k.k c.loop-k.far c.args.line.now p.0 c.loop-k-test.true p.1, p.2)

pub loop-k-preserved : goal.loop-k-preserved
loop-k-preserved c =
    let p = subst (Fails (call_in c.loop-k.k c.args.line.now) c.args.line.now) c.in-Err-Place.field-0-is c.in-Err-Place.ensures in
    ap (λ far. reading_from (12 - (c.loop-k.k + 1)) (c.loop-k.k + 1) far c.args.line.now) c.max-far.ensures
    ∙ (sym (reading_stop c.loop-k.k c.loop-k.far c.args.line.now c.in-Err-Place.at c.loop-k-test.true p.1 p.0) ∙ c.loop-k.invariant)

pub returns : goal.returns
returns c = sym c.loop-k.invariant ∙ reading_none c.loop-k.k c.loop-k.far c.args.line.now c.loop-k-test.false
