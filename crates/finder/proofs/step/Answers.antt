-- A match falls back from border to border, until the letter goes on with it.
use Rattle.std.proofs.Common.{sym, ◌∙◌, arith}
use Rattle.finder.proofs.Matching.{falling_first, falling_on, falling_full, falling_none, border_of}
use Rattle.finder.proofs.step.Goals as goal

pub loop-matched-init : goal.loop-matched-init
loop-matched-init c = (omega arith, λ t m. falling_first m)

pub loop-matched-preserved : goal.loop-matched-preserved
loop-matched-preserved c =
    let o = border_of c.args.letters.now c.args.table.now c.args.matched c.loop-matched.k c.requires.table c.if-k-eq0.false c.loop-matched.invariant.0 in
    (omega (arith, o.proper, c.loop-matched.invariant.0), λ t m. falling_on (λ e. c.loop-matched-test.true (c.from.ensures ∙ e)) o (c.loop-matched.invariant.1 t m))

pub returns-then-k-eq0 : goal.returns-then-k-eq0
returns-then-k-eq0 c = λ t m. falling_none c.if-k-eq0.true (λ e. c.loop-matched-test.true (c.from.ensures ∙ e)) (c.loop-matched.invariant.1 t m)

pub returns : goal.returns
returns c = λ t m. falling_full (omega arith) (sym c.from.ensures ∙ c.loop-matched-test.false) (c.loop-matched.invariant.1 t m)
