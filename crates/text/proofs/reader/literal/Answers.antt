use Rattle.std.proofs.Common.{sym, ◌∙◌, arith}
use Rattle.std.proofs.lemmas.Bool.{ltb-true}
use Rattle.text.proofs.Steps.{literal_done, literal_short, literal_differs, literal_more}
use Rattle.text.proofs.reader.literal.Goals as goal
use Rattle.text.proofs.reader.literal.Goals.{in_default-via-then-left-lt1, in_default-via-in-len1-up+else-x-w}

pub returns-in_default : goal.returns-in_default
returns-in_default c =
    sym c.loop-w.invariant
    ∙ elim c.in_default.branch [
      | in_default-via-then-left-lt1 w ↦ literal_short c.args.word.now c.loop-w.w-index c.loop-w.left.now c.loop-w-test.true (omega (arith, ltb-true))
      | in_default-via-in-len1-up+else-x-w w ↦ literal_differs c.args.word.now c.loop-w.w-index c.loop-w.left.now c.loop-w-test.true w.in-len1-up.len_at_least w.if-x-w.false
    ]

pub loop-w-preserved : goal.loop-w-preserved
loop-w-preserved c =
    sym (literal_more c.args.word.now c.loop-w.w-index c.loop-w.left.now c.loop-w-test.true c.in-len1-up.len_at_least c.if-x-w.true) ∙ c.loop-w.invariant

pub returns : goal.returns
returns c = sym c.loop-w.invariant ∙ literal_done c.args.word.now c.loop-w.w-index c.loop-w.left.now c.loop-w-test.false
