use Rattle.std.proofs.Common.{◌≡◌, suc, ◌+◌, arith}
use Rattle.std.proofs.lemmas.List.{take_rest}
use Rattle.transcript.specs.Transcript.{lines_of}
use Rattle.transcript.proofs.FileLines.{line_ends, line_last}
use Rattle.transcript.proofs.lines.first_line.Goals as goal

pub returns-then-x-eq10-clause-lines : goal.returns-then-x-eq10-clause-lines
returns-then-x-eq10-clause-lines c =
    let i = c.loop-i.i in
    let file = c.args.file.now in
    let next : i + 1 ≡ suc i = omega arith in
    rw (take_rest file (i + 1), next) (line_ends file i (omega (arith, c.loop-i-test.true)) c.loop-i.invariant (cc))

pub returns-clause-lines : goal.returns-clause-lines
unfolding lines_of
returns-clause-lines c = line_last c.args.file.now c.requires (λ k h e. c.loop-i.invariant k (omega arith) e)
