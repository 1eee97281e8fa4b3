-- No byte before ends a line.
use Rattle.transcript.proofs.FileLines.{Plain}
use Rattle.transcript.proofs.lines.first_line.Given as goal

abbrev pub invariant-loop-i : goal.invariant-loop-i
invariant-loop-i l = Plain l.file l.i
