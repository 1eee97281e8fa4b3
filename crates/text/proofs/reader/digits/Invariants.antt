use Rattle.std.proofs.Common.{◌≡◌, length}
use Rattle.text.specs.Lines.{digits_in}
use Rattle.text.proofs.reader.digits.Given as goal

abbrev pub invariant-loop-left : goal.invariant-loop-left
invariant-loop-left l = digits_in l.n l.left ≡ digits_in l.initial.n l.line

abbrev pub decreases-loop-left : goal.decreases-loop-left
decreases-loop-left l = length l.left
