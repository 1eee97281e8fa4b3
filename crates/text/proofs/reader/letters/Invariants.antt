use Rattle.std.proofs.Common.{◌≡◌, false, [], length}
use Rattle.text.specs.Lines.{letters_in}
use Rattle.text.proofs.reader.letters.Given as goal

abbrev pub invariant-loop-left : goal.invariant-loop-left
invariant-loop-left l = letters_in l.escaped l.text.items l.left ≡ letters_in false [] l.line

abbrev pub decreases-loop-left : goal.decreases-loop-left
decreases-loop-left l = length l.left
