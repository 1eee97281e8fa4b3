-- The words of what is left are the same.
use Rattle.std.proofs.Common.{◌≡◌, ◌≤◌, length}
use Rattle.file.specs.Words.{words}
use Rattle.file.proofs.past_white.Given as goal

abbrev pub invariant-loop-left : goal.invariant-loop-left
invariant-loop-left l = (words l.left ≡ words l.text) × (length l.left ≤ length l.text)

abbrev pub decreases-loop-left : goal.decreases-loop-left
decreases-loop-left l = length l.left
