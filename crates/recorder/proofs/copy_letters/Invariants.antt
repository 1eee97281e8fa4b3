-- The letters so far stand there.
use Rattle.std.proofs.Common.{◌≡◌, take}
use Rattle.recorder.proofs.Splices.{written_at}
use Rattle.recorder.proofs.copy_letters.Given as goal

abbrev pub invariant-loop-i : goal.invariant-loop-i
invariant-loop-i l = l.words ≡ written_at l.initial.words 0 (take l.i l.letters)
