-- The letters so far stand there.
use Rattle.std.proofs.Common.{◌≡◌, ◌++◌, take, drop}
use Rattle.session.proofs.undoing.copy_letters.Given as goal

abbrev pub invariant-loop-i : goal.invariant-loop-i
invariant-loop-i l = l.letters ≡ take l.i l.words ++ drop l.i l.initial.letters
