-- Nothing was found so far.
use Rattle.finder.specs.Match.{Seeking}
use Rattle.finder.proofs.tests.place.Given as goal

abbrev pub invariant-loop-i : goal.invariant-loop-i
invariant-loop-i l = Seeking l.letters l.text l.i l.k
