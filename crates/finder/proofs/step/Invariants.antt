-- The letters fall back from border to border, while none that is longer goes on with the letter.
use Rattle.std.proofs.Common.{ℕ, ◌≤◌, List}
use Rattle.finder.specs.Match.{Matches}
use Rattle.finder.proofs.Matching.{Falling}
use Rattle.finder.proofs.step.Given as goal

abbrev pub invariant-loop-matched : goal.invariant-loop-matched
invariant-loop-matched l = (l.k ≤ l.initial.k) × ((t : List ℕ) → Matches l.letters t l.initial.k → Falling l.letters t l.letter l.k)

abbrev pub decreases-loop-matched : goal.decreases-loop-matched
decreases-loop-matched l = l.k
