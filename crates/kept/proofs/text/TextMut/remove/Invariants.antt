use Rattle.std.proofs.Common.{◌-◌, ◌≤◌, []}
use Rattle.kept.specs.Text.{cells_of_mut, Rewrites}
use Rattle.pieces.specs.Edits.{replaced}
use Rattle.kept.proofs.text.TextMut.remove.Given as goal

abbrev pub invariant-loop-left : goal.invariant-loop-left
invariant-loop-left l = (l.left ≤ l.n) × Rewrites l.initial.self l.self (replaced (cells_of_mut l.initial.self) l.place (l.n - l.left) [])

abbrev pub decreases-loop-left : goal.decreases-loop-left
decreases-loop-left l = l.left
