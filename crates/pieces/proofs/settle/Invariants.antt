use Rattle.std.proofs.Common.{◌+◌, ◌-◌, ◌≤◌}
use Rattle.pieces.specs.Store.{used}
use Rattle.pieces.specs.Edits.{Packed, SameText}
use Rattle.pieces.proofs.settle.Given as goal

abbrev pub invariant-loop-i : goal.invariant-loop-i
invariant-loop-i l = SameText l.initial.c l.initial.p l.c l.p l.s × (l.i ≤ l.j) × Packed l.p l.i l.j

abbrev pub decreases-loop-i : goal.decreases-loop-i
decreases-loop-i l = l.j - l.i + used l.p l.j
