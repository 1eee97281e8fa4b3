-- The marks of the pieces so far, and how many cells these have.
use Rattle.std.proofs.Common.{◌≡◌}
use Rattle.pieces.specs.Store.{pieces_from, before}
use Rattle.recorder.proofs.Marking.{MarkedAt}
use Rattle.recorder.proofs.mark_text.Given as goal

abbrev pub invariant-loop-k : goal.invariant-loop-k
invariant-loop-k l = MarkedAt l.initial.words l.words 0 (pieces_from l.text.cells.now l.text.tables.now 0 l.k) l.change 0 l.found × (l.first ≡ before l.text.tables.now l.k)
