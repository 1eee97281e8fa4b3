use Rattle.std.proofs.Common.{◌≡◌}
use Rattle.std.specs.Slice.Iter.{chunks_exact_rest, chunks_exact_size}
use Rattle.restore.specs.Back.{goes}
use Rattle.restore.proofs.Marking.{Going}
use Rattle.restore.proofs.marks.Given as goal

abbrev pub invariant-loop-part : goal.invariant-loop-part
invariant-loop-part l =
    goal.iterator-loop-part.can_next l.part-iterator
    × goal.iterator-loop-part.is_finite l.part-iterator
    × (chunks_exact_size l.part-iterator ≡ 5)
    × Going (goes l.verdict l.change) l.words (chunks_exact_rest l.part-iterator) l.initial.text l.text
