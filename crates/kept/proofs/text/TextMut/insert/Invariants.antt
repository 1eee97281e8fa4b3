use Rattle.std.proofs.Common.{◌≡◌}
use Rattle.std.specs.Slice.Iter.{chunks_rest, chunks_size}
use Rattle.kept.proofs.Inserting.{Inserting}
use Rattle.kept.proofs.text.TextMut.insert.Given as goal

abbrev pub invariant-loop-part : goal.invariant-loop-part
invariant-loop-part l =
    goal.iterator-loop-part.can_next l.part-iterator
    × goal.iterator-loop-part.is_finite l.part-iterator
    × (chunks_size l.part-iterator ≡ 1280)
    × Inserting l.new (chunks_rest l.part-iterator) l.place l.at l.initial.self l.self
