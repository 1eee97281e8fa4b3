use Rattle.std.proofs.Common.{}
use Rattle.layout.specs.Found.{ahead, Within}
use Rattle.layout.proofs.Found.{Sought}
use Rattle.layout.proofs.Remains.{Remains, spot}
use Rattle.layout.proofs.sheet.Sheet.row_from.Given as goal

abbrev pub invariant-loop-x : goal.invariant-loop-x
invariant-loop-x l =
    (goal.iterator-loop-x).can_next l.x-iterator × (goal.iterator-loop-x).is_finite l.x-iterator
    × Remains l.self l.piece l.offset l.x-iterator.words.now
    × Sought l.self l.fn.from (ahead l.self (spot l.piece l.offset)) l.long l.space

abbrev pub invariant-loop-piece : goal.invariant-loop-piece
invariant-loop-piece l = Within l.self (spot l.piece l.offset) × Sought l.self l.fn.from (ahead l.self (spot l.piece l.offset)) l.long l.space
