use Rattle.std.proofs.Common.{ℕ}
use Rattle.layout.specs.Found.{ahead, Within}
use Rattle.layout.proofs.Remains.{Remains, spot}
use Rattle.layout.proofs.Written.{CellsWritten}
use Rattle.layout.proofs.sheet.Sheet.write_cells.Given as goal

abbrev pub invariant-loop-x : goal.invariant-loop-x
invariant-loop-x l =
    (goal.iterator-loop-x).can_next l.x-iterator × (goal.iterator-loop-x).is_finite l.x-iterator
    × ((j : ℕ) × (Remains l.self l.piece j l.x-iterator.words.now
    × CellsWritten l.fn.out l.fn.at l.n (ahead l.self l.fn.from) l.out l.at l.left (ahead l.self (spot l.piece j))))

abbrev pub invariant-loop-piece : goal.invariant-loop-piece
invariant-loop-piece l =
    Within l.self (spot l.piece l.offset)
    × CellsWritten l.fn.out l.fn.at l.n (ahead l.self l.fn.from) l.out l.at l.left (ahead l.self (spot l.piece l.offset))
