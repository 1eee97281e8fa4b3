use Rattle.std.proofs.Common.{◌≡◌, ◌<◌, length}
use Rattle.model.specs.Values.{way_number}
use Rattle.layout.specs.Spots.{left, Inside, Rests}
use Rattle.slots.specs.Cells.{all_cells}
use Rattle.layout.specs.Seen.{still}
use Rattle.layout.proofs.seen.Seen.first.Given as goal

abbrev pub invariant-loop-piece : goal.invariant-loop-piece
invariant-loop-piece l =
    Inside l.self.text.tables.now l.self.text.slots l.piece l.offset
    × Rests l.self.text (record { piece = l.piece; offset = l.offset }) l.rest.words.now
    × (left l.self.text.cells.now l.self.text.tables.now l.self.text.slots (way_number l.self.way) l.piece l.offset ≡ still l.self)

abbrev pub invariant-loop-x : goal.invariant-loop-x
invariant-loop-x l =
    (l.piece < l.self.text.slots)
    × Inside l.self.text.tables.now l.self.text.slots l.piece l.offset
    × Rests l.self.text (record { piece = l.piece; offset = l.offset }) l.rest.words.now
    × (left l.self.text.cells.now l.self.text.tables.now l.self.text.slots (way_number l.self.way) l.piece l.offset ≡ still l.self)

abbrev pub decreases-loop-x : goal.decreases-loop-x
decreases-loop-x l = length (all_cells l.rest.words.now)
