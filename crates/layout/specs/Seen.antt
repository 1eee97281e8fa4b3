-- What comes of a text, cell by cell.
use Rattle.std.specs.Prelude.{◌≡◌, ◌+◌, ◌<◌, List, [], ◌∷◌, Some, None, Option}
use Rattle.model.specs.Paper as paper
use Rattle.model.specs.Values.{cell_of, way_number}
use Rattle.model.specs.declared.Cell.{Cell}
use Rattle.pieces.specs.Store.{used}
use Rattle.slots.specs.declared.Cells.{Cells}
use Rattle.pieces.specs.declared.Spot.{Spot}
use Rattle.layout.specs.declared.seen.Seen.{Seen}
use Rattle.layout.specs.Spots.{left, Rests}

-- the cells that are seen from a spot on
abbrev pub seen_from : Seen → Spot → List paper.Cell
seen_from s t = left s.text.cells.now s.text.tables.now s.text.slots (way_number s.way) t.piece t.offset

-- the cells that are still to come
abbrev pub still : Seen → List paper.Cell
still s = seen_from s s.spot

-- the spot behind one
abbrev pub behind : Spot → Spot
behind t = record { piece = t.piece; offset = t.offset + 1 }

-- x is the first cell that is to come, and stands at the spot
pub record Stands (s : Seen) (at : Spot) (x : Cell) : Type 0 where
  pub piece : at.piece < s.text.slots
  pub offset : at.offset < used s.text.tables.now at.piece
  pub same : seen_from s at ≡ still s
  pub first : still s ≡ cell_of x ∷ seen_from s (behind at)

abbrev pub FirstSeen : Seen → Option (Spot × Cell × Cells) → Type 0
FirstSeen s None = still s ≡ []
FirstSeen s (Some (at, x, rest)) = Stands s at x × Rests s.text (behind at) rest.words.now

-- the first cell is given, and what comes after it is what is seen from the spot behind it on
pub record GivesCell (s : Seen) (at : Spot) (x : Cell) (t : Seen) : Type 0 where
  pub stands : Stands s at x
  pub text : t.text ≡ s.text
  pub way : t.way ≡ s.way
  pub spot : t.spot ≡ behind at

-- or none is left, now or later
abbrev pub Gives : Seen → Option (Spot × Cell) → Seen → Type 0
Gives s None t = (still s ≡ []) × (still t ≡ [])
Gives s (Some (at, x)) t = GivesCell s at x t
