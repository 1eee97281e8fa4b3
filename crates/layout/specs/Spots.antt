-- What is left of a text from a spot on: cell j of piece k and all after it.
use Rattle.std.specs.Prelude.{◌≡◌, ℕ, ◌+◌, ◌-◌, ◌<◌, ◌≤◌, List, drop}
use Rattle.model.specs.Paper.{Cell, view}
use Rattle.pieces.specs.Store.{number, used, cells_of, before}
use Rattle.kept.specs.declared.text.Text.{Text}
use Rattle.slots.specs.Cells.{all_cells, cells_at}
use Rattle.pieces.specs.declared.Spot.{Spot}

-- the cells that are seen from a spot on
unfoldable pub left : List ℕ → List ℕ → ℕ → ℕ → ℕ → ℕ → List Cell
left c p s way k j = view way (drop (before p k + j) (cells_of c p s))

-- a spot in one of s pieces, or after them; it may stand after the last cell of its piece
pub record Inside (p : List ℕ) (s k j : ℕ) : Type 0 where
  pub piece : k ≤ s
  pub offset : j ≤ used p k

-- the words of what is left of a spot's piece; behind the last piece, any words
abbrev pub Rests : Text → Spot → List ℕ → Type 0
Rests t at ws = at.piece < t.slots → all_cells ws ≡ cells_at t.cells.now (number t.tables.now at.piece at.offset) (used t.tables.now at.piece - at.offset)
