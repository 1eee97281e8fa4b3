-- A text that is lent, as one value. Definitions only: nothing is assumed.
use Rattle.std.specs.Prelude.{◌≡◌, ℕ, ◌+◌, ◌<◌, List, length}
use Rattle.model.specs.Paper.{Cell, view}
use Rattle.pieces.specs.Store.{cells_of, piece, strung}
use Rattle.kept.specs.Kept.{Kept, Around}
use Rattle.kept.specs.declared.text.Text.{Text}
use Rattle.kept.specs.declared.text.TextMut.{TextMut}

-- its cells
abbrev pub cells_in : Text → List Cell
cells_in t = cells_of t.cells.now t.tables.now t.slots

abbrev pub cells_of_mut : TextMut → List Cell
cells_of_mut t = cells_of t.cells.now t.tables.now t.slots

-- a change of a text, after which its cells are xs
pub record Edited (c p d q : List ℕ) (s : ℕ) (xs : List Cell) : Type 0 where
  pub kept : Kept d q s
  pub around : Around c p d q s
  pub text : cells_of d q s ≡ xs

-- the same memory holds a text whose cells are xs
pub record Rewrites (old new : TextMut) (xs : List Cell) : Type 0 where
  pub same_cells : new.cells.ghost_name ≡ old.cells.ghost_name
  pub same_tables : new.tables.ghost_name ≡ old.tables.ghost_name
  pub same_slots : new.slots ≡ old.slots
  pub edited : Edited old.cells.now old.tables.now new.cells.now new.tables.now old.slots xs

-- seen cell number `place` of the text in way w is seen cell number `offset` of piece k
pub record FoundSeen (c p : List ℕ) (s w place k offset : ℕ) : Type 0 where
  pub here : k < s
  pub within : offset < length (view w (piece c p k))
  pub sum : length (view w (strung (piece c p) 0 k)) + offset ≡ place
