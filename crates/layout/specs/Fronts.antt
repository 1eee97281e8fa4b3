-- What is kept of pieces about rows, and where the rows stand at the front of a piece.
use Rattle.std.specs.Prelude.{◌≡◌, ℕ, ◌≤◌, length}
use Rattle.model.specs.Paper.{view}
use Rattle.model.specs.Values.{way_number}
use Rattle.breaks.specs.Breaks.{fresh, scan}
use Rattle.breaks.specs.declared.Begun.{Begun}
use Rattle.kept.specs.declared.memo.Memo.{Memo}
use Rattle.pieces.specs.Store.{piece, strung}
use Rattle.layout.specs.declared.sheet.Front.{Front}
use Rattle.layout.specs.declared.sheet.Sheet.{Sheet}

-- what piece k does to rows of the sheet, where the row b has begun before it
pub record MemoIs (s : Sheet) (k : ℕ) (b : Begun) (m : Memo) : Type 0 where
  pub width : m.width ≡ s.width
  pub way : m.way ≡ way_number s.way
  pub before : m.before ≡ b
  pub reached : m.reached ≡ scan s.width b (view (way_number s.way) (piece s.text.cells.now s.text.tables.now k))
  pub wide : m.reached.begun.long ≤ s.width
  pub few : m.reached.rows ≤ 1024

-- the front of piece k
pub record FrontOf (s : Sheet) (k : ℕ) (f : Front) : Type 0 where
  pub number : f.piece ≡ k
  pub here : k ≤ s.text.slots
  pub rows : f.rows ≡ (scan s.width fresh (view (way_number s.way) (strung (piece s.text.cells.now s.text.tables.now) 0 k))).rows
  pub seen : f.seen ≡ length (view (way_number s.way) (strung (piece s.text.cells.now s.text.tables.now) 0 k))
  pub begun : f.begun ≡ (scan s.width fresh (view (way_number s.way) (strung (piece s.text.cells.now s.text.tables.now) 0 k))).begun

abbrev pub IsFront : Sheet → Front → Type 0
IsFront s f = (k : ℕ) × FrontOf s k f
