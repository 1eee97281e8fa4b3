-- What is found of a row.
use Rattle.std.specs.Prelude.{◌≡◌, ℕ, ◌<◌, ◌≤◌, List, [], length, drop, Some, None, Option}
use Rattle.model.specs.Paper.{Cell}
use Rattle.model.specs.Rows.{cut, rows}
use Rattle.model.specs.Values.{way_number}
use Rattle.model.specs.Walk.{step, rest}
use Rattle.pieces.specs.declared.Spot.{Spot}
use Rattle.layout.specs.declared.sheet.Row.{Row}
use Rattle.layout.specs.declared.sheet.Sheet.{Sheet}
use Rattle.layout.specs.Spots.{left, Inside}

-- the cells that are seen from a spot on
abbrev pub ahead : Sheet → Spot → List Cell
ahead s t = left s.text.cells.now s.text.tables.now s.text.slots (way_number s.way) t.piece t.offset

-- a spot in one of the pieces, or after them
abbrev pub Within : Sheet → Spot → Type 0
Within s t = Inside s.text.tables.now s.text.slots t.piece t.offset

-- the next row goes from where k cells from the spot on are passed
pub record GoesOn (s : Sheet) (t : Spot) (k : ℕ) (r : Row) : Type 0 where
  pub spot : Within s r.next
  pub rest : ahead s r.next ≡ drop k (ahead s t)

-- r is the first row of what is seen from the spot on, of which there is something
pub record Found (s : Sheet) (t : Spot) (r : Row) : Type 0 where
  pub some : 0 < length (ahead s t)
  pub long : r.long ≡ (cut s.width (ahead s t)).long
  pub next : GoesOn s t (step s.width (ahead s t)) r

abbrev pub RowIs : Sheet → Spot → Option Row → Type 0
RowIs s t None = ahead s t ≡ []
RowIs s t (Some r) = Found s t r

-- u is the spot after n rows
pub record Passed (s : Sheet) (t : Spot) (n : ℕ) (u : Spot) : Type 0 where
  pub spot : Within s u
  pub enough : n ≤ length (rows s.width (ahead s t))
  pub left : ahead s u ≡ rest s.width n (ahead s t)

abbrev pub SpotIs : Sheet → Spot → ℕ → Option Spot → Type 0
SpotIs s t n None = length (rows s.width (ahead s t)) < n
SpotIs s t n (Some u) = Passed s t n u
