-- What a scan letter by letter says of the rows of a text. Statements: they stand on the contract of a function.
use Rattle.std.specs.Prelude.{◌≡◌, ℕ, ◌+◌, ◌-◌, ◌<◌, ◌≤◌, List, ◌++◌, length, drop}
use Rattle.model.specs.Paper.{Cell}
use Rattle.model.specs.Rows.{rows}
use Rattle.model.specs.Walk.{rest}
use Rattle.breaks.specs.declared.Begun.{Begun}
use Rattle.breaks.specs.declared.Reached.{Reached}
use Rattle.breaks.specs.Breaks.{fresh, scan}

-- After the first n letters of `all`, r is reached: the row with number r.rows of `all` begins r.begun.long letters before.
pub record RowBegins (w : ℕ) (r : Reached) (n : ℕ) (all : List Cell) : Type 0 where
  pub within : r.begun.long ≤ n
  pub start : rest w r.rows all ≡ drop (n - r.begun.long) all
  pub enough : r.rows ≤ length (rows w all)

-- One part after another.
abbrev pub ScanAppend : Type 0
ScanAppend =
    (w : ℕ) (b : Begun) (xs ys : List Cell) →
    scan w b (xs ++ ys) ≡ record { rows = (scan w b xs).rows + (scan w (scan w b xs).begun ys).rows; begun = (scan w (scan w b xs).begun ys).begun }

-- A row that has begun is never too long.
abbrev pub ScanWide : Type 0
ScanWide = (w : ℕ) (b : Begun) (xs : List Cell) → 0 < w → b.long ≤ w → (scan w b xs).begun.long ≤ w

-- No letter ends more than one row.
abbrev pub ScanFew : Type 0
ScanFew = (w : ℕ) (b : Begun) (xs : List Cell) → (scan w b xs).rows ≤ length xs

-- From the start of a text the rows are those that are found from row to row, whatever zs follows.
abbrev pub ScanRows : Type 0
ScanRows = (w : ℕ) (xs zs : List Cell) → 0 < w → RowBegins w (scan w fresh xs) (length xs) (xs ++ zs)

pub record Breaks : Type 0 where
  pub append : ScanAppend
  pub wide : ScanWide
  pub few : ScanFew
  pub rows : ScanRows
