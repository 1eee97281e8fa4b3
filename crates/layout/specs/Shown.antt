-- What is shown: the rows from row number `first` on, n of them, as an answer in lent bytes.
use Rattle.std.specs.Prelude.{◌≡◌, ℕ, ◌+◌, ◌<◌, ◌≤◌, List, ◌++◌, length, take, drop, Some, None, Option}
use Rattle.model.specs.Paper.{Cell}
use Rattle.model.specs.Calls.{lines}
use Rattle.codec.specs.Bytes.{answer_bytes}
use Rattle.layout.specs.declared.sheet.Showing.{Showing}

-- the rows are there, and stand in the first r bytes; the bytes after them are as they were
pub record Shows (rs : List (List Cell)) (first n : ℕ) (out out' : List ℕ) (r : ℕ) : Type 0 where
  pub there : first + n ≤ length rs
  pub bytes : out' ≡ answer_bytes (lines (take n (drop first rs))) ++ drop r out
  pub long : r ≡ length (answer_bytes (lines (take n (drop first rs))))

-- the rows are not all there, and nothing is written
pub record ShowsNone (rs : List (List Cell)) (first n : ℕ) (out out' : List ℕ) : Type 0 where
  pub short : length rs < first + n
  pub same : out' ≡ out

abbrev pub Shown : List (List Cell) → ℕ → ℕ → List ℕ → List ℕ → Option Showing → Type 0
Shown rs first n out out' None = ShowsNone rs first n out out'
Shown rs first n out out' (Some s) = Shows rs first n out out' s.long
