-- What is saved: the numbers of a paper's file from number `from` on, n of them, as an answer in lent bytes.
use Rattle.std.specs.Prelude.{◌≡◌, ℕ, ◌+◌, ◌<◌, ◌≤◌, List, ◌∷◌, ◌++◌, length, take, drop, Some, None, Option}
use Rattle.model.specs.Paper.{Change, changes_written, written}
use Rattle.model.specs.Calls.{numbers}
use Rattle.changes.specs.Rows.{changes_in}
use Rattle.changes.specs.declared.Row.{Row}
use Rattle.kept.specs.Text.{cells_in}
use Rattle.kept.specs.declared.text.Text.{Text}
use Rattle.codec.specs.Bytes.{answer_bytes}

-- the numbers of a file before those of the cells
abbrev pub head : List Change → List ℕ
head cs = length cs ∷ changes_written cs

-- the file of the paper that has the cells of a text and the changes of a row
abbrev pub file : Text → Row → List ℕ
file text row = written (record { cells = cells_in text; changes = changes_in row })

-- the numbers are there, and stand in the first r bytes; the bytes after them are as they were
pub record Saves (ns : List ℕ) (from n : ℕ) (out out' : List ℕ) (r : ℕ) : Type 0 where
  pub there : from + n ≤ length ns
  pub bytes : out' ≡ answer_bytes (numbers (take n (drop from ns))) ++ drop r out
  pub long : r ≡ length (answer_bytes (numbers (take n (drop from ns))))

-- the numbers are not all there, and nothing is written
pub record SavesNone (ns : List ℕ) (from n : ℕ) (out out' : List ℕ) : Type 0 where
  pub short : length ns < from + n
  pub same : out' ≡ out

abbrev pub Saved : List ℕ → ℕ → ℕ → List ℕ → List ℕ → Option ℕ → Type 0
Saved ns from n out out' None = SavesNone ns from n out out'
Saved ns from n out out' (Some r) = Saves ns from n out out' r
