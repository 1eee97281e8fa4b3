-- What a text is: the file of a paper, or where it ceases to be one. Definitions only: nothing is assumed.
use Rattle.std.specs.Prelude.{◌≡◌, ℕ, ◌+◌, ◌≤◌, List, map, length, take, ◌≢◌}
use Rattle.std.specs.List.{AllByRecursion}
use Rattle.model.specs.Paper.{Paper, written}
use Rattle.file.specs.Paper.{Fits}
use Rattle.file.specs.Words.{words, value, WordFits}

-- The words of a text are numbers, and these are the file of a paper that fits: of at most 128 changes and 2,048 cells.
pub record Says (text : List ℕ) (p : Paper) : Type 0 where
  pub numbers : AllByRecursion WordFits (words text)
  pub fits : Fits p
  pub file : map value (words text) ≡ written p

-- At word i, counted from 0, a text ceases to be the file of a paper: the words before it are numbers with which the file of some paper that
-- fits begins, and none begins with these and the word at i. Where i is how many words there are, no paper that fits has just these as its file.
pub record EndsAt (text : List ℕ) (i : ℕ) : Type 0 where
  pub within : i ≤ length (words text)
  pub numbers : AllByRecursion WordFits (take i (words text))
  pub begins : (p : Paper) × Fits p × (take i (written p) ≡ take i (map value (words text)))
  pub ends : (p : Paper) → Fits p → AllByRecursion WordFits (take (i + 1) (words text)) → take (i + 1) (written p) ≢ take (i + 1) (map value (words text))

-- where a text ceases, which is never after more numbers than a paper that fits has
abbrev pub CeasesAt : List ℕ → ℕ → Type 0
CeasesAt text i = EndsAt text i × (i ≤ 8449)
