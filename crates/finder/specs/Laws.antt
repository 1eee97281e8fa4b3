-- What a search, letter by letter, says of the place at which letters are found. Statements: each stands on a function's contract.
use Rattle.std.specs.Prelude.{◌≡◌, ℕ, suc, ◌+◌, ◌-◌, ◌<◌, ◌≤◌, List, length, take, drop}
use Rattle.model.specs.Paper.{Cell, letters}
use Rattle.model.specs.Rows.{find_in}
use Rattle.finder.specs.Match.{Matches, Unfound}

-- The letters ls are sought in the cells xs from place `from` on. Nothing was found in the first i letters, and all of ls match after
-- one more: they are found there, and nowhere earlier.
unfoldable pub FullIsFound : Type 0
FullIsFound =
    (xs : List Cell) (ls : List ℕ) (from i : ℕ) → 0 < length ls → from + i < length xs → Unfound ls (take i (letters (drop from xs))) →
    Matches ls (take (i + 1) (letters (drop from xs))) (length ls) → find_in xs ls from 0 ≡ suc (from + (i + 1) - length ls)

-- Nothing was found in the first i letters, and there are no more (or `from` is past the end): the letters stand nowhere.
unfoldable pub UnfoundIsAbsent : Type 0
UnfoundIsAbsent =
    (xs : List Cell) (ls : List ℕ) (from i : ℕ) → 0 < length ls → length xs ≤ from + i → Unfound ls (take i (letters (drop from xs))) →
    find_in xs ls from 0 ≡ 0
