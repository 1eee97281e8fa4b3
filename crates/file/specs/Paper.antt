-- Papers that fit a file, the paper that some numbers are, and where numbers cease to be a file. Definitions only: nothing is assumed.
use Rattle.std.specs.Prelude.{◌≡◌, ℕ, zero, suc, ◌+◌, ◌*◌, ◌<◌, ◌≤◌, true, List, [], ◌∷◌, length, take, ◌≢◌, slice_index, slice_index_or}
use Rattle.model.specs.Paper.{Cell, Change, Paper, written}
use Rattle.model.specs.Valid.{open_mark}

-- an author below 256; open, accepted or rejected
pub record ChangeFits (c : Change) : Type 0 where
  pub author : c.author < 256
  pub became : c.became < 3

-- 32 to 126, or 10
abbrev pub LetterFits : ℕ → Type 0
LetterFits l = (l ≤ 126) × (l < 32 → l ≡ 10)

-- each mark is none, or of a change that is there and open
pub record CellFits (cs : List Change) (x : Cell) : Type 0 where
  pub letter : LetterFits x.letter
  pub style : x.style < 256
  pub put_in : open_mark cs x.put_in ≡ true
  pub struck : open_mark cs x.struck ≡ true

abbrev pub no_change : Change
no_change = record { author = 0; became = 0 }

abbrev pub no_cell : Cell
no_cell = record { letter = 0; style = 0; put_in = 0; struck = 0 }

-- a paper that fits a file: at most 128 changes and 2,048 cells, each of which fits
pub record Fits (p : Paper) : Type 0 where
  pub few_changes : length p.changes ≤ 128
  pub few_cells : length p.cells ≤ 2048
  pub changes : (k : ℕ) → k < length p.changes → ChangeFits (slice_index_or p.changes k no_change)
  pub cells : (k : ℕ) → k < length p.cells → CellFits p.changes (slice_index_or p.cells k no_cell)

-- change number k of the numbers of a file, and n changes from number k on
abbrev pub change_at : List ℕ → ℕ → Change
change_at ns k = record { author = slice_index ns (1 + 2 * k); became = slice_index ns (2 + 2 * k) }

unfoldable pub changes_from : List ℕ → ℕ → ℕ → List Change
changes_from ns k zero = []
changes_from ns k (suc n) = change_at ns k ∷ changes_from ns (suc k) n

-- the cell whose numbers begin at a place, and m cells from a place on
abbrev pub cell_at : List ℕ → ℕ → Cell
cell_at ns i = record { letter = slice_index ns i; style = slice_index ns (i + 1); put_in = slice_index ns (i + 2); struck = slice_index ns (i + 3) }

unfoldable pub cells_from : List ℕ → ℕ → ℕ → List Cell
cells_from ns i zero = []
cells_from ns i (suc m) = cell_at ns i ∷ cells_from ns (i + 4) m

-- the paper of n changes and m cells in these numbers
abbrev pub paper_of : List ℕ → ℕ → ℕ → Paper
paper_of ns n m = record { cells = cells_from ns (1 + 2 * n) m; changes = changes_from ns 0 n }

-- these numbers are the file of a paper of n changes and m cells that fits
pub record IsFile (ns : List ℕ) (n m : ℕ) : Type 0 where
  pub fits : Fits (paper_of ns n m)
  pub is : ns ≡ written (paper_of ns n m)
  pub changes : length (paper_of ns n m).changes ≡ n
  pub cells : length (paper_of ns n m).cells ≡ m
  pub long : length ns ≡ 1 + 2 * n + 4 * m

-- At place i these numbers cease to be a file: the file of some paper that fits begins with the i numbers before it, and none begins with
-- these and the one at i. Where i is how many numbers there are, no paper that fits has just these as its file.
pub record Ceases (ns : List ℕ) (i : ℕ) : Type 0 where
  pub within : i ≤ length ns
  pub begins : (p : Paper) × Fits p × (take i (written p) ≡ take i ns)
  pub ends : (p : Paper) → Fits p → take (i + 1) (written p) ≢ take (i + 1) ns
