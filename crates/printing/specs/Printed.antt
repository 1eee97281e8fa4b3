-- What is printed of a paper, byte by byte. Definitions only: nothing is assumed.
use Rattle.std.specs.Prelude.{◌≡◌, ℕ, zero, suc, ◌+◌, ◌⊎◌, List, [], ◌∷◌, ◌++◌, codes, decimal}
use Rattle.model.specs.Paper.{Cell, Paper, view}
use Rattle.model.specs.Rows.{rows}
use Rattle.text.specs.Shown.{row_line}
use Rattle.printing.specs.Reading.{Says, EndsAt}

-- each row is a line, which ends with byte 10
unfoldable pub rows_printed : List (List Cell) → List ℕ
rows_printed [] = []
rows_printed (r ∷ rs) = row_line r ++ (10 ∷ rows_printed rs)

-- The line that says which way it is. It begins with a bar, and no row does, since a bar that is a letter has a \ before it.
abbrev pub title : ℕ → List ℕ
title zero = codes "| 0: everything"
title (suc zero) = codes "| 1: as if all open changes were accepted"
title (suc (suc k)) = codes "| 2: as if all open changes were rejected"

abbrev pub way_printed : ℕ → List Cell → List ℕ
way_printed k xs = title k ++ (10 ∷ rows_printed (rows 64 (view k xs)))

abbrev pub paper_printed : Paper → List ℕ
paper_printed p = way_printed 0 p.cells ++ (way_printed 1 p.cells ++ way_printed 2 p.cells)

-- number 1 is the first
abbrev pub refusal : ℕ → List ℕ
refusal i = codes "Not a paper: number " ++ (decimal (i + 1) ++ (codes " is missing or does not fit." ++ (10 ∷ [])))

-- what is written of a text, where `shown` is what is written of a paper: that of the paper that it says, or the sentence that refuses it
abbrev pub Written : (Paper → List ℕ) → List ℕ → List ℕ → Type 0
Written shown text out = ((p : Paper) × Says text p × (out ≡ shown p)) ⊎ ((i : ℕ) × EndsAt text i × (out ≡ refusal i))

-- what the program prints of a text
abbrev pub Printed : List ℕ → List ℕ → Type 0
Printed text out = Written paper_printed text out
