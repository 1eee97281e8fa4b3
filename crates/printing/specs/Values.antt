-- The model's value for each struct of the code.
use Rattle.std.specs.Prelude.{◌≡◌, ℕ, suc, ◌+◌, ◌<◌, ◌≤◌, List, ◌++◌, map, length, Some, None, Ok, Err, OnOk, vec_items, Option, Result, Vec, ⊤}
use Rattle.std.specs.Borrow.{Bor, MutBor}
use Rattle.model.specs.Paper as paper
use Rattle.model.specs.Values as model
use Rattle.model.specs.declared.Cell as code
use Rattle.printing.specs.declared.reading.Cell.{Cell}
use Rattle.printing.specs.declared.reading.Paper.{Paper}
use Rattle.printing.specs.declared.reading.ReadError.{ReadError}
use Rattle.printing.specs.declared.reading.ReadError.TheVariants.{Ceases, Memory}
use Rattle.model.specs.Rows as rows
use Rattle.printing.specs.declared.rows.Cut.{Cut}
use Rattle.printing.specs.Reading.{Says, CeasesAt}

abbrev pub cell_of : Cell → paper.Cell
cell_of x = record { letter = x.letter; style = x.style; put_in = x.put_in; struck = x.struck }

-- the same cell as in the model's code
abbrev pub Widens : Cell → code.Cell → Type 0
Widens x y = model.cell_of y ≡ cell_of x

abbrev pub cells_of : List Cell → List paper.Cell
cells_of xs = map cell_of xs

abbrev pub paper_of : Paper → paper.Paper
paper_of p = record { cells = cells_of (vec_items p.cells); changes = map model.change_of (vec_items p.changes) }

-- A call that gives r and leaves `left` appends, where there was memory, what `shown` is of the paper that it was given.
abbrev pub Appends : {A X E : Type 0} → (MutBor (Vec ℕ A) → Bor Paper → Result X E → MutBor (Vec ℕ A) → Type 0) → (paper.Paper → List ℕ) → Type 0
Appends {A} {X} {E} call shown =
    (out left : MutBor (Vec ℕ A)) (p : Bor Paper) (r : Result X E) → call out p r left → OnOk r (vec_items left.now ≡ vec_items out.now ++ shown (paper_of p.now))

-- what was read of a text, where there was memory
abbrev pub Reads : List ℕ → Result Paper ReadError → Type 0
Reads text (Ok p) = Says text (paper_of p)
Reads text (Err (Ceases i)) = CeasesAt text i
Reads text (Err Memory) = ⊤

-- one more than a place, or 0
abbrev pub after_place : Option ℕ → ℕ
after_place None = 0
after_place (Some i) = suc i

abbrev pub cut_of : Cut → rows.Cut
cut_of c = record { long = c.long; skips = c.skips }

-- the first row of some cells
pub record FirstRow (xs : List Cell) (r : Cut) : Type 0 where
  pub is : cut_of r ≡ rows.cut 64 (cells_of xs)
  pub inside : r.long + r.skips ≤ length xs
  pub moves : 0 < length xs → 0 < r.long + r.skips

-- what is read where there is no cell
abbrev pub none : Cell
none = record { letter = 0; style = 0; put_in = 0; struck = 0 }
