-- Whatever the letters are, a reader of the page sees just these: none of them becomes markup.
use Rattle.std.specs.Prelude.{◌≡◌, ℕ, List, ◌++◌}
use Rattle.model.specs.Paper.{Cell, Change, letters}
use Rattle.markup.specs.Plain.{all_escaped, plain}
use Rattle.markup.specs.Marked.{marked}

abbrev pub ReadsLetters : Type 0
ReadsLetters = (ls rest : List ℕ) → plain (all_escaped ls ++ rest) ≡ ls ++ plain rest

abbrev pub ReadsCells : Type 0
ReadsCells = (cs : List Change) (xs : List Cell) (rest : List ℕ) → plain (marked cs xs ++ rest) ≡ letters xs ++ plain rest
