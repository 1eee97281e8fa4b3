-- A paper on which several people write: a row of cells and a row of changes, and what each act does to the cells.
-- Definitions only: nothing is assumed.
use Rattle.std.specs.Prelude.{ℕ, zero, suc, ◌+◌, Bool, true, false, ◌||◌, List, [], ◌∷◌, ◌++◌, length, ◌==◌, slice_index_or}

-- a if the test holds, else b
abbrev pub pick : {A : Type 0} → Bool → A → A → A
pick true a b = a
pick false a b = b

-- A letter (32 to 126, or 10, which ends a paragraph) with a style; by which open change it was put in, and by which it was struck out:
-- 0 for none, else one more than the change's number.
pub record Cell : Type 0 where
  pub letter : ℕ
  pub style : ℕ
  pub put_in : ℕ
  pub struck : ℕ

-- A change has an author, and what became of it: 0 open, 1 accepted, 2 rejected. Its number is its place in the row of changes.
pub record Change : Type 0 where
  pub author : ℕ
  pub became : ℕ

pub record Paper : Type 0 where
  pub cells : List Cell
  pub changes : List Change

-- the letters ls in the style s, put in by change number c
unfoldable pub new_cells : List ℕ → ℕ → ℕ → List Cell
new_cells [] s c = []
new_cells (l ∷ ls) s c = record { letter = l; style = s; put_in = suc c; struck = 0 } ∷ new_cells ls s c

-- by a cell's mark: 0 where there is none, else one more than the author of the change
unfoldable pub author_of : List Change → ℕ → ℕ
author_of cs zero = 0
author_of cs (suc c) = suc (slice_index_or cs c (record { author = 0; became = 0 })).author

-- The first n cells are struck out by change number c of author a. Those that an open change of the same author put in go at once.
-- The others are struck out by c, but one that is struck out already stays with the change that struck it first.
unfoldable pub strike : List Cell → ℕ → List Change → ℕ → ℕ → List Cell
strike [] n cs a c = []
strike (x ∷ xs) zero cs a c = x ∷ xs
strike (x ∷ xs) (suc n) cs a c =
    pick (author_of cs x.put_in == suc a) (strike xs n cs a c)
    (record { letter = x.letter; style = x.style; put_in = x.put_in; struck = pick (x.struck == 0) (suc c) x.struck } ∷ strike xs n cs a c)

-- Change number c is accepted: what it put in is put in by nobody from now on, and what it struck out goes.
unfoldable pub accept : List Cell → ℕ → List Cell
accept [] c = []
accept (x ∷ xs) c =
    pick (x.struck == suc c) (accept xs c)
    (record { letter = x.letter; style = x.style; put_in = pick (x.put_in == suc c) 0 x.put_in; struck = x.struck } ∷ accept xs c)

-- Change number c is rejected: what it put in goes, and what it struck out is struck out by nobody.
unfoldable pub reject : List Cell → ℕ → List Cell
reject [] c = []
reject (x ∷ xs) c =
    pick (x.put_in == suc c) (reject xs c)
    (record { letter = x.letter; style = x.style; put_in = x.put_in; struck = pick (x.struck == suc c) 0 x.struck } ∷ reject xs c)

-- the first n cells get the style s
unfoldable pub styled : List Cell → ℕ → ℕ → List Cell
styled [] n s = []
styled (x ∷ xs) zero s = x ∷ xs
styled (x ∷ xs) (suc n) s = record { letter = x.letter; style = s; put_in = x.put_in; struck = x.struck } ∷ styled xs n s

-- Three ways to look at a paper: 0 everything; 1 as if all open changes were accepted, which is without what is struck out;
-- 2 as if all were rejected, which is without what was put in.
unfoldable pub seen : ℕ → Cell → Bool
seen zero x = true
seen (suc zero) x = x.struck == 0
seen (suc (suc k)) x = x.put_in == 0

-- the cells that are seen in a way to look
unfoldable pub view : ℕ → List Cell → List Cell
view k [] = []
view k (x ∷ xs) = pick (seen k x) (x ∷ view k xs) (view k xs)

unfoldable pub letters : List Cell → List ℕ
letters [] = []
letters (x ∷ xs) = x.letter ∷ letters xs

-- how many cells have the mark of change number c: put in by it, struck out by it, or both
unfoldable pub touched : List Cell → ℕ → ℕ
touched [] c = 0
touched (x ∷ xs) c = pick (x.put_in == suc c || x.struck == suc c) 1 0 + touched xs c

-- A paper's file, a row of numbers: how many changes; for each its author and what became of it; for each cell letter, style, put in, struck.
unfoldable pub cells_written : List Cell → List ℕ
cells_written [] = []
cells_written (x ∷ xs) = x.letter ∷ (x.style ∷ (x.put_in ∷ (x.struck ∷ cells_written xs)))

unfoldable pub changes_written : List Change → List ℕ
changes_written [] = []
changes_written (c ∷ cs) = c.author ∷ (c.became ∷ changes_written cs)

abbrev pub written : Paper → List ℕ
written p = length p.changes ∷ (changes_written p.changes ++ cells_written p.cells)
