-- What each action makes of a cell, and of a row of cells. Definitions only: nothing is assumed.
use Rattle.std.specs.Prelude.{◌≡◌, ℕ, suc, ◌<◌, ◌≢◌, Bool, false, ◌||◌, List, [], ◌∷◌, ◌++◌, length, take, drop, Some, None, Option, ◌==◌, count_by}
use Rattle.model.specs.Paper.{pick, Cell, Change, author_of, strike, accept, reject, styled, touched}
use Rattle.model.specs.Values.{cell_of}
use Rattle.model.specs.declared.Cell as code
use Rattle.pieces.specs.Marks.{Has}
use Rattle.pieces.specs.Edits.{replaced}
use Rattle.kept.specs.Kept.{Around, Kept}
use Rattle.pieces.specs.Store.{piece}
use Rattle.sweep.specs.declared.Action.{Action}
use Rattle.sweep.specs.declared.Action.TheVariants.{Strike, Accept, Reject, Style}

-- whether a cell goes
abbrev pub goes : Action → List Change → Cell → Bool
goes (Strike a m) cs x = author_of cs x.put_in == suc a
goes (Accept c) cs x = x.struck == suc c
goes (Reject c) cs x = x.put_in == suc c
goes (Style s) cs x = false

-- what a cell is afterwards if it stays
abbrev pub changed : Action → Cell → Cell
changed (Strike a m) x = record { letter = x.letter; style = x.style; put_in = x.put_in; struck = pick (x.struck == 0) m x.struck }
changed (Accept c) x = record { letter = x.letter; style = x.style; put_in = pick (x.put_in == suc c) 0 x.put_in; struck = x.struck }
changed (Reject c) x = record { letter = x.letter; style = x.style; put_in = x.put_in; struck = pick (x.struck == suc c) 0 x.struck }
changed (Style s) x = record { letter = x.letter; style = s; put_in = x.put_in; struck = x.struck }

-- what becomes of a cell: no cell, or one
abbrev pub fate : Action → List Change → Cell → List Cell
fate a cs x = pick (goes a cs x) [] (changed a x ∷ [])

-- the fates of cells, one after the other
unfoldable pub swept : Action → List Change → List Cell → List Cell
swept a cs [] = []
swept a cs (x ∷ xs) = fate a cs x ++ swept a cs xs

-- xs with the n cells from place o on swept
abbrev pub swept_run : Action → List Change → List Cell → ℕ → ℕ → List Cell
swept_run a cs xs o n = replaced xs o n (swept a cs (take n (drop o xs)))

-- how many of the cells have the mark m
abbrev pub marked : ℕ → List Cell → ℕ
marked m xs = count_by (λ x. x.put_in == m || x.struck == m) xs

-- how many of the cells the action is about: those with the mark of the change that is decided, or all
abbrev pub concerned : Action → List Cell → ℕ
concerned (Strike a m) xs = length xs
concerned (Accept c) xs = touched xs c
concerned (Reject c) xs = touched xs c
concerned (Style s) xs = length xs

-- the set of slot i has the mark that the action writes, if it writes one
abbrev pub Noted : Action → List ℕ → ℕ → Type 0
Noted (Strike a m) p i = 0 < m → Has p i m
Noted (Accept c) p i = Unit {0}
Noted (Reject c) p i = Unit {0}
Noted (Style s) p i = Unit {0}

-- the cell that is left, if one is
abbrev pub left_of : Option code.Cell → List Cell
left_of None = []
left_of (Some x) = cell_of x ∷ []

-- piece k is now xs, and the others are as they were
pub record SweptPiece (c p d q : List ℕ) (s k : ℕ) (xs : List Cell) : Type 0 where
  pub kept : Kept d q s
  pub around : Around c p d q s
  pub here : piece d q k ≡ xs
  pub others : (j : ℕ) → j < s → j ≢ k → piece d q j ≡ piece c p j

-- what the model says of the four is a sweep, of all cells or of n cells from place i on
abbrev pub OneMeaning : Type 0
OneMeaning =
    (cs : List Change) (xs : List Cell)
    → ((c : ℕ) → accept xs c ≡ swept (Accept c) cs xs)
    × ((c : ℕ) → reject xs c ≡ swept (Reject c) cs xs)
    × ((i n a c : ℕ) → take i xs ++ strike (drop i xs) n cs a c ≡ swept_run (Strike a (suc c)) cs xs i n)
    × ((i n s : ℕ) → take i xs ++ styled (drop i xs) n s ≡ swept_run (Style s) cs xs i n)
