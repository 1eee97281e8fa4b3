-- What is kept of a call that wrote, so that it can be undone and done again: the call's own numbers, and what it took away.
-- Definitions only: nothing is assumed.
use Rattle.std.specs.Prelude.{◌≡◌, ℕ, suc, ◌+◌, ◌-◌, ◌<◌, ◌≤◌, Bool, ◌||◌, List, [], ◌∷◌, ◌++◌, length, take, drop, ◌==◌, slice_set}
use Rattle.model.specs.Paper.{pick, Cell, Change, Paper, author_of}
use Rattle.model.specs.Calls.{Call, put, strikes, accepts, rejects, styles, undo, redo, show, find, count, change, save, became, with_became, rewritten, how_much}

-- a cell as it was, with the place where it stood
pub record Mark : Type 0 where
  pub place : ℕ
  pub cell : Cell

-- For each call that writes its numbers, and:
-- put: the letters; struck: how many of the cells stayed, and all of them as they were; styled: the cells as they were;
-- accepted and rejected: each cell that had the change's mark, in ascending order of place.
pub data Entry : Type 0 where
  was_put : ℕ → ℕ → ℕ → List ℕ → Entry  -- author, place, style, letters
  was_struck : ℕ → ℕ → ℕ → List Cell → Entry  -- author, place, how many stayed, old cells
  was_accepted : ℕ → List Mark → Entry  -- change
  was_rejected : ℕ → List Mark → Entry  -- change
  was_styled : ℕ → ℕ → List Cell → Entry  -- place, style, old cells

-- how many of these cells stay when author a strikes them out: those that no open change of the same author put in
unfoldable pub staying : List Cell → List Change → ℕ → ℕ
staying [] cs a = 0
staying (x ∷ xs) cs a = pick (author_of cs x.put_in == suc a) 0 1 + staying xs cs a

-- the cells that have the mark of change number c; i is the place of the first cell
unfoldable pub marks_of : List Cell → ℕ → ℕ → List Mark
marks_of [] c i = []
marks_of (x ∷ xs) c i =
    pick (x.put_in == suc c || x.struck == suc c) (record { place = i; cell = x } ∷ marks_of xs c (suc i)) (marks_of xs c (suc i))

-- What is kept of a call, from the paper before it. Of a call that does not write nothing is kept; an entry that changes nothing stands for that.
unfoldable pub entry_of : Paper → Call → Entry
entry_of p (put a i s ls) = was_put a i s ls
entry_of p (strikes a i n) = was_struck a i (staying (take n (drop i p.cells)) p.changes a) (take n (drop i p.cells))
entry_of p (accepts c) = was_accepted c (marks_of p.cells c 0)
entry_of p (rejects c) = was_rejected c (marks_of p.cells c 0)
entry_of p (styles i n s) = was_styled i s (take n (drop i p.cells))
entry_of p undo = was_styled 0 0 []
entry_of p redo = was_styled 0 0 []
entry_of p (show k w r n) = was_styled 0 0 []
entry_of p (find k i ls) = was_styled 0 0 []
entry_of p (count k) = was_styled 0 0 []
entry_of p (change c) = was_styled 0 0 []
entry_of p (save i n) = was_styled 0 0 []

-- the call that was done
unfoldable pub call_of : Entry → Call
call_of (was_put a i s ls) = put a i s ls
call_of (was_struck a i k old) = strikes a i (length old)
call_of (was_accepted c ms) = accepts c
call_of (was_rejected c ms) = rejects c
call_of (was_styled i s old) = styles i (length old) s

-- how many cells it was about, and what it counts
unfoldable pub much_of : Entry → ℕ
much_of (was_put a i s ls) = length ls
much_of (was_struck a i k old) = length old
much_of (was_accepted c ms) = length ms
much_of (was_rejected c ms) = length ms
much_of (was_styled i s old) = length old

abbrev pub counts : Entry → ℕ
counts e = suc (much_of e)

-- a run of cells: in place of the k cells at i, the old ones
unfoldable pub run_back : ℕ → ℕ → List Cell → List Cell → List Cell
run_back i k old xs = take i xs ++ (old ++ drop (i + k) xs)

-- one marked cell: if it went it is put in at its old place again, if it stayed it is overwritten there
abbrev pub mark_back : Bool → Mark → List Cell → List Cell
mark_back went m xs = pick went (take m.place xs ++ (m.cell ∷ drop m.place xs)) (slice_set xs m.place m.cell)

-- marked cells, in order; `went` tells which of them went
unfoldable pub marks_back : (Cell → Bool) → List Mark → List Cell → List Cell
marks_back went [] xs = xs
marks_back went (m ∷ ms) xs = marks_back went ms (mark_back (went m.cell) m xs)

-- a cell goes if it was struck out by a change that is accepted, or put in by one that is rejected
abbrev pub goes_accepted : ℕ → Cell → Bool
goes_accepted c x = x.struck == suc c

abbrev pub goes_rejected : ℕ → Cell → Bool
goes_rejected c x = x.put_in == suc c

-- without the last one
abbrev pub but_last : List Change → List Change
but_last cs = take (length cs - 1) cs

-- The paper before the call, from the paper after it. The change that a put or a strike made goes, and one that was decided is open again.
unfoldable pub undo_of : Entry → Paper → Paper
undo_of (was_put a i s ls) p = record { cells = run_back i (length ls) [] p.cells; changes = but_last p.changes }
undo_of (was_struck a i k old) p = record { cells = run_back i k old p.cells; changes = but_last p.changes }
undo_of (was_accepted c ms) p = record { cells = marks_back (goes_accepted c) ms p.cells; changes = with_became p.changes c 0 }
undo_of (was_rejected c ms) p = record { cells = marks_back (goes_rejected c) ms p.cells; changes = with_became p.changes c 0 }
undo_of (was_styled i s old) p = record { cells = run_back i (length old) old p.cells; changes = p.changes }

-- the paper after the call, from the paper before it: the call is done again
abbrev pub redo_of : Entry → Paper → Paper
redo_of e p = rewritten p (call_of e)

-- a call that writes and finds what it is about: the cells are there, or the change is there and open
unfoldable pub Can : Paper → Call → Type 0
Can p (put a i s ls) = i ≤ length p.cells
Can p (strikes a i n) = i + n ≤ length p.cells
Can p (accepts c) = (c < length p.changes) × (became p c ≡ 0)
Can p (rejects c) = (c < length p.changes) × (became p c ≡ 0)
Can p (styles i n s) = i + n ≤ length p.cells
Can p undo = ⊥
Can p redo = ⊥
Can p (show k w r n) = ⊥
Can p (find k i ls) = ⊥
Can p (count k) = ⊥
Can p (change c) = ⊥
Can p (save i n) = ⊥

-- among n cells each mark has its place when its turn comes
unfoldable pub Placed : (Cell → Bool) → List Mark → ℕ → Type 0
Placed went [] n = Unit {0}
Placed went (m ∷ ms) n = (m.place + pick (went m.cell) 0 1 ≤ n) × Placed went ms (n + pick (went m.cell) 1 0)

-- what undo finds on the paper after the call: the cells that stand there now, a place for each mark, the change
unfoldable pub UndoCan : Entry → Paper → Type 0
UndoCan (was_put a i s ls) p = (i + length ls ≤ length p.cells) × (0 < length p.changes)
UndoCan (was_struck a i k old) p = (i + k ≤ length p.cells) × (0 < length p.changes)
UndoCan (was_accepted c ms) p = Placed (goes_accepted c) ms (length p.cells) × (c < length p.changes)
UndoCan (was_rejected c ms) p = Placed (goes_rejected c) ms (length p.cells) × (c < length p.changes)
UndoCan (was_styled i s old) p = i + length old ≤ length p.cells

-- undo brings back the paper before the call, redo the paper after it, and an entry counts what its call does
abbrev pub UndoBringsBack : Type 0
UndoBringsBack = (p : Paper) (c : Call) → Can p c → undo_of (entry_of p c) (rewritten p c) ≡ p

abbrev pub RedoDoesAgain : Type 0
RedoDoesAgain = (p : Paper) (c : Call) → Can p c → redo_of (entry_of p c) p ≡ rewritten p c

abbrev pub CountsAsMuch : Type 0
CountsAsMuch = (p : Paper) (c : Call) → Can p c → counts (entry_of p c) ≡ suc (how_much p c)

-- and undo finds what it needs
abbrev pub UndoFinds : Type 0
UndoFinds = (p : Paper) (c : Call) → Can p c → UndoCan (entry_of p c) (rewritten p c)
