-- The twelve calls of a desk: when each is turned away, what it does to the paper and to what can be undone, and what it answers.
-- Definitions only: nothing is assumed.
use Rattle.std.specs.Prelude.{ℕ, suc, ◌+◌, ◌-◌, Bool, true, false, ◌&&◌, ◌||◌, List, [], ◌∷◌, ◌++◌, length, take, drop, ◌==◌, nat_le, nat_lt, slice_index_or, slice_set}
use Rattle.model.specs.Paper.{pick, Cell, Change, Paper, new_cells, strike, accept, reject, styled, view, touched, written}
use Rattle.model.specs.Rows.{rows, find_in}

-- Numbers in a call's fields are of any size here; `good_fields` has their ranges.
pub data Call : Type 0 where
  put : ℕ → ℕ → ℕ → List ℕ → Call  -- author, before which cell, style, letters: a change
  strikes : ℕ → ℕ → ℕ → Call  -- author, from which cell, how many: a change
  accepts : ℕ → Call
  rejects : ℕ → Call
  styles : ℕ → ℕ → ℕ → Call  -- from which cell, how many, style
  undo : Call
  redo : Call
  show : ℕ → ℕ → ℕ → ℕ → Call  -- way to look, how wide, from which row, how many
  find : ℕ → ℕ → List ℕ → Call  -- way to look, from which letter, letters
  count : ℕ → Call  -- way to look
  change : ℕ → Call
  save : ℕ → ℕ → Call  -- of the file: from which number, how many

-- a refusal and its place; a number; two numbers; rows of cells; a row of numbers
pub data Answer : Type 0 where
  refused : ℕ → ℕ → Answer
  number : ℕ → Answer
  two : ℕ → ℕ → Answer
  lines : List (List Cell) → Answer
  numbers : List ℕ → Answer

-- a paper as it was, and how many cells the call that left it was about
pub record Before : Type 0 where
  pub paper : Paper
  pub much : ℕ

-- the paper, the papers that undo brings back (the latest first), and those that redo brings back (the last undone first)
pub record Desk : Type 0 where
  pub now : Paper
  pub past : List Before
  pub future : List Before

-- which calls can be done, by number; how many cells and changes a paper may have; how much can be undone
pub record Limits : Type 0 where
  pub calls_can : ℕ → Bool
  pub cells : ℕ
  pub changes : ℕ
  pub undos : ℕ

unfoldable pub call_number : Call → ℕ
call_number (put a i s ls) = 0
call_number (strikes a i n) = 1
call_number (accepts c) = 2
call_number (rejects c) = 3
call_number (styles i n s) = 4
call_number undo = 5
call_number redo = 6
call_number (show k w r n) = 7
call_number (find k i ls) = 8
call_number (count k) = 9
call_number (change c) = 10
call_number (save i n) = 11

-- a letter is printable ASCII or the end of a paragraph
unfoldable pub good_letters : List ℕ → Bool
good_letters [] = true
good_letters (l ∷ ls) = (l == 10 || (nat_le 32 l && nat_le l 126)) && good_letters ls

-- what refusal 2 is about: an author, a style, a way to look, a width, letters, and how many of anything
unfoldable pub good_fields : Call → Bool
good_fields (put a i s ls) = (nat_lt a 256 && nat_lt s 256) && (good_letters ls && (nat_le 1 (length ls) && nat_le (length ls) 1024))
good_fields (strikes a i n) = nat_lt a 256 && nat_le 1 n
good_fields (accepts c) = true
good_fields (rejects c) = true
good_fields (styles i n s) = nat_lt s 256 && nat_le 1 n
good_fields undo = true
good_fields redo = true
good_fields (show k w r n) = nat_lt k 3 && ((nat_le 1 w && nat_le w 256) && (nat_le 1 n && nat_le n 64))
good_fields (find k i ls) = nat_lt k 3 && (good_letters ls && (nat_le 1 (length ls) && nat_le (length ls) 256))
good_fields (count k) = nat_lt k 3
good_fields (change c) = true
good_fields (save i n) = nat_le 1 n && nat_le n 1024

abbrev pub good_call : Limits → Call → Bool
good_call l c = l.calls_can (call_number c) && good_fields c

-- what became of change number c, or 3 where there is none
abbrev pub became : Paper → ℕ → ℕ
became p c = (slice_index_or p.changes c (record { author = 0; became = 3 })).became

-- Why a call in range is turned away, 0 if it is not: 4 cells that are not there, 5 a change that is not there, 6 a change that is not open,
-- 7 nothing to undo or redo, 8 rows or numbers that are not there.
unfoldable pub turned_by : Desk → Call → ℕ
turned_by d (put a i s ls) = pick (nat_le i (length d.now.cells)) 0 4
turned_by d (strikes a i n) = pick (nat_le (i + n) (length d.now.cells)) 0 4
turned_by d (accepts c) = pick (nat_lt c (length d.now.changes)) (pick (became d.now c == 0) 0 6) 5
turned_by d (rejects c) = pick (nat_lt c (length d.now.changes)) (pick (became d.now c == 0) 0 6) 5
turned_by d (styles i n s) = pick (nat_le (i + n) (length d.now.cells)) 0 4
turned_by d undo = pick (length d.past == 0) 7 0
turned_by d redo = pick (length d.future == 0) 7 0
turned_by d (show k w r n) = pick (nat_le (r + n) (length (rows w (view k d.now.cells)))) 0 8
turned_by d (find k i ls) = 0
turned_by d (count k) = 0
turned_by d (change c) = pick (nat_lt c (length d.now.changes)) 0 5
turned_by d (save i n) = pick (nat_le (i + n) (length (written d.now))) 0 8

abbrev pub with_became : List Change → ℕ → ℕ → List Change
with_became cs c b = slice_set cs c (record { author = (slice_index_or cs c (record { author = 0; became = 0 })).author; became = b })

-- The paper after a call that writes; any other call leaves it as it is.
unfoldable pub rewritten : Paper → Call → Paper
rewritten p (put a i s ls) =
    record { cells = take i p.cells ++ (new_cells ls s (length p.changes) ++ drop i p.cells); changes = p.changes ++ (record { author = a; became = 0 } ∷ []) }
rewritten p (strikes a i n) =
    record { cells = take i p.cells ++ strike (drop i p.cells) n p.changes a (length p.changes); changes = p.changes ++ (record { author = a; became = 0 } ∷ []) }
rewritten p (accepts c) = record { cells = accept p.cells c; changes = with_became p.changes c 1 }
rewritten p (rejects c) = record { cells = reject p.cells c; changes = with_became p.changes c 2 }
rewritten p (styles i n s) = record { cells = take i p.cells ++ styled (drop i p.cells) n s; changes = p.changes }
rewritten p undo = p
rewritten p redo = p
rewritten p (show k w r n) = p
rewritten p (find k i ls) = p
rewritten p (count k) = p
rewritten p (change c) = p
rewritten p (save i n) = p

-- how many cells a call that writes is about: those it puts in, strikes at or styles, or those that had the mark
unfoldable pub how_much : Paper → Call → ℕ
how_much p (put a i s ls) = length ls
how_much p (strikes a i n) = n
how_much p (accepts c) = touched p.cells c
how_much p (rejects c) = touched p.cells c
how_much p (styles i n s) = n
how_much p undo = 0
how_much p redo = 0
how_much p (show k w r n) = 0
how_much p (find k i ls) = 0
how_much p (count k) = 0
how_much p (change c) = 0
how_much p (save i n) = 0

-- the five calls that write, each of which can be undone
unfoldable pub writes : Call → Bool
writes (put a i s ls) = true
writes (strikes a i n) = true
writes (accepts c) = true
writes (rejects c) = true
writes (styles i n s) = true
writes undo = false
writes redo = false
writes (show k w r n) = false
writes (find k i ls) = false
writes (count k) = false
writes (change c) = false
writes (save i n) = false

-- What can still be undone: the latest ones, as long as they count at most u together; each counts one and the cells it was about.
unfoldable pub remembered : ℕ → List Before → List Before
remembered u [] = []
remembered u (b ∷ bs) = pick (nat_le (suc b.much) u) (b ∷ remembered (u - suc b.much) bs) []

-- one step back, and one step forward again
unfoldable pub undone : Desk → List Before → Desk
undone d [] = d
undone d (b ∷ bs) = record { now = b.paper; past = bs; future = record { paper = d.now; much = b.much } ∷ d.future }

unfoldable pub redone : Desk → List Before → Desk
redone d [] = d
redone d (b ∷ bs) = record { now = b.paper; past = record { paper = d.now; much = b.much } ∷ d.past; future = bs }

-- what a call that does not write does to the desk
unfoldable pub moved : Limits → Desk → Call → Desk
moved l d undo = undone d d.past
moved l d redo = redone d d.future
moved l d (put a i s ls) = d
moved l d (strikes a i n) = d
moved l d (accepts c) = d
moved l d (rejects c) = d
moved l d (styles i n s) = d
moved l d (show k w r n) = d
moved l d (find k i ls) = d
moved l d (count k) = d
moved l d (change c) = d
moved l d (save i n) = d

-- the desk after a call that is not turned away; a call that writes forgets what could be done again
abbrev pub changed : Limits → Desk → Call → Desk
changed l d c =
    pick (writes c)
    (record { now = rewritten d.now c; past = remembered l.undos (record { paper = d.now; much = how_much d.now c } ∷ d.past); future = [] })
    (moved l d c)

abbrev pub fits : Limits → Paper → Bool
fits l p = nat_le (length p.cells) l.cells && nat_le (length p.changes) l.changes

-- The number of the refusal, 0 for none. The checks run in the order of the numbers, and the limits (9) come last.
abbrev pub turned : Limits → Desk → Call → ℕ
turned l d c = pick (good_call l c) (pick (turned_by d c == 0) (pick (fits l (rewritten d.now c)) 0 9) (turned_by d c)) 2

-- the desk after a call: as before, if the call is turned away
abbrev pub after : Limits → Desk → Call → Desk
after l d c = pick (turned l d c == 0) (changed l d c) d

-- what a call that is not turned away answers
unfoldable pub told : Desk → Call → Answer
told d (put a i s ls) = number (length d.now.changes)
told d (strikes a i n) = number (length d.now.changes)
told d (accepts c) = number (touched d.now.cells c)
told d (rejects c) = number (touched d.now.cells c)
told d (styles i n s) = number n
told d undo = number (length d.past)
told d redo = number (length d.future)
told d (show k w r n) = lines (take n (drop r (rows w (view k d.now.cells))))
told d (find k i ls) = number (find_in (view k d.now.cells) ls i 0)
told d (count k) = number (length (view k d.now.cells))
told d (change c) = two (slice_index_or d.now.changes c (record { author = 0; became = 0 })).author (became d.now c)
told d (save i n) = numbers (take n (drop i (written d.now)))

-- where a refusal points: 1 for cells where an author comes first, 2 for rows, else 0
unfoldable pub place : Call → ℕ → ℕ
place (put a i s ls) n = pick (n == 4) 1 0
place (strikes a i k) n = pick (n == 4) 1 0
place (show k w r m) n = pick (n == 8) 2 0
place (accepts c) n = 0
place (rejects c) n = 0
place (styles i k s) n = 0
place undo n = 0
place redo n = 0
place (find k i ls) n = 0
place (count k) n = 0
place (change c) n = 0
place (save i k) n = 0

abbrev pub answer : Limits → Desk → Call → Answer
answer l d c = pick (turned l d c == 0) (told d c) (refused (turned l d c) (place c (turned l d c)))

-- a list of calls, one after the other: the answers, and the desk that is left
unfoldable pub answers : Limits → Desk → List Call → List Answer
answers l d [] = []
answers l d (c ∷ cs) = answer l d c ∷ answers l (after l d c) cs

unfoldable pub ran : Limits → Desk → List Call → Desk
ran l d [] = d
ran l d (c ∷ cs) = ran l (after l d c) cs

abbrev pub new_desk : Desk
new_desk = record { now = record { cells = []; changes = [] }; past = []; future = [] }
