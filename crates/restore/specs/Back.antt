-- What taking an entry of the log back makes of the cells, and what it needs. Definitions only: nothing is assumed.
use Rattle.std.specs.Prelude.{ℕ, ◌+◌, ◌-◌, ◌*◌, ◌/◌, ◌≤◌, Bool, List, [], length, slice_index}
use Rattle.model.specs.Paper.{Cell, Change}
use Rattle.model.specs.declared.verdict.Verdict.{Verdict}
use Rattle.model.specs.declared.verdict.Verdict.TheVariants.{Accepted, Rejected}
use Rattle.kept.specs.Text.{Rewrites, cells_of_mut}
use Rattle.kept.specs.declared.text.TextMut.{TextMut}
use Rattle.history.specs.Entry.{Mark, Entry, goes_accepted, goes_rejected, run_back, marks_back, Placed, UndoCan, undo_of}
use Rattle.history.specs.Words.{cells_read, marks_read, entry_size, EntryAt}
use Rattle.history.specs.declared.entry.Head.{Head}
use Rattle.history.specs.declared.entry.Kind.{Kind}
use Rattle.history.specs.declared.entry.Kind.TheVariants.{Put, Strike, Accept, Reject, Style}

-- whether a cell went when change number c was decided
abbrev pub goes : Verdict → ℕ → Cell → Bool
goes Accepted c = goes_accepted c
goes Rejected c = goes_rejected c

-- the mark in the first five words
abbrev pub first_mark : List ℕ → Mark
first_mark ws = record { place = slice_index ws 0; cell = record { letter = slice_index ws 1; style = slice_index ws 2; put_in = slice_index ws 3; struck = slice_index ws 4 } }

-- the marks whose words there are
abbrev pub marks_in : List ℕ → List Mark
marks_in ws = marks_read (length ws / 5) ws

-- each of these marks has its place in the text xs when its turn comes, and the text with those that went fits s slots
pub record CanMark (went : Cell → Bool) (ms : List Mark) (xs : List Cell) (s : ℕ) : Type 0 where
  pub placed : Placed went ms (length xs)
  pub fits : length (marks_back went ms xs) ≤ 768 * (s - 1)

-- n such marks stand in the words ws
pub record CanMarks (went : Cell → Bool) (n : ℕ) (ws : List ℕ) (xs : List Cell) (s : ℕ) : Type 0 where
  pub source : 5 * n ≤ length ws
  pub can : CanMark went (marks_read n ws) xs s

-- n cells stand in the words ws, and can come in place of those that stand in the text xs from a place on
pub record CanRun (place standing n : ℕ) (ws : List ℕ) (xs : List Cell) (s : ℕ) : Type 0 where
  pub within : place + standing ≤ length xs
  pub source : 4 * n ≤ length ws
  pub fits : length xs + n ≤ 768 * (s - 1) + standing

-- what an entry with this head, whose letters, cells or marks are the words ws, makes of the text xs, and what it needs
abbrev pub taken_back : Kind → Head → List ℕ → List Cell → List Cell
taken_back Put h ws xs = run_back h.place h.standing [] xs
taken_back Strike h ws xs = run_back h.place h.standing (cells_read (h.count - 1) ws) xs
taken_back Accept h ws xs = marks_back (goes Accepted h.who) (marks_read (h.count - 1) ws) xs
taken_back Reject h ws xs = marks_back (goes Rejected h.who) (marks_read (h.count - 1) ws) xs
taken_back Style h ws xs = run_back h.place h.standing (cells_read (h.count - 1) ws) xs

abbrev pub CanTakeBack : Kind → Head → List ℕ → List Cell → ℕ → Type 0
CanTakeBack Put h ws xs s = h.place + h.standing ≤ length xs
CanTakeBack Strike h ws xs s = CanRun h.place h.standing (h.count - 1) ws xs s
CanTakeBack Accept h ws xs s = CanMarks (goes Accepted h.who) (h.count - 1) ws xs s
CanTakeBack Reject h ws xs s = CanMarks (goes Rejected h.who) (h.count - 1) ws xs s
CanTakeBack Style h ws xs s = CanRun h.place h.standing (h.count - 1) ws xs s

-- In the words u at place a stands an entry that can be undone on the text xs, for some row of changes, and the text then fits s slots.
pub record Undoable (u : List ℕ) (a : ℕ) (xs : List Cell) (s : ℕ) : Type 0 where
  pub entry : Entry
  pub changes : List Change
  pub stands : EntryAt u a entry
  pub inside : a + entry_size entry ≤ length u
  pub can : UndoCan entry (record { cells = xs; changes = changes })
  pub fits : length (undo_of entry (record { cells = xs; changes = changes })).cells ≤ 768 * (s - 1)

-- The entry that stands in the words u at place a is undone on the text, and the same memory holds it. What it makes of the changes is not kept here.
abbrev pub Undone : List ℕ → ℕ → TextMut → TextMut → Type 0
Undone u a old new =
    (e : Entry) (cs : List Change) → EntryAt u a e → Rewrites old new (undo_of e (record { cells = cells_of_mut old; changes = cs })).cells
