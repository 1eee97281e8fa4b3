-- What undo and redo find in the log, and what they make of the paper in memory. Definitions only: nothing is assumed.
use Rattle.std.specs.Prelude.{◌≡◌, ℕ, ◌+◌, ◌-◌, ◌<◌, ◌≤◌, true, List, length, drop}
use Rattle.model.specs.Paper.{Change}
use Rattle.model.specs.Calls.{Call, put, strikes, accepts, rejects, styles, fits as fit_limits, turned, with_became}
use Rattle.history.specs.Entry.{Entry, call_of, but_last, undo_of, UndoCan}
use Rattle.history.specs.Words.{read_entry, entry_size, EntryAt}
use Rattle.history.specs.declared.entry.Head.{Head}
use Rattle.history.specs.declared.entry.Kind.{Kind}
use Rattle.history.specs.declared.entry.Kind.TheVariants.{Put, Strike, Accept, Reject, Style}
use Rattle.session.specs.Memory.{limits_of, paper_of}
use Rattle.session.specs.Acts.{desk_of}

-- the entry that stands in the words us at place a
abbrev pub entry_in : List ℕ → ℕ → Entry
entry_in us a = read_entry (drop a us)

-- an entry stands there, all of it in these words
pub record There (us : List ℕ) (a : ℕ) : Type 0 where
  pub stands : EntryAt us a (entry_in us a)
  pub inside : a + entry_size (entry_in us a) ≤ length us

-- the entry there can be undone on the paper in memory, and the paper before was within the limits
pub record CanUndo (cs ps us : List ℕ) (a : ℕ) : Type 0 where
  pub there : There us a
  pub can : UndoCan (entry_in us a) (paper_of cs ps)
  pub fits : fit_limits (limits_of ps) (undo_of (entry_in us a) (paper_of cs ps)) ≡ true

-- the call of the entry there can be done again
pub record CanRedo (cs ps us : List ℕ) (a : ℕ) : Type 0 where
  pub there : There us a
  pub allowed : turned (limits_of ps) (desk_of cs ps) (call_of (entry_in us a)) ≡ 0

-- the row of changes before a call of this kind, from the row after it: `who` is the change that was decided
abbrev pub row_back : Kind → ℕ → List Change → List Change
row_back Put who rows = but_last rows
row_back Strike who rows = but_last rows
row_back Accept who rows = with_became rows who 0
row_back Reject who rows = with_became rows who 0
row_back Style who rows = rows

-- what taking it back needs of a row of n changes
abbrev pub RowCan : Kind → ℕ → ℕ → Type 0
RowCan Put who n = 0 < n
RowCan Strike who n = 0 < n
RowCan Accept who n = who < n
RowCan Reject who n = who < n
RowCan Style who n = Unit {0}

-- the call of an entry, from its head and its letters
abbrev pub call_again : Kind → Head → List ℕ → Call
call_again Put h ls = put h.who h.place h.style ls
call_again Strike h ls = strikes h.who h.place (h.count - 1)
call_again Accept h ls = accepts h.who
call_again Reject h ls = rejects h.who
call_again Style h ls = styles h.place (h.count - 1) h.style
