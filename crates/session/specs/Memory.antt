-- What lent memory is: three slices of words, of which each is at least as long as the limits ask for.
-- cells: the slots of the store. pieces: 0 to 2 the limits, 3 how many changes there are, 4 to 15 not used (opening makes them 0, and no call tells of
-- them); from 16 on the changes, two words each, for as many as the limit allows; after them the tables of the store, and what is kept of each piece. undo: the log of what can be undone.
-- Definitions only: nothing is assumed.
use Rattle.std.specs.Prelude.{ℕ, ◌+◌, ◌-◌, ◌*◌, ◌/◌, ◌≤◌, Bool, List, ◌∷◌, ◌++◌, length, drop, replicate, slice_index, slice_index_or}
use Rattle.std.specs.List.{range_with_len}
use Rattle.model.specs.Paper.{Paper}
use Rattle.model.specs.Calls.{Desk, Limits}
use Rattle.model.specs.Promise.{whole}
use Rattle.changes.specs.Row.{changes_of}
use Rattle.history.specs.Entry.{Entry}
use Rattle.history.specs.Steps.{Sane, StandsFor}
use Rattle.history.specs.Log.{Log}
use Rattle.kept.specs.Kept.{Kept}
use Rattle.pieces.specs.Store.{cells_of}

-- which calls can be done, by number: all twelve
abbrev pub stage : ℕ → Bool
stage = whole

-- how many slots of 1,024 cells there are for so many cells
abbrev pub slots_for : ℕ → ℕ
slots_for n = n / 576 + 4

-- how many words each slice has to have
abbrev pub cells_words : ℕ → ℕ
cells_words n = 4096 * slots_for n

abbrev pub pieces_words : ℕ → ℕ
pieces_words c = 34832 + 2 * c

abbrev pub undo_words : ℕ → ℕ
undo_words u = 16 + 16 * u

-- the limits that memory was opened with
abbrev pub limits_of : List ℕ → Limits
limits_of ps = record { calls_can = stage; cells = slice_index ps 0; changes = slice_index ps 1; undos = slice_index ps 2 }

-- how many slots the store has
abbrev pub slots_of : List ℕ → ℕ
slots_of ps = slots_for (slice_index ps 0)

-- the store's tables
abbrev pub tables : List ℕ → List ℕ
tables ps = drop (16 + 2 * slice_index ps 1) ps

-- the paper that memory stands for
abbrev pub paper_of : List ℕ → List ℕ → Paper
paper_of cs ps = record { cells = cells_of cs (tables ps) (slots_of ps); changes = changes_of (drop 16 ps) (slice_index ps 3) }

-- what always holds of the paper's part of memory once it was opened
pub record Held (cs ps : List ℕ) : Type 0 where
  pub few_cells : slice_index_or ps 0 0 ≤ 1000000
  pub few_changes : slice_index_or ps 1 0 ≤ 65536
  pub few_undos : slice_index_or ps 2 0 ≤ 1000000
  pub cells_long : cells_words (slice_index ps 0) ≤ length cs
  pub pieces_long : pieces_words (slice_index ps 1) ≤ length ps
  pub kept : Kept cs (tables ps) (slots_of ps)
  pub cells_fit : length (paper_of cs ps).cells ≤ slice_index ps 0
  pub changes_fit : slice_index_or ps 3 0 ≤ slice_index ps 1

-- What always holds of memory. The log has an entry for each call that can be undone (`back`, the latest first) or done again (`ahead`, the last undone
-- first), and each entry is that of its call where it stands.
pub record Sound (cs ps us : List ℕ) : Type 0 where
  pub held : Held cs ps
  pub undo_long : undo_words (slice_index ps 2) ≤ length us
  pub back : List Entry
  pub ahead : List Entry
  pub log : Log us (slice_index ps 2) back ahead
  pub sane : Sane (limits_of ps) (paper_of cs ps) back ahead

-- Memory stands for a desk: the paper is the desk's, and what its entries bring back is what the desk can undo and redo.
pub record Stands (cs ps us : List ℕ) (d : Desk) : Type 0 where
  pub sound : Sound cs ps us
  pub desk : StandsFor (limits_of ps) (paper_of cs ps) sound.back sound.ahead d

-- What opening leaves: in the cells 0 throughout; in the pieces the limits, no change, and the tables of an empty store; in the log 0 throughout.
abbrev pub opened_cells : ℕ → List ℕ
opened_cells n = replicate (cells_words n) 0

abbrev pub opened_pieces : ℕ → ℕ → ℕ → List ℕ
opened_pieces n c u = (n ∷ (c ∷ (u ∷ replicate (13 + 2 * c) 0))) ++ (range_with_len 0 (slots_for n) ++ replicate (34816 - slots_for n) 0)

abbrev pub opened_undo : ℕ → List ℕ
opened_undo u = replicate (undo_words u) 0
