-- What the functions under `call` promise: they know the paper's part of memory alone. Definitions only: nothing is assumed.
use Rattle.std.specs.Prelude.{◌≡◌, ℕ, ◌<◌, ◌≤◌, Bool, ◌&&◌, List, [], length, drop, nat_le, nat_lt, slice_index, slice_index_or}
use Rattle.model.specs.Paper.{Cell, Change, Paper}
use Rattle.model.specs.Calls.{Call, Answer, Desk, turned, after, answer}
use Rattle.sweep.specs.declared.Action.{Action}
use Rattle.sweep.specs.declared.Action.TheVariants.{Accept, Reject}
use Rattle.model.specs.declared.verdict.Verdict.{Verdict}
use Rattle.model.specs.declared.verdict.Verdict.TheVariants.{Accepted, Rejected}
use Rattle.changes.specs.Row.{changes_of}
use Rattle.history.specs.Entry.{Entry}
use Rattle.recorder.specs.Records.{Records}
use Rattle.session.specs.Memory.{cells_words, pieces_words, undo_words, limits_of, tables as tables_of, paper_of, Held}

-- memory now holds the paper p; the limits and the words beyond are as they were
pub record Wrote (cs ps cs' ps' : List ℕ) (p : Paper) : Type 0 where
  pub held : Held cs' ps'
  pub limits : limits_of ps' ≡ limits_of ps
  pub paper : paper_of cs' ps' ≡ p
  pub cells_beyond : drop (cells_words (limits_of ps).cells) cs' ≡ drop (cells_words (limits_of ps).cells) cs
  pub pieces_beyond : drop (pieces_words (limits_of ps).changes) ps' ≡ drop (pieces_words (limits_of ps).changes) ps
  pub cells_length : length cs' ≡ length cs
  pub pieces_length : length ps' ≡ length ps

-- a desk with the paper in memory
abbrev pub desk_of : List ℕ → List ℕ → Desk
desk_of cs ps = record { now = paper_of cs ps; past = []; future = [] }

-- a call was done or turned away, and the answer is a
pub record Acted (cs ps : List ℕ) (c : Call) (cs' ps' : List ℕ) (a : Answer) : Type 0 where
  pub wrote : Wrote cs ps cs' ps' (after (limits_of ps) (desk_of cs ps) c).now
  pub says : a ≡ answer (limits_of ps) (desk_of cs ps) c
  pub kept : 0 < turned (limits_of ps) (desk_of cs ps) c → (cs' ≡ cs) × (ps' ≡ ps)

-- From ps to qs the row of changes became `rows`; the tables and the limits are as they were.
pub record Rowed (ps qs : List ℕ) (rows : List Change) : Type 0 where
  pub limits : limits_of qs ≡ limits_of ps
  pub tables : tables_of qs ≡ tables_of ps
  pub changes : changes_of (drop 16 qs) (slice_index qs 3) ≡ rows
  pub fits : slice_index_or qs 3 0 ≤ slice_index qs 1
  pub words : length qs ≡ length ps

-- the row of changes in memory
abbrev pub row_of : List ℕ → List Change
row_of ps = changes_of (drop 16 ps) (slice_index ps 3)

-- the paper p with other cells
abbrev pub with_cells : Paper → List Cell → Paper
with_cells p xs = record { cells = xs; changes = p.changes }

-- the paper p with another row of changes
abbrev pub with_changes : Paper → List Change → Paper
with_changes p rows = record { cells = p.cells; changes = rows }

-- the limits allow one change more, and so many cells
abbrev pub allows : List ℕ → ℕ → Bool
allows ps cells = nat_le cells (slice_index ps 0) && nat_lt (slice_index ps 3) (slice_index ps 1)

-- the entry e became the latest in the log, which keeps entries up to a limit; the words beyond are as they were
pub record Recorded (us us' : List ℕ) (limit : ℕ) (e : Entry) : Type 0 where
  pub records : Records us us' limit e
  pub beyond : drop (undo_words limit) us' ≡ drop (undo_words limit) us
  pub undo_length : length us' ≡ length us

-- what a verdict does to the cells
abbrev pub verdict_action : Verdict → ℕ → Action
verdict_action Accepted c = Accept c
verdict_action Rejected c = Reject c
