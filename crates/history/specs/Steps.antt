-- The entries that can be undone and done again, and the desk that they stand for. Definitions and statements only: nothing is assumed.
use Rattle.std.specs.Prelude.{◌≡◌, ℕ, ◌+◌, ◌-◌, ◌<◌, ◌≤◌, true, List, [], ◌∷◌, ◌++◌, length, ◌==◌, nat_le}
use Rattle.model.specs.Paper.{pick, Paper}
use Rattle.model.specs.Calls.{Call, undo, redo, number, Before, Desk, Limits, call_number, writes, rewritten, remembered, fits, turned, after, told, ran, new_desk}
use Rattle.history.specs.Entry.{Entry, counts, much_of, call_of, entry_of, undo_of, redo_of}

-- the papers that undo brings back, and those that redo brings back, from the paper p and the entries on either side of it
unfoldable pub past_of : List Entry → Paper → List Before
past_of [] p = []
past_of (e ∷ es) p = record { paper = undo_of e p; much = much_of e } ∷ past_of es (undo_of e p)

unfoldable pub future_of : List Entry → Paper → List Before
future_of [] p = []
future_of (e ∷ es) p = record { paper = redo_of e p; much = much_of e } ∷ future_of es (redo_of e p)

-- A paper, what can be undone from it (the latest first) and what can be done again (the last undone first), as a desk.
abbrev pub desk_of : Paper → List Entry → List Entry → Desk
desk_of p back ahead = record { now = p; past = past_of back p; future = future_of ahead p }

-- what entries count together
unfoldable pub all_count : List Entry → ℕ
all_count [] = 0
all_count (e ∷ es) = counts e + all_count es

-- the latest entries, as long as they count at most u together; the oldest are forgotten
unfoldable pub kept : ℕ → List Entry → List Entry
kept u [] = []
kept u (e ∷ es) = pick (nat_le (counts e) u) (e ∷ kept (u - counts e) es) []

-- e is the entry of its call between these two papers: the call was not turned away there, and the paper before was within the limits
pub record Made (l : Limits) (e : Entry) (before next : Paper) : Type 0 where
  pub entry : entry_of before (call_of e) ≡ e
  pub paper : rewritten before (call_of e) ≡ next
  pub allowed : turned l (desk_of before [] []) (call_of e) ≡ 0
  pub fit : fits l before ≡ true

-- each entry is sane where it stands
unfoldable pub SaneBack : Limits → List Entry → Paper → Type 0
SaneBack l [] p = Unit {0}
SaneBack l (e ∷ es) p = Made l e (undo_of e p) p × SaneBack l es (undo_of e p)

unfoldable pub SaneAhead : Limits → List Entry → Paper → Type 0
SaneAhead l [] p = Unit {0}
SaneAhead l (e ∷ es) p = Made l e p (redo_of e p) × SaneAhead l es (redo_of e p)

pub record Sane (l : Limits) (p : Paper) (back ahead : List Entry) : Type 0 where
  pub fit : fits l p ≡ true
  pub behind : SaneBack l back p
  pub before : SaneAhead l ahead p
  pub within : all_count back + all_count ahead ≤ l.undos

-- a paper and its entries stand for a desk
pub record StandsFor (l : Limits) (p : Paper) (back ahead : List Entry) (d : Desk) : Type 0 where
  pub now : d.now ≡ p
  pub past : d.past ≡ past_of back p
  pub future : d.future ≡ future_of ahead p
  pub sane : Sane l p back ahead

-- What is kept is what the desk remembers, and counts no more than the limit. To keep is to forget the oldest until the rest is within the limit.
abbrev pub KeptRemembered : Type 0
KeptRemembered = (u : ℕ) (es : List Entry) (p : Paper) → past_of (kept u es) p ≡ remembered u (past_of es p)

abbrev pub KeptWithin : Type 0
KeptWithin = (u : ℕ) (es : List Entry) → all_count (kept u es) ≤ u

abbrev pub KeptAll : Type 0
KeptAll = (u : ℕ) (es : List Entry) → all_count es ≤ u → kept u es ≡ es

abbrev pub KeptForgets : Type 0
KeptForgets = (u : ℕ) (es : List Entry) (e : Entry) → u < all_count (es ++ (e ∷ [])) → kept u (es ++ (e ∷ [])) ≡ kept u es

-- the new desk has no entries
abbrev pub Opens : Type 0
Opens = (l : Limits) → StandsFor l (record { cells = []; changes = [] }) [] [] new_desk

-- a call that writes adds its entry, forgets the oldest beyond the limit, and all that could be done again
abbrev pub WriteSteps : Type 0
WriteSteps =
    (l : Limits) (p : Paper) (back ahead : List Entry) (d : Desk) (c : Call) → StandsFor l p back ahead d → writes c ≡ true → turned l d c ≡ 0 →
    StandsFor l (rewritten p c) (kept l.undos (entry_of p c ∷ back)) [] (after l d c)

-- Undo takes the latest entry back and keeps it to be done again; redo does it again. Neither is turned away but where there is no entry.
abbrev pub UndoSteps : Type 0
UndoSteps =
    (l : Limits) (p : Paper) (e : Entry) (back ahead : List Entry) (d : Desk) → StandsFor l p (e ∷ back) ahead d → l.calls_can 5 ≡ true →
    StandsFor l (undo_of e p) back (e ∷ ahead) (after l d undo)

abbrev pub RedoSteps : Type 0
RedoSteps =
    (l : Limits) (p : Paper) (e : Entry) (back ahead : List Entry) (d : Desk) → StandsFor l p back (e ∷ ahead) d → l.calls_can 6 ≡ true →
    StandsFor l (redo_of e p) (e ∷ back) ahead (after l d redo)

abbrev pub UndoTurned : Type 0
UndoTurned =
    (l : Limits) (p : Paper) (back ahead : List Entry) (d : Desk) → StandsFor l p back ahead d → l.calls_can 5 ≡ true →
    (turned l d undo ≡ pick (length back == 0) 7 0) × (told d undo ≡ number (length back))

abbrev pub RedoTurned : Type 0
RedoTurned =
    (l : Limits) (p : Paper) (back ahead : List Entry) (d : Desk) → StandsFor l p back ahead d → l.calls_can 6 ≡ true →
    (turned l d redo ≡ pick (length ahead == 0) 7 0) × (told d redo ≡ number (length ahead))

-- a call that is turned away, and one that only looks (show, find, count, change and save), keep all
abbrev pub TurnedKeeps : Type 0
TurnedKeeps =
    (l : Limits) (p : Paper) (back ahead : List Entry) (d : Desk) (c : Call) → StandsFor l p back ahead d → 0 < turned l d c →
    StandsFor l p back ahead (after l d c)

abbrev pub LookingKeeps : Type 0
LookingKeeps =
    (l : Limits) (p : Paper) (back ahead : List Entry) (d : Desk) (c : Call) → StandsFor l p back ahead d → 6 < call_number c →
    StandsFor l p back ahead (after l d c)

-- so whatever was called, a paper and its entries stand for the desk
abbrev pub AlwaysStands : Type 0
AlwaysStands =
    (l : Limits) (cs : List Call) →
    (p : Paper) × (back : List Entry) × (ahead : List Entry) × StandsFor l p back ahead (ran l new_desk cs)
