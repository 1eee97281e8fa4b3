-- Entries in words, and a log of them. Definitions and statements only: nothing is assumed.
use Rattle.std.specs.Prelude.{◌≡◌, ℕ, zero, suc, ◌+◌, ◌-◌, ◌*◌, ◌≤◌, List, [], ◌∷◌, ◌++◌, length, take, drop, ◌==◌, slice_index, slice_index_or}
use Rattle.std.specs.List.{between}
use Rattle.model.specs.Paper.{pick, Cell, cells_written}
use Rattle.history.specs.Entry.{Mark, Entry, was_put, was_struck, was_accepted, was_rejected, was_styled, counts}
use Rattle.history.specs.Steps.{all_count}

-- five words for a mark: the place, and the cell's four
unfoldable pub marks_written : List Mark → List ℕ
marks_written [] = []
marks_written (m ∷ ms) = m.place ∷ (m.cell.letter ∷ (m.cell.style ∷ (m.cell.put_in ∷ (m.cell.struck ∷ marks_written ms))))

-- the kind of entry; author or change; place; how many cells stand there now; style; what an entry does not have is 0
unfoldable pub head_words : Entry → List ℕ
head_words (was_put a i s ls) = 0 ∷ (a ∷ (i ∷ (length ls ∷ (s ∷ []))))
head_words (was_struck a i k old) = 1 ∷ (a ∷ (i ∷ (k ∷ (0 ∷ []))))
head_words (was_accepted c ms) = 2 ∷ (c ∷ (0 ∷ (0 ∷ (0 ∷ []))))
head_words (was_rejected c ms) = 3 ∷ (c ∷ (0 ∷ (0 ∷ (0 ∷ []))))
head_words (was_styled i s old) = 4 ∷ (0 ∷ (i ∷ (length old ∷ (s ∷ []))))

-- letters, old cells or marks
unfoldable pub payload_words : Entry → List ℕ
payload_words (was_put a i s ls) = ls
payload_words (was_struck a i k old) = cells_written old
payload_words (was_accepted c ms) = marks_written ms
payload_words (was_rejected c ms) = marks_written ms
payload_words (was_styled i s old) = cells_written old

abbrev pub entry_size : Entry → ℕ
entry_size e = 8 + length (payload_words e)

-- the words of an entry: its size, what it counts, head, payload, and its size again
unfoldable pub entry_words : Entry → List ℕ
entry_words e = entry_size e ∷ (counts e ∷ (head_words e ++ (payload_words e ++ (entry_size e ∷ []))))

-- n cells, and n marks, at the beginning of these words
unfoldable pub cells_read : ℕ → List ℕ → List Cell
cells_read zero ws = []
cells_read (suc n) ws = record { letter = slice_index ws 0; style = slice_index ws 1; put_in = slice_index ws 2; struck = slice_index ws 3 } ∷ cells_read n (drop 4 ws)

unfoldable pub marks_read : ℕ → List ℕ → List Mark
marks_read zero ws = []
marks_read (suc n) ws =
    record { place = slice_index ws 0; cell = record { letter = slice_index ws 1; style = slice_index ws 2; put_in = slice_index ws 3; struck = slice_index ws 4 } } ∷ marks_read n (drop 5 ws)

-- the entry at the beginning of these words
unfoldable pub read_entry : List ℕ → Entry
read_entry ws =
    pick (slice_index ws 2 == 0) (was_put (slice_index ws 3) (slice_index ws 4) (slice_index ws 6) (take (slice_index ws 1 - 1) (drop 7 ws)))
    (pick (slice_index ws 2 == 1) (was_struck (slice_index ws 3) (slice_index ws 4) (slice_index ws 5) (cells_read (slice_index ws 1 - 1) (drop 7 ws)))
    (pick (slice_index ws 2 == 2) (was_accepted (slice_index ws 3) (marks_read (slice_index ws 1 - 1) (drop 7 ws)))
    (pick (slice_index ws 2 == 3) (was_rejected (slice_index ws 3) (marks_read (slice_index ws 1 - 1) (drop 7 ws)))
    (was_styled (slice_index ws 4) (slice_index ws 6) (cells_read (slice_index ws 1 - 1) (drop 7 ws))))))

-- The words of entries, the oldest first: of those that can be undone, of which the latest comes first in the list,
-- and of those that can be done again, of which the oldest comes first.
unfoldable pub back_words : List Entry → List ℕ
back_words [] = []
back_words (e ∷ es) = back_words es ++ entry_words e

unfoldable pub ahead_words : List Entry → List ℕ
ahead_words [] = []
ahead_words (e ∷ es) = entry_words e ++ ahead_words es

-- A log in the words ws: from start to cursor what can be undone, from cursor to end what can be done again.
pub record Logged (ws : List ℕ) (start cursor end : ℕ) (back ahead : List Entry) : Type 0 where
  pub behind : between start cursor ws ≡ back_words back
  pub before : between cursor end ws ≡ ahead_words ahead
  pub begun : start ≤ cursor
  pub ended : cursor ≤ end
  pub inside : end ≤ length ws

-- an entry that stands in the words ws from place a on
pub record EntryAt (ws : List ℕ) (a : ℕ) (e : Entry) : Type 0 where
  pub words : between a (a + entry_size e) ws ≡ entry_words e
  pub size_word : slice_index_or ws a 0 ≡ entry_size e
  pub count_word : slice_index_or ws (a + 1) 0 ≡ counts e
  pub last_word : slice_index_or ws (a + entry_size e - 1) 0 ≡ entry_size e
  pub reads : read_entry (drop a ws) ≡ e

-- An entry is read back from its words, whatever comes after them; so two entries with the same words are one.
-- Its words are size many, and at most 8 for each that it counts.
abbrev pub ReadsBack : Type 0
ReadsBack = (e : Entry) (rest : List ℕ) → read_entry (entry_words e ++ rest) ≡ e

abbrev pub OneEntry : Type 0
OneEntry = (e f : Entry) → entry_words e ≡ entry_words f → e ≡ f

abbrev pub EntryLong : Type 0
EntryLong = (e : Entry) → (length (entry_words e) ≡ entry_size e) × (entry_size e ≤ 8 * counts e)

-- a log takes at most 8 words for each that its entries count, and has entries behind the cursor just if it has words there; likewise ahead
abbrev pub LogLong : Type 0
LogLong =
    (ws : List ℕ) (s c t : ℕ) (back ahead : List Entry) → Logged ws s c t back ahead →
    (c ≤ s + 8 * all_count back) × (t ≤ c + 8 * all_count ahead) × (8 * length back ≤ c - s) × (8 * length ahead ≤ t - c)

-- the words of a log are of one list of entries on either side
abbrev pub OneLog : Type 0
OneLog =
    (ws : List ℕ) (s c t : ℕ) (back ahead back' ahead' : List Entry) → Logged ws s c t back ahead → Logged ws s c t back' ahead' →
    (back ≡ back') × (ahead ≡ ahead')

-- A step back: the last word behind the cursor tells the size of the latest entry, which then stands at the cursor.
-- A step ahead: the word at the cursor tells the size of the entry there.
abbrev pub LogBack : Type 0
LogBack =
    (ws : List ℕ) (s c t : ℕ) (e : Entry) (back ahead : List Entry) → Logged ws s c t (e ∷ back) ahead →
    (slice_index ws (c - 1) ≡ entry_size e) × (s + entry_size e ≤ c) × EntryAt ws (c - entry_size e) e × Logged ws s (c - entry_size e) t back (e ∷ ahead)

abbrev pub LogAhead : Type 0
LogAhead =
    (ws : List ℕ) (s c t : ℕ) (e : Entry) (back ahead : List Entry) → Logged ws s c t back (e ∷ ahead) →
    (c + entry_size e ≤ t) × EntryAt ws c e × Logged ws s (c + entry_size e) t (e ∷ back) ahead

-- the oldest is forgotten, which stands at the start
abbrev pub LogForgets : Type 0
LogForgets =
    (ws : List ℕ) (s c t : ℕ) (e : Entry) (back ahead : List Entry) → Logged ws s c t (back ++ (e ∷ [])) ahead →
    (s + entry_size e ≤ c) × EntryAt ws s e × Logged ws (s + entry_size e) c t back ahead

-- what could be done again is dropped, and an entry is pushed: only the words from the cursor on may change
abbrev pub LogDrops : Type 0
LogDrops = (ws : List ℕ) (s c t : ℕ) (back ahead : List Entry) → Logged ws s c t back ahead → Logged ws s c c back []

abbrev pub LogPushes : Type 0
LogPushes =
    (ws new : List ℕ) (s c : ℕ) (e : Entry) (back : List Entry) → Logged ws s c c back [] → take c new ≡ take c ws →
    between c (c + entry_size e) new ≡ entry_words e → c + entry_size e ≤ length new → Logged new s (c + entry_size e) (c + entry_size e) (e ∷ back) []

-- the log is moved to the front
abbrev pub LogMoves : Type 0
LogMoves =
    (ws new : List ℕ) (s c t : ℕ) (back ahead : List Entry) → Logged ws s c t back ahead → between 0 (t - s) new ≡ between s t ws → t - s ≤ length new →
    Logged new 0 (c - s) (t - s) back ahead
