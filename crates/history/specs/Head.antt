-- The head of an entry in words, and where its letters, cells and marks stand. Definitions and statements only: nothing is assumed.
use Rattle.std.specs.Prelude.{◌≡◌, ℕ, ◌+◌, ◌-◌, ◌*◌, ◌<◌, ◌≤◌, List, [], ◌∷◌, ◌++◌, length, get_or, take, drop, ◌==◌, slice_index, slice_index_or, slice_set}
use Rattle.std.specs.List.{between}
use Rattle.model.specs.Paper.{pick, Cell, cells_written}
use Rattle.model.specs.declared.verdict.Verdict.{Verdict}
use Rattle.model.specs.declared.verdict.Verdict.TheVariants as verdict
use Rattle.history.specs.Entry.{Mark, Entry, was_put, was_struck, was_accepted, was_rejected, was_styled, counts}
use Rattle.history.specs.Words.{marks_written, payload_words, entry_size, entry_words, EntryAt}
use Rattle.history.specs.declared.entry.Kind.{Kind}
use Rattle.history.specs.declared.entry.Kind.TheVariants.{Put, Strike, Accept, Reject, Style}
use Rattle.history.specs.declared.entry.Head.{Head}

-- a kind as a word
abbrev pub kind_number : Kind → ℕ
kind_number Put = 0
kind_number Strike = 1
kind_number Accept = 2
kind_number Reject = 3
kind_number Style = 4

abbrev pub kind_at : ℕ → Kind
kind_at n = pick (n == 0) Put (pick (n == 1) Strike (pick (n == 2) Accept (pick (n == 3) Reject Style)))

-- the kind of a decision
abbrev pub verdict_kind : Verdict → Kind
verdict_kind verdict.Accepted = Accept
verdict_kind verdict.Rejected = Reject

-- the head of an entry
unfoldable pub head_of : Entry → Head
head_of (was_put a i s ls) =
    record { size = entry_size (was_put a i s ls); count = counts (was_put a i s ls); kind = Put; who = a; place = i; standing = length ls; style = s }
head_of (was_struck a i k old) =
    record { size = entry_size (was_struck a i k old); count = counts (was_struck a i k old); kind = Strike; who = a; place = i; standing = k; style = 0 }
head_of (was_accepted c ms) = record { size = entry_size (was_accepted c ms); count = counts (was_accepted c ms); kind = Accept; who = c; place = 0; standing = 0; style = 0 }
head_of (was_rejected c ms) = record { size = entry_size (was_rejected c ms); count = counts (was_rejected c ms); kind = Reject; who = c; place = 0; standing = 0; style = 0 }
head_of (was_styled i s old) =
    record { size = entry_size (was_styled i s old); count = counts (was_styled i s old); kind = Style; who = 0; place = i; standing = length old; style = s }

-- the seven words of a head, and the head in the words from place a on
abbrev pub head_list : Head → List ℕ
head_list h = h.size ∷ (h.count ∷ (kind_number h.kind ∷ (h.who ∷ (h.place ∷ (h.standing ∷ (h.style ∷ []))))))

abbrev pub head_at : List ℕ → ℕ → Head
head_at ws a =
    record {
      size = slice_index ws a;
      count = slice_index ws (a + 1);
      kind = kind_at (slice_index ws (a + 2));
      who = slice_index ws (a + 3);
      place = slice_index ws (a + 4);
      standing = slice_index ws (a + 5);
      style = slice_index ws (a + 6);
    }

-- The head that is read where an entry stands is the entry's.
abbrev pub HeadReads : List ℕ → ℕ → Head → Type 0
HeadReads ws a h = (e : Entry) → EntryAt ws a e → h ≡ head_of e

-- An entry is written: its head; letters, cells or marks from the seventh word on; and its size at the end. Nothing before it changes.
pub record Written (u w new : List ℕ) (a : ℕ) (e : Entry) : Type 0 where
  pub words : between a (a + entry_size e) new ≡ entry_words e
  pub before : take a new ≡ take a u
  pub after : drop (a + entry_size e) new ≡ drop (a + entry_size e) w
  pub long : length new ≡ length u

abbrev pub EntryWritten : Type 0
EntryWritten =
    (u v w new : List ℕ) (a : ℕ) (e : Entry) → a + entry_size e ≤ length u → v ≡ take a u ++ (head_list (head_of e) ++ drop (a + 7) u) →
    take (a + 7) w ≡ take (a + 7) v → between (a + 7) (a + 7 + length (payload_words e)) w ≡ payload_words e → length w ≡ length u →
    new ≡ slice_set w (a + entry_size e - 1) (entry_size e) → Written u w new a e

-- an entry whose words stand there stands there
abbrev pub EntryStands : Type 0
EntryStands = (ws : List ℕ) (a : ℕ) (e : Entry) → between a (a + entry_size e) ws ≡ entry_words e → EntryAt ws a e

-- letters, cells or marks stand from the seventh word on
abbrev pub PayloadStands : Type 0
PayloadStands = (ws : List ℕ) (a : ℕ) (e : Entry) → EntryAt ws a e → between (a + 7) (a + 7 + length (payload_words e)) ws ≡ payload_words e

-- letter k of a put
abbrev pub LetterStands : Type 0
LetterStands =
    (ws : List ℕ) (a n i s : ℕ) (ls : List ℕ) → EntryAt ws a (was_put n i s ls) → (k : ℕ) → k < length ls → slice_index ws (a + 7 + k) ≡ slice_index ls k

-- a cell in four words, and a mark in five
pub record CellAt (ws : List ℕ) (a : ℕ) (x : Cell) : Type 0 where
  pub letter : get_or ws a 0 ≡ x.letter
  pub style : get_or ws (a + 1) 0 ≡ x.style
  pub put_in : get_or ws (a + 2) 0 ≡ x.put_in
  pub struck : get_or ws (a + 3) 0 ≡ x.struck

pub record MarkAt (ws : List ℕ) (a : ℕ) (m : Mark) : Type 0 where
  pub place : get_or ws a 0 ≡ m.place
  pub cell : CellAt ws (a + 1) m.cell

-- cells and marks one after another: from the whole to each, and from each to the whole
abbrev pub CellsStand : Type 0
CellsStand =
    (ws : List ℕ) (a : ℕ) (xs : List Cell) → between a (a + length (cells_written xs)) ws ≡ cells_written xs →
    (k : ℕ) (d : Cell) → k < length xs → CellAt ws (a + 4 * k) (slice_index_or xs k d)

abbrev pub MarksStand : Type 0
MarksStand =
    (ws : List ℕ) (a : ℕ) (ms : List Mark) → between a (a + length (marks_written ms)) ws ≡ marks_written ms →
    (k : ℕ) (d : Mark) → k < length ms → MarkAt ws (a + 5 * k) (slice_index_or ms k d)

abbrev pub CellsMake : Type 0
CellsMake =
    (ws : List ℕ) (a : ℕ) (xs : List Cell) (d : Cell) → ((k : ℕ) → k < length xs → CellAt ws (a + 4 * k) (slice_index_or xs k d)) → a + 4 * length xs ≤ length ws →
    between a (a + length (cells_written xs)) ws ≡ cells_written xs

abbrev pub MarksMake : Type 0
MarksMake =
    (ws : List ℕ) (a : ℕ) (ms : List Mark) (d : Mark) → ((k : ℕ) → k < length ms → MarkAt ws (a + 5 * k) (slice_index_or ms k d)) → a + 5 * length ms ≤ length ws →
    between a (a + length (marks_written ms)) ws ≡ marks_written ms

-- how many words they are
abbrev pub WrittenLong : Type 0
WrittenLong = ((xs : List Cell) → length (cells_written xs) ≡ 4 * length xs) × ((ms : List Mark) → length (marks_written ms) ≡ 5 * length ms)
