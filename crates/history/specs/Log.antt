-- The log of what can be undone, in lent words. Definitions and statements only: nothing is assumed.
-- Words 0 to 15 are a head: 0 start, 1 cursor and 2 end, counted from word 16 on; 3 how many entries are behind the cursor, 4 how many ahead;
-- 5 what those behind count together, 6 what those ahead do. The entries' words stand from word 16 on.
use Rattle.std.specs.Prelude.{◌≡◌, ℕ, ◌+◌, ◌-◌, ◌*◌, ◌<◌, ◌≤◌, List, [], ◌∷◌, ◌++◌, length, take, Some, None, Option, slice_index, slice_index_or}
use Rattle.std.specs.List.{between}
use Rattle.history.specs.Entry.{Entry, counts}
use Rattle.history.specs.Steps.{all_count, kept}
use Rattle.history.specs.Words.{entry_size, entry_words, Logged, EntryAt}
use Rattle.history.specs.declared.log.State.{State}

-- where the entries' words begin, where the cursor stands, and where they end
abbrev pub start_of : List ℕ → ℕ
start_of u = 16 + slice_index u 0

abbrev pub cursor_of : List ℕ → ℕ
cursor_of u = 16 + slice_index u 1

abbrev pub end_of : List ℕ → ℕ
end_of u = 16 + slice_index u 2

-- the words u keep the entries back behind the cursor (the latest first) and ahead after it (the oldest first), within the limit
pub record Log (u : List ℕ) (limit : ℕ) (back ahead : List Entry) : Type 0 where
  pub words : Logged u (start_of u) (cursor_of u) (end_of u) back ahead
  pub room : end_of u ≤ 16 + 16 * limit
  pub many_back : slice_index_or u 3 0 ≡ length back
  pub many_ahead : slice_index_or u 4 0 ≡ length ahead
  pub done : slice_index_or u 5 0 ≡ all_count back
  pub undone : slice_index_or u 6 0 ≡ all_count ahead
  pub within : all_count back + all_count ahead ≤ limit
  pub low : limit ≤ 1000000
  pub long : 16 + 16 * limit ≤ length u

-- some log
pub record Keeps (u : List ℕ) (limit : ℕ) : Type 0 where
  pub back : List Entry
  pub ahead : List Entry
  pub log : Log u limit back ahead

pub record SomeLog (u : List ℕ) : Type 0 where
  pub limit : ℕ
  pub keeps : Keeps u limit

-- the numbers of the head
pub record Headed (u : List ℕ) (s : State) : Type 0 where
  pub start : slice_index_or u 0 0 ≡ s.start
  pub cursor : slice_index_or u 1 0 ≡ s.cursor
  pub end : slice_index_or u 2 0 ≡ s.end
  pub behind : slice_index_or u 3 0 ≡ s.behind
  pub ahead : slice_index_or u 4 0 ≡ s.ahead
  pub done : slice_index_or u 5 0 ≡ s.done
  pub undone : slice_index_or u 6 0 ≡ s.undone

-- One entry was stepped over: it stands at a, before and after.
pub record Stepped (u new : List ℕ) (limit : ℕ) (back ahead : List Entry) (a : ℕ) (e : Entry) : Type 0 where
  pub log : Log new limit back ahead
  pub was : EntryAt u a e
  pub stands : EntryAt new a e
  pub inside : a + entry_size e ≤ length new

-- one entry back, and one ahead
abbrev pub StepsBack : List ℕ → List ℕ → ℕ → Type 0
StepsBack u new a = (limit : ℕ) (e : Entry) (back ahead : List Entry) → Log u limit (e ∷ back) ahead → Stepped u new limit back (e ∷ ahead) a e

abbrev pub StepsAhead : List ℕ → List ℕ → ℕ → Type 0
StepsAhead u new a = (limit : ℕ) (e : Entry) (back ahead : List Entry) → Log u limit back (e ∷ ahead) → Stepped u new limit (e ∷ back) ahead a e

-- in plain numbers: an entry's words from a on are inside, and it counts one at least
pub record Inside (u : List ℕ) (a : ℕ) : Type 0 where
  pub size : 8 ≤ slice_index u a
  pub end : a + slice_index u a ≤ length u
  pub count : 1 ≤ slice_index u (a + 1)

-- what could be done again is dropped; the oldest entry is forgotten, and the oldest until those behind count at most so much; the log stays
abbrev pub Drops : List ℕ → List ℕ → Type 0
Drops u new = (limit : ℕ) (back ahead : List Entry) → Log u limit back ahead → Log new limit back []

abbrev pub ForgetsOldest : List ℕ → List ℕ → Type 0
ForgetsOldest u new = (limit : ℕ) (e : Entry) (back ahead : List Entry) → Log u limit (back ++ (e ∷ [])) ahead → Log new limit back ahead

abbrev pub Forgets : List ℕ → List ℕ → ℕ → Type 0
Forgets u new most = (limit : ℕ) (back ahead : List Entry) → Log u limit back ahead → Log new limit (kept most back) ahead

abbrev pub Stays : List ℕ → List ℕ → Type 0
Stays u new = (limit : ℕ) (back ahead : List Entry) → Log u limit back ahead → Log new limit back ahead

-- room for an entry that counts so much: nothing is ahead, and from a on 8 words are free for each that it counts
pub record Room (u : List ℕ) (limit count a : ℕ) : Type 0 where
  pub cursor : a ≡ cursor_of u
  pub end : a ≡ end_of u
  pub none_ahead : slice_index_or u 4 0 ≡ 0
  pub free : a + 8 * count ≤ 16 + 16 * limit
  pub within : slice_index_or u 5 0 + count ≤ limit

-- there is room, the oldest being forgotten; or the entry counts more than the limit, and all is forgotten
pub record Roomed (u new : List ℕ) (limit count a : ℕ) : Type 0 where
  pub fits : count ≤ limit
  pub room : Room new limit count a
  pub log : (back ahead : List Entry) → Log u limit back ahead → Log new limit (kept (limit - count) back) []

pub record Emptied (u new : List ℕ) (limit count : ℕ) : Type 0 where
  pub over : limit < count
  pub log : (back ahead : List Entry) → Log u limit back ahead → Log new limit [] []

abbrev pub MakesRoom : List ℕ → List ℕ → ℕ → ℕ → Option ℕ → Type 0
MakesRoom u new limit count (Some a) = Roomed u new limit count a
MakesRoom u new limit count None = Emptied u new limit count

-- an entry of so many words, that counts so much, can be pushed
pub record CanPush (u : List ℕ) (size count : ℕ) : Type 0 where
  pub limit : ℕ
  pub keeps : Keeps u limit
  pub none_ahead : slice_index_or u 4 0 ≡ 0
  pub room : cursor_of u + size ≤ 16 + 16 * limit
  pub within : slice_index_or u 5 0 + count ≤ limit

-- the entry e whose words stand at the cursor becomes the latest
abbrev pub Pushes : List ℕ → List ℕ → ℕ → ℕ → Type 0
Pushes u new size count =
    (limit : ℕ) (e : Entry) (back : List Entry) → Log u limit back [] → between (cursor_of u) (cursor_of u + size) u ≡ entry_words e →
    size ≡ entry_size e → count ≡ counts e → cursor_of u + size ≤ 16 + 16 * limit → all_count back + count ≤ limit → Log new limit (e ∷ back) []

-- Whoever writes only from the end on keeps the log and the room.
abbrev pub WrittenKeeps : Type 0
WrittenKeeps =
    (u new : List ℕ) (limit : ℕ) (back ahead : List Entry) → Log u limit back ahead → take (end_of u) new ≡ take (end_of u) u → length new ≡ length u →
    Log new limit back ahead

abbrev pub WrittenKeepsRoom : Type 0
WrittenKeepsRoom = (u new : List ℕ) (limit count a : ℕ) → Room u limit count a → take a new ≡ take a u → Room new limit count a

-- and where there is room, an entry that is written there can be pushed
abbrev pub RoomPushes : Type 0
RoomPushes =
    (u : List ℕ) (limit count a : ℕ) (e : Entry) → Keeps u limit → Room u limit count a → count ≡ counts e → CanPush u (entry_size e) count
