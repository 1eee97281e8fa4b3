-- What is promised. Each of these is a statement: a type, whose proof stands on a function's contract. Nothing is assumed.
use Rattle.std.specs.Prelude.{◌≡◌, ℕ, zero, suc, ◌+◌, ◌*◌, ◌<◌, ◌≤◌, Bool, true, false, ◌&&◌, ◌||◌, ◌≢◌, ◌⊎◌, List, [], ◌∷◌, ◌++◌, length, drop, ◌==◌, nat_le, nat_lt, slice_index, slice_index_or}
use Rattle.model.specs.Paper.{pick, Cell, Paper, accept, reject, view, letters, written}
use Rattle.model.specs.Rows.{cut, rows, begins, find_in}
use Rattle.model.specs.Calls.{Call, put, strikes, accepts, rejects, styles, undo, redo, show, find, count, change, save, Answer, Desk, Limits, writes, fits, turned, after, answers, ran, new_desk}

abbrev pub GoodLimits : Limits → Type 0
GoodLimits l = (l.cells ≤ 1000000) × (l.changes ≤ 65536) × (l.undos ≤ 1000000)

-- numbers of a call that four-byte fields can carry
abbrev pub field : ℕ → Bool
field n = nat_lt n 4294967296

unfoldable pub all_below : ℕ → List ℕ → Bool
all_below b [] = true
all_below b (x ∷ xs) = nat_lt x b && all_below b xs

-- a call that bytes can carry: each number in four bytes, each letter in one
unfoldable pub readable : Call → Bool
readable (put a i s ls) = (field a && field i) && (field s && (field (length ls) && all_below 256 ls))
readable (strikes a i n) = field a && (field i && field n)
readable (accepts c) = field c
readable (rejects c) = field c
readable (styles i n s) = field i && (field n && field s)
readable undo = true
readable redo = true
readable (show k w r n) = (field k && field w) && (field r && field n)
readable (find k i ls) = (field k && field i) && (field (length ls) && all_below 256 ls)
readable (count k) = field k
readable (change c) = field c
readable (save i n) = field i && field n

unfoldable pub all_readable : List Call → Bool
all_readable [] = true
all_readable (c ∷ cs) = readable c && all_readable cs

-- The main promise. A keeper is what the contracts of the session's open and call say, and nothing else: its state is the lent memory,
-- `opens` is what open leaves there, `next` what a call leaves there, `says` what it answers. It may keep the paper in pieces, rows, and what
-- can be undone, as it likes. It is right if for every list of calls its answers are those of the model: of the paper as the calls left it,
-- row by row and letter by letter, and of all papers that can still be had back.
pub record Memory : Type 0 where
  pub words : List ℕ

pub record Keeper : Type 0 where
  pub opens : Limits → Memory
  pub next : Memory → Call → Memory
  pub says : Memory → Call → Answer

unfoldable pub told_by : Keeper → Memory → List Call → List Answer
told_by e s [] = []
told_by e s (c ∷ cs) = e.says s c ∷ told_by e (e.next s c) cs

unfoldable pub left_by : Keeper → Memory → List Call → Memory
left_by e s [] = s
left_by e s (c ∷ cs) = left_by e (e.next s c) cs

unfoldable pub Right : (ℕ → Bool) → Keeper → Type 0
Right can e =
    (l : Limits) (cs : List Call) → l.calls_can ≡ can → GoodLimits l → all_readable cs ≡ true → told_by e (e.opens l) cs ≡ answers l new_desk cs

-- Memory has no room for whole papers as they were, so what can be undone has to be had back from what was changed.
unfoldable pub EnoughMemory : Keeper → Type 0
EnoughMemory e =
    (l : Limits) (cs : List Call) → GoodLimits l → all_readable cs ≡ true →
    let m : Memory = left_by e (e.opens l) cs in
    (length m.words ≤ 8 * l.cells + 8 * l.changes + 16 * l.undos + 65536) × (all_below 4294967296 m.words ≡ true)

-- a call that is turned away leaves every word of memory as it was
unfoldable pub RefusalKeeps : (ℕ → Bool) → Keeper → Type 0
RefusalKeeps can e =
    (l : Limits) (cs : List Call) (c : Call) → l.calls_can ≡ can → GoodLimits l → all_readable (cs ++ (c ∷ [])) ≡ true → 0 < turned l (ran l new_desk cs) c →
    e.next (left_by e (e.opens l) cs) c ≡ left_by e (e.opens l) cs

-- which calls a stage can do, by number: the first one puts letters in, shows and counts; the whole desk does all twelve
abbrev pub thin : ℕ → Bool
thin k = k == 0 || (k == 7 || k == 9)

abbrev pub whole : ℕ → Bool
whole k = true

-- 1. A file is read in one way only.
unfoldable pub OneReading : Type 0
OneReading = (p q : Paper) → written p ≡ written q → p ≡ q

-- 2. It does not matter in which order two changes are decided, each accepted or rejected.
unfoldable pub decided : Bool → List Cell → ℕ → List Cell
decided true xs c = accept xs c
decided false xs c = reject xs c

unfoldable pub AnyOrder : Type 0
AnyOrder = (a b : Bool) (xs : List Cell) (c d : ℕ) → c ≢ d → decided b (decided a xs c) d ≡ decided a (decided b xs d) c

-- 3. When all open changes were accepted, what there is is what was seen as if they were; and likewise when all were rejected.
unfoldable pub all_decided : Bool → List Cell → ℕ → List Cell
all_decided a xs zero = xs
all_decided a xs (suc n) = all_decided a (decided a xs n) n

-- every mark is of one of the first n changes
unfoldable pub below : List Cell → ℕ → Bool
below [] n = true
below (x ∷ xs) n = (nat_le x.put_in n && nat_le x.struck n) && below xs n

unfoldable pub AsIf : Type 0
AsIf =
    (xs : List Cell) (n : ℕ) → below xs n ≡ true →
    (letters (all_decided true xs n) ≡ letters (view 1 xs)) × (letters (all_decided false xs n) ≡ letters (view 2 xs))

-- 4. The paper as it was stays: no call but accept, undo and redo changes a letter that is seen as if all open changes were rejected.
unfoldable pub open_only : Call → Bool
open_only (accepts c) = false
open_only (put a i s ls) = true
open_only (strikes a i n) = true
open_only (rejects c) = true
open_only (styles i n s) = true
open_only undo = false
open_only redo = false
open_only (show k w r n) = true
open_only (find k i ls) = true
open_only (count k) = true
open_only (change c) = true
open_only (save i n) = true

unfoldable pub AsItWas : Type 0
AsItWas =
    (l : Limits) (d : Desk) (c : Call) → open_only c ≡ true → letters (view 2 (after l d c).now.cells) ≡ letters (view 2 d.now.cells)

-- 5. Undo brings back the paper as it was, changes and all, and redo the paper that was undone. What can still be undone may be less,
-- since the oldest is forgotten.
unfoldable pub Undone : Type 0
Undone =
    (l : Limits) (d : Desk) (c : Call) → writes c ≡ true → fits l d.now ≡ true → turned l d c ≡ 0 → 0 < length (after l d c).past → l.calls_can 5 ≡ true → l.calls_can 6 ≡ true →
    ((after l (after l d c) undo).now ≡ d.now) × ((after l (after l (after l d c) undo) redo).now ≡ (after l d c).now)

-- 6. Rows: every letter stands on a row, in order, but for ends of paragraphs and spaces at which a row was broken; no row is too long;
-- and no row could have gone to a later space.
unfoldable pub set_letters : List (List Cell) → List ℕ
set_letters [] = []
set_letters (r ∷ rs) = letters r ++ set_letters rs

unfoldable pub only_solid : List ℕ → List ℕ
only_solid [] = []
only_solid (x ∷ xs) = pick (x == 10 || x == 32) (only_solid xs) (x ∷ only_solid xs)

unfoldable pub LettersKept : Type 0
LettersKept = (w : ℕ) (xs : List Cell) → 0 < w → only_solid (set_letters (rows w xs)) ≡ only_solid (letters xs)

unfoldable pub RowsFit : Type 0
RowsFit = (w i : ℕ) (xs : List Cell) → 0 < w → i < length (rows w xs) → length (slice_index_or (rows w xs) i []) ≤ w

unfoldable pub NotEarlier : Type 0
NotEarlier =
    (w : ℕ) (xs : List Cell) (i : ℕ) → w < length xs → (cut w xs).skips ≡ 1 → (cut w xs).long < i → i ≤ w →
    slice_index (letters xs) (cut w xs).long ≡ 10 ⊎ ((slice_index (letters xs) i ≢ 32) × (slice_index (letters xs) i ≢ 10))

-- 7. What is found stands there and nowhere earlier; what is not found stands nowhere.
unfoldable pub FoundFirst : Type 0
FoundFirst =
    (xs : List Cell) (ls : List ℕ) (from k : ℕ) → find_in xs ls from 0 ≡ suc k →
    (from ≤ k) × (begins (drop k xs) ls ≡ true) × ((i : ℕ) → from ≤ i → i < k → begins (drop i xs) ls ≡ false)

unfoldable pub NotFound : Type 0
NotFound = (xs : List Cell) (ls : List ℕ) (from i : ℕ) → 0 < length ls → find_in xs ls from 0 ≡ 0 → from ≤ i → begins (drop i xs) ls ≡ false

-- 8. A call that is turned away changes nothing that can be told afterwards.
unfoldable pub TurnedAway : Type 0
TurnedAway = (l : Limits) (d : Desk) (c : Call) (cs : List Call) → 0 < turned l d c → answers l (after l d c) cs ≡ answers l d cs
