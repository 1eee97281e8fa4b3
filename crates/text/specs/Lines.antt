-- Calls as lines of text. A line is a word, a space and a number for each of the call's numbers, and for put and find a space and the
-- letters between quotes. Here: the line of a call, and the reading of a line, either as a call or to the first byte that does not fit.
-- Definitions only: nothing is assumed.
use Rattle.std.specs.Prelude.{◌≡◌, ℕ, zero, suc, ◌+◌, ◌-◌, ◌*◌, ◌<◌, ◌≤◌, max, Bool, true, false, ◌&&◌, List, [], ◌∷◌, ◌++◌, length, take, drop, Ok, Err, Some, None, codes, decimal, Option, Result, MatchResult, ◌==◌, nat_le, nat_lt, slice_index}
use Rattle.std.specs.Borrow.{Bor}
use Rattle.std.specs.Global.{Vec}
use Rattle.codec.specs.Bytes.{call_bytes}
use Rattle.text.specs.declared.fault.Fault.{Fault}
use Rattle.text.specs.declared.fault.Fault.TheVariants.{Place, Memory}
use Rattle.text.specs.declared.reader.Mark.{Mark}
use Rattle.text.specs.declared.reader.Mark.TheVariants.{Letter, Backslash, Quote, Wrong}
use Rattle.text.specs.declared.fault.Stop.{Stop}
use Rattle.text.specs.declared.fault.Stop.TheVariants.{At, NoMemory}
use Rattle.model.specs.Paper.{pick}
use Rattle.model.specs.Calls.{Call, put, strikes, accepts, rejects, styles, undo, redo, show, find, count, change, save}

-- A part of a line is read: what it says and what is left of the line after it; or what is left from the first byte on that does not fit.
pub data Step (A : Type 0) : Type 0 where
  got : A → List ℕ → Step A
  stop : List ℕ → Step A

abbrev pub and_then : {A B : Type 0} → Step A → (A → List ℕ → Step B) → Step B
and_then (got a rest) f = f a rest
and_then (stop rest) f = stop rest

-- the bytes of a word
unfoldable pub literal_in : List ℕ → List ℕ → Step (Unit {0})
literal_in [] xs = got tt xs
literal_in (w ∷ ws) [] = stop []
literal_in (w ∷ ws) (x ∷ xs) = pick (x == w) (literal_in ws xs) (stop (x ∷ xs))

abbrev pub digit : ℕ → Bool
digit x = nat_le 48 x && nat_le x 57

-- digits after the first; n is the number so far, which stays below 4294967296
unfoldable pub digits_in : ℕ → List ℕ → Step ℕ
digits_in n [] = got n []
digits_in n (x ∷ xs) =
    pick (digit x)
    (pick (nat_lt (n * 10 + (x - 48)) 4294967296) (digits_in (n * 10 + (x - 48)) xs) (stop (x ∷ xs)))
    (got n (x ∷ xs))

-- a number: 0, or digits that do not begin with 0
unfoldable pub number_in : List ℕ → Step ℕ
number_in [] = stop []
number_in (x ∷ xs) = pick (x == 48) (got 0 xs) (pick (digit x) (digits_in (x - 48) xs) (stop (x ∷ xs)))

-- a number after a space
abbrev pub field_in : List ℕ → Step ℕ
field_in xs = and_then (literal_in (codes " ") xs) (λ _ ys. number_in ys)

-- n numbers more, each after a space; ns are the numbers before them
unfoldable pub numbers_in : ℕ → List ℕ → List ℕ → Step (List ℕ)
numbers_in zero ns xs = got ns xs
numbers_in (suc n) ns xs = and_then (field_in xs) (λ v ys. numbers_in n (ns ++ (v ∷ [])) ys)

-- a word and n numbers
abbrev pub head_in : List ℕ → ℕ → List ℕ → Step (List ℕ)
head_in word n xs = and_then (literal_in word xs) (λ _ ys. numbers_in n [] ys)

-- What a byte between quotes is, after a backslash or not: a letter, the backslash before one, the closing quote, or nothing that fits.
-- The end of a paragraph, a quote and a backslash are written with a backslash before them; any other byte but 10 is itself.
abbrev pub mark_of : Bool → ℕ → Mark
mark_of true x = pick (x == 110) (Letter 10) (pick (x == 34) (Letter 34) (pick (x == 92) (Letter 92) Wrong))
mark_of false x = pick (x == 34) Quote (pick (x == 92) Backslash (pick (x == 10) Wrong (Letter x)))

-- letters up to the closing quote; ls are those so far, and `escaped` says that a backslash came right before
unfoldable pub letters_in : Bool → List ℕ → List ℕ → Step (List ℕ)
letters_in escaped ls [] = stop []
letters_in escaped ls (x ∷ xs) =
    elim (mark_of escaped x) [
      | Letter l ↦ letters_in false (ls ++ (l ∷ [])) xs
      | Backslash ↦ letters_in true ls xs
      | Quote ↦ got ls xs
      | Wrong ↦ stop (x ∷ xs)
    ]

-- letters between quotes, after a space
abbrev pub quoted_in : List ℕ → Step (List ℕ)
quoted_in xs = and_then (literal_in (32 ∷ (34 ∷ [])) xs) (λ _ ys. letters_in false [] ys)

-- the letters, where a line has any
abbrev pub tail_in : Bool → List ℕ → Step (List ℕ)
tail_in lettered xs = pick lettered (quoted_in xs) (got [] xs)

-- the line ends here
abbrev pub ended : {A : Type 0} → A → List ℕ → Step A
ended a [] = got a []
ended a (x ∷ xs) = stop (x ∷ xs)

-- The shape of a call's line: its word, how many numbers, and whether letters come last.
pub record Shape : Type 0 where
  pub word : List ℕ
  pub count : ℕ
  pub lettered : Bool

abbrev pub shape : List ℕ → ℕ → Bool → Shape
shape w n l = record { word = w; count = n; lettered = l }

-- by the call's number
abbrev pub shape_of : ℕ → Shape
shape_of k =
    pick (k == 0) (shape (codes "put") 3 true)
    (pick (k == 1) (shape (codes "strike") 3 false)
    (pick (k == 2) (shape (codes "accept") 1 false)
    (pick (k == 3) (shape (codes "reject") 1 false)
    (pick (k == 4) (shape (codes "style") 3 false)
    (pick (k == 5) (shape (codes "undo") 0 false)
    (pick (k == 6) (shape (codes "redo") 0 false)
    (pick (k == 7) (shape (codes "show") 4 false)
    (pick (k == 8) (shape (codes "find") 2 true)
    (pick (k == 9) (shape (codes "count") 1 false)
    (pick (k == 10) (shape (codes "change") 1 false)
    (shape (codes "save") 2 false)))))))))))

-- the call of number k with the numbers ns and the letters ls
unfoldable pub call_of : ℕ → List ℕ → List ℕ → Call
call_of k ns ls =
    pick (k == 0) (put (slice_index ns 0) (slice_index ns 1) (slice_index ns 2) ls)
    (pick (k == 1) (strikes (slice_index ns 0) (slice_index ns 1) (slice_index ns 2))
    (pick (k == 2) (accepts (slice_index ns 0))
    (pick (k == 3) (rejects (slice_index ns 0))
    (pick (k == 4) (styles (slice_index ns 0) (slice_index ns 1) (slice_index ns 2))
    (pick (k == 5) undo
    (pick (k == 6) redo
    (pick (k == 7) (show (slice_index ns 0) (slice_index ns 1) (slice_index ns 2) (slice_index ns 3))
    (pick (k == 8) (find (slice_index ns 0) (slice_index ns 1) ls)
    (pick (k == 9) (count (slice_index ns 0))
    (pick (k == 10) (change (slice_index ns 0))
    (save (slice_index ns 0) (slice_index ns 1))))))))))))

-- a whole line, read as call number k
abbrev pub call_in : ℕ → List ℕ → Step Call
call_in k xs =
    and_then (head_in (shape_of k).word (shape_of k).count xs)
    (λ ns ys. and_then (tail_in (shape_of k).lettered ys) (λ ls zs. ended (call_of k ns ls) zs))

-- What a line means, or the place of the first byte that does not fit.
pub data Reading (A : Type 0) : Type 0 where
  means : A → Reading A
  ceases : ℕ → Reading A

-- The line xs is tried as each of the n calls from number k on; far is the furthest place at which one of those before ceased.
unfoldable pub reading_from : ℕ → ℕ → ℕ → List ℕ → Reading Call
reading_from zero k far xs = ceases far
reading_from (suc n) k far xs =
    elim (call_in k xs) [ got c rest ↦ means c | stop rest ↦ reading_from n (k + 1) (max far (length xs - length rest)) xs ]

abbrev pub line_reading : List ℕ → Reading Call
line_reading xs = reading_from 12 0 0 xs

-- The first line of a file: how many cells and changes a paper may have, and how much can be undone.
abbrev pub limits_in : List ℕ → Step (List ℕ)
limits_in xs = and_then (head_in (codes "limits") 3 xs) (λ ns ys. ended ns ys)

unfoldable pub limits_reading : List ℕ → Reading (List ℕ)
limits_reading xs = elim (limits_in xs) [ got ns rest ↦ means ns | stop rest ↦ ceases (length xs - length rest) ]

-- The line of a call. Numbers are decimal, each after a space.
unfoldable pub numbers_line : List ℕ → List ℕ
numbers_line [] = []
numbers_line (n ∷ ns) = 32 ∷ (decimal n ++ numbers_line ns)

abbrev pub letter_line : ℕ → List ℕ
letter_line l = pick (l == 10) (codes "\\n") (pick (l == 34) (codes "\\\"") (pick (l == 92) (codes "\\\\") (l ∷ [])))

-- letters and the closing quote
unfoldable pub letters_line : List ℕ → List ℕ
letters_line [] = codes "\""
letters_line (l ∷ ls) = letter_line l ++ letters_line ls

abbrev pub quoted_line : List ℕ → List ℕ
quoted_line ls = codes " \"" ++ letters_line ls

unfoldable pub line_of : Call → List ℕ
line_of (put a i s ls) = codes "put" ++ (numbers_line (a ∷ (i ∷ (s ∷ []))) ++ quoted_line ls)
line_of (strikes a i n) = codes "strike" ++ numbers_line (a ∷ (i ∷ (n ∷ [])))
line_of (accepts c) = codes "accept" ++ numbers_line (c ∷ [])
line_of (rejects c) = codes "reject" ++ numbers_line (c ∷ [])
line_of (styles i n s) = codes "style" ++ numbers_line (i ∷ (n ∷ (s ∷ [])))
line_of undo = codes "undo"
line_of redo = codes "redo"
line_of (show k w r n) = codes "show" ++ numbers_line (k ∷ (w ∷ (r ∷ (n ∷ []))))
line_of (find k i ls) = codes "find" ++ (numbers_line (k ∷ (i ∷ [])) ++ quoted_line ls)
line_of (count k) = codes "count" ++ numbers_line (k ∷ [])
line_of (change c) = codes "change" ++ numbers_line (c ∷ [])
line_of (save i n) = codes "save" ++ numbers_line (i ∷ (n ∷ []))

abbrev pub limits_line : ℕ → ℕ → ℕ → List ℕ
limits_line cells changes undos = codes "limits" ++ numbers_line (cells ∷ (changes ∷ (undos ∷ [])))

-- the numbers fit four bytes
unfoldable pub small : List ℕ → Bool
small [] = true
small (n ∷ ns) = nat_lt n 4294967296 && small ns

-- a call that a line can say: any letters, and numbers that fit four bytes
unfoldable pub readable : Call → Bool
readable (put a i s ls) = small (a ∷ (i ∷ (s ∷ [])))
readable (strikes a i n) = small (a ∷ (i ∷ (n ∷ [])))
readable (accepts c) = small (c ∷ [])
readable (rejects c) = small (c ∷ [])
readable (styles i n s) = small (i ∷ (n ∷ (s ∷ [])))
readable undo = true
readable redo = true
readable (show k w r n) = small (k ∷ (w ∷ (r ∷ (n ∷ []))))
readable (find k i ls) = small (k ∷ (i ∷ []))
readable (count k) = small (k ∷ [])
readable (change c) = small (c ∷ [])
readable (save i n) = small (i ∷ (n ∷ []))

-- the line of a call reads as that call
abbrev pub ReadsBack : Type 0
ReadsBack = (c : Call) → readable c ≡ true → line_reading (line_of c) ≡ means c

-- only the line of a call reads as that call
abbrev pub OnlyLine : Type 0
OnlyLine = (xs : List ℕ) (c : Call) → line_reading xs ≡ means c → (readable c ≡ true) × (xs ≡ line_of c)

-- a line that ceases at a place: up to there it is the beginning of some call's line
abbrev pub BeginsCall : List ℕ → ℕ → Type 0
BeginsCall xs i = (i ≤ length xs) × ((c : Call) × (more : List ℕ) × (readable c ≡ true) × (line_of c ≡ take i xs ++ more))

abbrev pub PlaceBegins : Type 0
PlaceBegins = (xs : List ℕ) (i : ℕ) → line_reading xs ≡ ceases i → BeginsCall xs i

-- Where some lines cease: at a wrong letter, a digit after 0, a number that is too large, more than a call, a missing field, a letter that
-- has no backslash, a quote that is not closed.
abbrev pub Places : Type 0
Places =
    (line_reading (codes "") ≡ ceases 0)
    × (line_reading (codes "pux") ≡ ceases 2)
    × (line_reading (codes "sty") ≡ ceases 3)
    × (line_reading (codes "put 01") ≡ ceases 5)
    × (line_reading (codes "accept 4294967295") ≡ means (accepts 4294967295))
    × (line_reading (codes "accept 4294967296") ≡ ceases 16)
    × (line_reading (codes "undo again") ≡ ceases 4)
    × (line_reading (codes "show 0 8") ≡ ceases 8)
    × (line_reading (codes "find 0 7 \"a\\n\\\"\"") ≡ means (find 0 7 (97 ∷ (10 ∷ (34 ∷ [])))))
    × (line_reading (codes "find 0 7 \"a\\b") ≡ ceases 12)
    × (line_reading (codes "find 0 7 \"ab") ≡ ceases 12)

abbrev pub LimitsBack : Type 0
LimitsBack = (cells changes undos : ℕ) → cells < 4294967296 → changes < 4294967296 → undos < 4294967296 → limits_reading (limits_line cells changes undos) ≡ means (cells ∷ (changes ∷ (undos ∷ [])))

-- What the code answers for a part of a line: its value and what is left after it, or what is left from the first byte on that does not
-- fit.
abbrev pub Reads : {A : Type 0} → Step A → Result (A × Bor (List ℕ)) (Bor (List ℕ)) → Type 0
Reads s r = MatchResult r (λ p. s ≡ got p.0 p.1.now) (λ rest. s ≡ stop rest.now)

-- the same where the value a is elsewhere, or there is none
abbrev pub Passes : {A : Type 0} → Step A → A → Result (Bor (List ℕ)) (Bor (List ℕ)) → Type 0
Passes s a r = MatchResult r (λ rest. s ≡ got a rest.now) (λ rest. s ≡ stop rest.now)

-- and for a part that needs memory: it is not read from here on, or there is none
abbrev pub Stops : {A : Type 0} → Step A → Stop → Type 0
Stops s (At rest) = s ≡ stop rest.now
Stops s NoMemory = Unit {0}

-- letters that are read into a vector of their own
abbrev pub Collects : Step (List ℕ) → Result (Vec ℕ × Bor (List ℕ)) Stop → Type 0
Collects s r = MatchResult r (λ p. s ≡ got p.0.items p.1.now) (Stops s)

-- the letters of a call, if it has any
abbrev pub letters_of : Option (Vec ℕ) → List ℕ
letters_of (Some text) = text.items
letters_of None = []

-- a part of an answer, where a vector has ls then
abbrev pub Adds : Step (List ℕ) → List ℕ → Result (Bor (List ℕ)) Stop → Type 0
Adds s ls r = MatchResult r (λ rest. s ≡ got ls rest.now) (Stops s)

-- want of memory is the only fault
abbrev pub Lacks : Fault → Type 0
Lacks (Place i) = ⊥
Lacks Memory = Unit {0}

-- and for the bytes bs of a call, or the fault that there is instead
abbrev pub Makes : Step Call → List ℕ → Type 0
Makes s bs = (c : Call) × (s ≡ got c []) × (bs ≡ call_bytes c)

abbrev pub Fails : {A : Type 0} → Step A → List ℕ → Fault → Type 0
Fails s xs (Place i) = (s ≡ stop (drop i xs)) × (i ≤ length xs)
Fails s xs Memory = Unit {0}

-- What is made of a line of which the reading is known: the bytes of the call, or the place where the line ceases to be one. Nothing is
-- said of a line for which there is no memory.
abbrev pub BytesOf : Reading Call → List ℕ → Type 0
BytesOf r bs = (c : Call) × (r ≡ means c) × (bs ≡ call_bytes c)

abbrev pub RefusedAt : Reading Call → Fault → Type 0
RefusedAt r (Place i) = r ≡ ceases i
RefusedAt r Memory = Unit {0}

-- and for the three limits
abbrev pub LimitsRead : Reading (List ℕ) → Result (ℕ × ℕ × ℕ) ℕ → Type 0
LimitsRead r (Ok p) = r ≡ means (p.0 ∷ (p.1 ∷ (p.2 ∷ [])))
LimitsRead r (Err i) = r ≡ ceases i
