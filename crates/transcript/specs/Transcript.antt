-- What the answers to a file of calls are, byte by byte. Definitions only: nothing is assumed.
use Rattle.std.specs.Prelude.{◌≡◌, ℕ, min, Bool, true, ◌&&◌, List, [], ◌∷◌, ◌++◌, ◌==◌, nat_le, slice_index}
use Rattle.model.specs.Paper.{pick}
use Rattle.model.specs.Calls.{Call, Answer, refused, Desk, Limits, after, answer, answers, new_desk}
use Rattle.session.specs.Memory.{stage}
use Rattle.session.specs.Contract.{good_limits}
use Rattle.text.specs.Lines.{Reading, means, ceases, line_reading, limits_reading, line_of, limits_line, readable}
use Rattle.text.specs.Shown.{answer_line}

-- The lines of a file: each ends with byte 10, and the last may end with the file.
abbrev pub onto : ℕ → List (List ℕ) → List (List ℕ)
onto x [] = (x ∷ []) ∷ []
onto x (line ∷ lines) = (x ∷ line) ∷ lines

unfoldable pub lines_of : List ℕ → List (List ℕ)
lines_of [] = []
lines_of (x ∷ xs) = pick (x == 10) ([] ∷ lines_of xs) (onto x (lines_of xs))

-- Empty lines and lines that begin with # are passed over.
abbrev pub passed_over : List ℕ → Bool
passed_over [] = true
passed_over (x ∷ xs) = x == 35

unfoldable pub kept_lines : List (List ℕ) → List (List ℕ)
kept_lines [] = []
kept_lines (line ∷ lines) = pick (passed_over line) (kept_lines lines) (line ∷ kept_lines lines)

abbrev pub call_lines : List ℕ → List (List ℕ)
call_lines file = kept_lines (lines_of file)

-- A place as far as four bytes can tell it.
abbrev pub told_at : ℕ → ℕ
told_at i = min i 4294967295

-- What a desk answers to a line, and the desk after it. A line that is no call is refused by 1 at the first byte that does not fit, and changes nothing.
abbrev pub line_answer : Limits → Desk → Reading Call → Answer
line_answer l d (means c) = answer l d c
line_answer l d (ceases i) = refused 1 (told_at i)

abbrev pub line_after : Limits → Desk → Reading Call → Desk
line_after l d (means c) = after l d c
line_after l d (ceases i) = d

unfoldable pub line_answers : Limits → Desk → List (List ℕ) → List Answer
line_answers l d [] = []
line_answers l d (line ∷ lines) = line_answer l d (line_reading line) ∷ line_answers l (line_after l d (line_reading line)) lines

-- Limits that the program has room for: at most 2,048 cells, 128 changes and 2,048 for undoing.
abbrev pub room_for : ℕ → ℕ → ℕ → Bool
room_for n c u = nat_le n 2048 && (nat_le c 128 && nat_le u 2048)

abbrev pub limits_for : ℕ → ℕ → ℕ → Limits
limits_for n c u = record { calls_can = stage; cells = n; changes = c; undos = u }

-- The answers to the lines after the first, which has the limits. Limits that no desk can have are refused by 3 at 1, limits that the program has no
-- room for by 3 at 0, and a first line that has no limits by 1; then nothing else is answered.
abbrev pub answers_under : ℕ → ℕ → ℕ → List (List ℕ) → List Answer
answers_under n c u lines =
    pick (good_limits n c u) (pick (room_for n c u) (line_answers (limits_for n c u) new_desk lines) (refused 3 0 ∷ [])) (refused 3 1 ∷ [])

abbrev pub answers_after : Reading (List ℕ) → List (List ℕ) → List Answer
answers_after (means ns) lines = answers_under (slice_index ns 0) (slice_index ns 1) (slice_index ns 2) lines
answers_after (ceases i) lines = refused 1 (told_at i) ∷ []

abbrev pub file_answers : List (List ℕ) → List Answer
file_answers [] = []
file_answers (first ∷ lines) = answers_after (limits_reading first) lines

-- each answer is a line, which ends with byte 10
abbrev pub told_line : Answer → List ℕ
told_line a = answer_line a ++ (10 ∷ [])

unfoldable pub told_lines : List Answer → List ℕ
told_lines [] = []
told_lines (a ∷ others) = told_line a ++ told_lines others

-- the bytes of the answers to a file
abbrev pub transcript : List ℕ → List ℕ
transcript file = told_lines (file_answers (call_lines file))

-- The file of a list of calls: the line of the limits, and the line of each call.
unfoldable pub lines_for : List Call → List ℕ
lines_for [] = []
lines_for (c ∷ cs) = line_of c ++ (10 ∷ lines_for cs)

abbrev pub file_for : ℕ → ℕ → ℕ → List Call → List ℕ
file_for n c u cs = limits_line n c u ++ (10 ∷ lines_for cs)

-- calls whose numbers a line can say
unfoldable pub all_sayable : List Call → Bool
all_sayable [] = true
all_sayable (c ∷ cs) = readable c && all_sayable cs

-- for every list of calls the answers to its file are those of the model
abbrev pub AnswersCalls : Type 0
AnswersCalls =
    (n c u : ℕ) (cs : List Call) → room_for n c u ≡ true → all_sayable cs ≡ true →
    transcript (file_for n c u cs) ≡ told_lines (answers (limits_for n c u) new_desk cs)
