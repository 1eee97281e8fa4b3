-- Answers as lines of text, and how a line is made of an answer's bytes. Definitions only: nothing is assumed.
use Rattle.std.specs.Prelude.{ℕ, zero, suc, ◌+◌, ◌*◌, Bool, true, ◌&&◌, ◌||◌, List, [], ◌∷◌, ◌++◌, length, drop, codes, decimal, ◌==◌, nat_lt, slice_index}
use Rattle.model.specs.Paper.{pick, Cell}
use Rattle.model.specs.Calls.{Answer, refused, number, two, lines, numbers}
use Rattle.text.specs.Lines.{Step, got, stop, and_then, ended, numbers_line}

-- Of a cell in a row: + if it is put in, - if it is struck out, ± if both; then its letter.
abbrev pub mark_line : ℕ → ℕ → List ℕ
mark_line put_in struck = pick (put_in == 0) (pick (struck == 0) [] (codes "-")) (pick (struck == 0) (codes "+") (194 ∷ (177 ∷ [])))

-- the letters +, -, | and \ have a \ before them
abbrev pub escape_line : ℕ → List ℕ
escape_line l = pick (l == 43 || (l == 45 || (l == 124 || l == 92))) (codes "\\") []

abbrev pub cell_line : ℕ → ℕ → ℕ → List ℕ
cell_line letter put_in struck = mark_line put_in struck ++ (escape_line letter ++ (letter ∷ []))

unfoldable pub row_line : List Cell → List ℕ
row_line [] = []
row_line (x ∷ xs) = cell_line x.letter x.put_in x.struck ++ row_line xs

-- a bar after each row
unfoldable pub rows_line : List (List Cell) → List ℕ
rows_line [] = []
rows_line (r ∷ rs) = row_line r ++ (124 ∷ rows_line rs)

unfoldable pub answer_line : Answer → List ℕ
answer_line (refused n i) = codes "refused " ++ (decimal n ++ (codes " at " ++ decimal i))
answer_line (number n) = decimal n
answer_line (two m n) = decimal m ++ (codes " " ++ decimal n)
answer_line (lines rs) = codes "rows |" ++ rows_line rs
answer_line (numbers ns) = codes "numbers" ++ numbers_line ns

-- every letter of a row is a byte
unfoldable pub byte_letters : List Cell → Bool
byte_letters [] = true
byte_letters (x ∷ xs) = nat_lt x.letter 256 && byte_letters xs

unfoldable pub byte_rows : List (List Cell) → Bool
byte_rows [] = true
byte_rows (r ∷ rs) = byte_letters r && byte_rows rs

unfoldable pub showable : Answer → Bool
showable (refused n i) = true
showable (number n) = true
showable (two m n) = true
showable (lines rs) = byte_rows rs
showable (numbers ns) = true

-- The number in the four bytes at place i.
abbrev pub word_at : List ℕ → ℕ → ℕ
word_at xs i = slice_index xs i + slice_index xs (i + 1) * 256 + slice_index xs (i + 2) * 65536 + slice_index xs (i + 3) * 16777216

-- What an answer's bytes add to the line so far, `line`: a number; a number after a space; a cell; a row; so many of a kind.
unfoldable pub number_shown : List ℕ → List ℕ → Step (List ℕ)
number_shown line xs = pick (nat_lt (length xs) 4) (stop xs) (got (line ++ decimal (word_at xs 0)) (drop 4 xs))

abbrev pub spaced_shown : List ℕ → List ℕ → Step (List ℕ)
spaced_shown line xs = number_shown (line ++ codes " ") xs

unfoldable pub cell_shown : List ℕ → List ℕ → Step (List ℕ)
cell_shown line xs =
    pick (nat_lt (length xs) 16) (stop xs)
    (pick (nat_lt (word_at xs 0) 256) (got (line ++ cell_line (word_at xs 0) (word_at xs 8) (word_at xs 12)) (drop 16 xs)) (stop xs))

unfoldable pub repeated : (List ℕ → List ℕ → Step (List ℕ)) → ℕ → List ℕ → List ℕ → Step (List ℕ)
repeated f zero line xs = got line xs
repeated f (suc n) line xs = and_then (f line xs) (repeated f n)

-- a count, and so many of a kind
unfoldable pub counted : (List ℕ → List ℕ → Step (List ℕ)) → List ℕ → List ℕ → Step (List ℕ)
counted f line xs = pick (nat_lt (length xs) 4) (stop xs) (repeated f (word_at xs 0) line (drop 4 xs))

abbrev pub row_shown : List ℕ → List ℕ → Step (List ℕ)
row_shown line xs = and_then (counted cell_shown line xs) (λ l ys. got (l ++ codes "|") ys)

-- a refusal and its place; two numbers; rows; a row of numbers
abbrev pub refusal_shown : List ℕ → List ℕ → Step (List ℕ)
refusal_shown line xs = and_then (spaced_shown (line ++ codes "refused") xs) (λ l ys. spaced_shown (l ++ codes " at") ys)

abbrev pub pair_shown : List ℕ → List ℕ → Step (List ℕ)
pair_shown line xs = and_then (number_shown line xs) spaced_shown

abbrev pub table_shown : List ℕ → List ℕ → Step (List ℕ)
table_shown line xs = counted row_shown (line ++ codes "rows |") xs

abbrev pub numbers_shown : List ℕ → List ℕ → Step (List ℕ)
numbers_shown line xs = counted spaced_shown (line ++ codes "numbers") xs

-- by the first byte
abbrev pub form_shown : List ℕ → List ℕ → Step (List ℕ)
form_shown line xs =
    pick (length xs == 0) (stop xs)
    (pick (slice_index xs 0 == 0) (refusal_shown line (drop 1 xs))
    (pick (slice_index xs 0 == 1) (number_shown line (drop 1 xs))
    (pick (slice_index xs 0 == 2) (pair_shown line (drop 1 xs))
    (pick (slice_index xs 0 == 3) (table_shown line (drop 1 xs))
    (pick (slice_index xs 0 == 4) (numbers_shown line (drop 1 xs))
    (stop xs))))))

-- the line of a whole answer, or what is left from the first part on that does not fit
abbrev pub answer_shown : List ℕ → Step (List ℕ)
answer_shown bs = and_then (form_shown [] bs) ended
