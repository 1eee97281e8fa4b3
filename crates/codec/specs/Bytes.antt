-- Calls and answers as bytes. A call is a byte that says which, and its fields, four bytes each, low byte first; the letters of put and find
-- come last, one byte each, with their count in the last field. An answer is a byte that says which of the five forms, and its numbers likewise.
-- Definitions only: nothing is assumed.
use Rattle.std.specs.Prelude.{ℕ, ◌/◌, ◌%◌, List, [], ◌∷◌, ◌++◌, length}
use Rattle.model.specs.Paper.{Cell}
use Rattle.model.specs.Calls.{Call, put, strikes, accepts, rejects, styles, undo, redo, show, find, count, change, save, Answer, refused, number, two, lines, numbers}

-- A number in four bytes, low byte first. The last takes all that is left, so that two numbers with the same bytes are the same number.
unfoldable pub word_bytes : ℕ → List ℕ
word_bytes n = n % 256 ∷ (n / 256 % 256 ∷ (n / 65536 % 256 ∷ (n / 16777216 ∷ [])))

unfoldable pub words_bytes : List ℕ → List ℕ
words_bytes [] = []
words_bytes (n ∷ ns) = word_bytes n ++ words_bytes ns

unfoldable pub call_bytes : Call → List ℕ
call_bytes (put a i s ls) = 0 ∷ (words_bytes (a ∷ (i ∷ (s ∷ (length ls ∷ [])))) ++ ls)
call_bytes (strikes a i n) = 1 ∷ words_bytes (a ∷ (i ∷ (n ∷ [])))
call_bytes (accepts c) = 2 ∷ words_bytes (c ∷ [])
call_bytes (rejects c) = 3 ∷ words_bytes (c ∷ [])
call_bytes (styles i n s) = 4 ∷ words_bytes (i ∷ (n ∷ (s ∷ [])))
call_bytes undo = 5 ∷ []
call_bytes redo = 6 ∷ []
call_bytes (show k w r n) = 7 ∷ words_bytes (k ∷ (w ∷ (r ∷ (n ∷ []))))
call_bytes (find k i ls) = 8 ∷ (words_bytes (k ∷ (i ∷ (length ls ∷ []))) ++ ls)
call_bytes (count k) = 9 ∷ words_bytes (k ∷ [])
call_bytes (change c) = 10 ∷ words_bytes (c ∷ [])
call_bytes (save i n) = 11 ∷ words_bytes (i ∷ (n ∷ []))

-- a cell is four numbers, as in a paper's file; a row is the count of its cells and these
unfoldable pub cells_bytes : List Cell → List ℕ
cells_bytes [] = []
cells_bytes (x ∷ xs) = words_bytes (x.letter ∷ (x.style ∷ (x.put_in ∷ (x.struck ∷ [])))) ++ cells_bytes xs

unfoldable pub rows_bytes : List (List Cell) → List ℕ
rows_bytes [] = []
rows_bytes (r ∷ rs) = word_bytes (length r) ++ (cells_bytes r ++ rows_bytes rs)

unfoldable pub answer_bytes : Answer → List ℕ
answer_bytes (refused n i) = 0 ∷ words_bytes (n ∷ (i ∷ []))
answer_bytes (number n) = 1 ∷ words_bytes (n ∷ [])
answer_bytes (two m n) = 2 ∷ words_bytes (m ∷ (n ∷ []))
answer_bytes (lines rs) = 3 ∷ (word_bytes (length rs) ++ rows_bytes rs)
answer_bytes (numbers ns) = 4 ∷ (word_bytes (length ns) ++ words_bytes ns)
