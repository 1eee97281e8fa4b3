-- Which call some bytes are, or at which byte they cease to be one. Definitions only: nothing is assumed.
use Rattle.std.specs.Prelude.{ℕ, ◌+◌, ◌*◌, ◌||◌, List, length, drop, ◌==◌, nat_le, nat_lt, slice_index, slice_index_or}
use Rattle.model.specs.Paper.{pick}
use Rattle.model.specs.Calls.{Call, put, strikes, accepts, rejects, styles, undo, redo, show, find, count, change, save}

pub data Reading : Type 0 where
  call_is : Call → Reading
  ceases : ℕ → Reading

-- the number in the four bytes from place i on, low byte first
abbrev pub word_at : List ℕ → ℕ → ℕ
word_at bs i = slice_index bs i + (256 * slice_index bs (i + 1) + (65536 * slice_index bs (i + 2) + 16777216 * slice_index bs (i + 3)))

-- field number k of a call: the first byte stands before the fields
abbrev pub field : List ℕ → ℕ → ℕ
field bs k = word_at bs (1 + 4 * k)

-- by the first byte t: how many bytes come before the letters, one and four for each field
abbrev pub head_length : ℕ → ℕ
head_length t =
    pick (t == 0) 17 (pick (t == 1) 13 (pick (t == 2) 5 (pick (t == 3) 5 (pick (t == 4) 13 (pick (t == 5) 1 (pick (t == 6) 1
    (pick (t == 7) 17 (pick (t == 8) 13 (pick (t == 9) 5 (pick (t == 10) 5 9))))))))))

-- how many letters there should be: put and find say so in their last field
abbrev pub letter_count : List ℕ → ℕ
letter_count bs = pick (slice_index bs 0 == 0) (field bs 3) (pick (slice_index bs 0 == 8) (field bs 2) 0)

abbrev pub whole_length : List ℕ → ℕ
whole_length bs = head_length (slice_index bs 0) + letter_count bs

-- the call that begins with these bytes and has the letters ls
abbrev pub call_of : List ℕ → List ℕ → Call
call_of bs ls =
    let t : ℕ = slice_index_or bs 0 0 in
    pick (t == 0) (put (field bs 0) (field bs 1) (field bs 2) ls)
    (pick (t == 1) (strikes (field bs 0) (field bs 1) (field bs 2))
    (pick (t == 2) (accepts (field bs 0))
    (pick (t == 3) (rejects (field bs 0))
    (pick (t == 4) (styles (field bs 0) (field bs 1) (field bs 2))
    (pick (t == 5) undo
    (pick (t == 6) redo
    (pick (t == 7) (show (field bs 0) (field bs 1) (field bs 2) (field bs 3))
    (pick (t == 8) (find (field bs 0) (field bs 1) ls)
    (pick (t == 9) (count (field bs 0))
    (pick (t == 10) (change (field bs 0))
    (save (field bs 0) (field bs 1))))))))))))

-- No byte, or none of the twelve first bytes: they cease at 0. Too short for the fields, or for the letters: at the end of what came.
-- Longer than the call: at the first byte too many.
unfoldable pub reading : List ℕ → Reading
reading bs =
    pick (length bs == 0 || nat_le 12 (slice_index bs 0)) (ceases 0)
    (pick (nat_lt (length bs) (head_length (slice_index bs 0))) (ceases (length bs))
    (pick (nat_lt (length bs) (whole_length bs)) (ceases (length bs))
    (pick (nat_lt (whole_length bs) (length bs)) (ceases (whole_length bs))
    (call_is (call_of bs (drop (head_length (slice_index bs 0)) bs))))))
