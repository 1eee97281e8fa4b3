-- Rows letter by letter: what one letter, and what a row of letters, does to a row that has begun. Definitions only: nothing is assumed.
use Rattle.std.specs.Prelude.{ℕ, zero, suc, ◌+◌, ◌-◌, List, [], ◌∷◌, ◌==◌, nat_le}
use Rattle.model.specs.Paper.{pick, Cell}
use Rattle.breaks.specs.declared.Begun.{Begun}
use Rattle.breaks.specs.declared.Reached.{Reached}

-- a row without letters, as at the start of a text
abbrev pub fresh : Begun
fresh = record { long = 0; space = 0 }

-- how many letters the first row takes of one that is too long: it is broken behind its last space, or after w letters where it has none
unfoldable pub break_at : ℕ → ℕ → ℕ
break_at w zero = w
break_at w (suc s) = suc s

-- After letter l. The end of a paragraph (letter 10) ends the row; sp is the last space (letter 32) of the row with the letter. If the row has
-- w letters at most, it goes on; else it is broken, and what stands behind the break has begun the next row, with no space in it.
unfoldable pub passed : ℕ → Begun → ℕ → Reached
passed w b l =
    let sp : ℕ = pick (l == 32) (suc b.long) b.space in
    pick (l == 10) (record { rows = 1; begun = fresh })
    (pick (nat_le (suc b.long) w) (record { rows = 0; begun = record { long = suc b.long; space = sp } })
    (record { rows = 1; begun = record { long = suc b.long - break_at w sp; space = 0 } }))

-- after all letters of xs
unfoldable pub scan : ℕ → Begun → List Cell → Reached
scan w b [] = record { rows = 0; begun = b }
scan w b (x ∷ xs) =
    let r : Reached = passed w b x.letter in
    let t : Reached = scan w r.begun xs in
    record { rows = r.rows + t.rows; begun = t.begun }
