-- Letters in rows of a width, and where some letters stand first. Definitions only: nothing is assumed.
use Rattle.std.specs.Prelude.{ℕ, zero, suc, ◌+◌, ◌-◌, Bool, true, false, ◌&&◌, List, [], ◌∷◌, length, take, drop, ◌==◌, nat_le}
use Rattle.model.specs.Paper.{pick, Cell}

-- Of the first n cells: one more than the place of the first end of a paragraph (letter 10), or 0; i is the place of the first cell.
-- Below, the last space (letter 32) likewise; found is the answer so far.
unfoldable pub first_end : List Cell → ℕ → ℕ → ℕ
first_end [] n i = 0
first_end (x ∷ xs) zero i = 0
first_end (x ∷ xs) (suc n) i = pick (x.letter == 10) (suc i) (first_end xs n (suc i))

unfoldable pub last_space : List Cell → ℕ → ℕ → ℕ → ℕ
last_space [] n i found = found
last_space (x ∷ xs) zero i found = found
last_space (x ∷ xs) (suc n) i found = last_space xs n (suc i) (pick (x.letter == 32) (suc i) found)

-- A row has so many letters, and so many after it are not set: the end of a paragraph, or the space at which the row was broken.
pub record Cut : Type 0 where
  pub long : ℕ
  pub skips : ℕ

-- no end of a paragraph in reach and more letters than fit: broken at the last space among the first w + 1, or after w letters
unfoldable pub cut_after : ℕ → ℕ → Cut
cut_after w zero = record { long = w; skips = 0 }
cut_after w (suc s) = record { long = s; skips = 1 }

-- The first row of xs. It goes to the first end of a paragraph, if that is among the first w + 1 letters. Else, if w or fewer are left,
-- it has them all. Else it goes to the last space among the first w + 1; if there is none, it has w letters.
abbrev pub cut : ℕ → List Cell → Cut
cut w xs =
    pick (first_end xs (suc w) 0 == 0)
    (pick (nat_le (length xs) w) (record { long = length xs; skips = 0 }) (cut_after w (last_space xs (suc w) 0 0)))
    (record { long = first_end xs (suc w) 0 - 1; skips = 1 })

-- at most n rows
unfoldable pub rows_in : ℕ → ℕ → List Cell → List (List Cell)
rows_in zero w xs = []
rows_in (suc n) w [] = []
rows_in (suc n) w (x ∷ xs) =
    let c : Cut = cut w (x ∷ xs) in
    take c.long (x ∷ xs) ∷ rows_in n w (drop (c.long + c.skips) (x ∷ xs))

-- each row takes at least one cell, so there are at most as many rows as cells
abbrev pub rows : ℕ → List Cell → List (List Cell)
rows w xs = rows_in (length xs) w xs

-- the cells begin with these letters
unfoldable pub begins : List Cell → List ℕ → Bool
begins xs [] = true
begins [] (l ∷ ls) = false
begins (x ∷ xs) (l ∷ ls) = x.letter == l && begins xs ls

-- one more than the first place at or after `from` at which the letters stand, or 0; i is the place of the first cell
unfoldable pub find_in : List Cell → List ℕ → ℕ → ℕ → ℕ
find_in [] ls from i = pick (nat_le from i && begins [] ls) (suc i) 0
find_in (x ∷ xs) ls from i = pick (nat_le from i && begins (x ∷ xs) ls) (suc i) (find_in xs ls from (suc i))
