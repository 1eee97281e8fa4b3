-- Cells in words: cell number a stands at the four words from 4 a on, as letter, style, put in, struck.
use Rattle.std.specs.Prelude.{◌≡◌, ℕ, zero, suc, ◌+◌, ◌*◌, ◌/◌, ◌<◌, ◌≤◌, List, [], ◌∷◌, length, slice_index}
use Rattle.model.specs.Paper.{Cell}

-- cell number a
unfoldable pub cell_at : List ℕ → ℕ → Cell
cell_at c a =
    record { letter = slice_index c (4 * a); style = slice_index c (4 * a + 1); put_in = slice_index c (4 * a + 2); struck = slice_index c (4 * a + 3) }

-- the n cells from number a on
unfoldable pub cells_at : List ℕ → ℕ → ℕ → List Cell
cells_at c a zero = []
cells_at c a (suc n) = cell_at c a ∷ cells_at c (suc a) n

-- all cells whose words there are
abbrev pub all_cells : List ℕ → List Cell
all_cells w = cells_at w 0 (length w / 4)

-- From c to d only the n cells from number a on may have changed: every other word is as it was.
pub record Kept (c d : List ℕ) (a n : ℕ) : Type 0 where
  pub long : length d ≡ length c
  pub below : (w : ℕ) → w < 4 * a → slice_index d w ≡ slice_index c w
  pub above : (w : ℕ) → 4 * (a + n) ≤ w → slice_index d w ≡ slice_index c w
