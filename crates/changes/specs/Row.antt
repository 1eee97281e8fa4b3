-- The row of changes in words, two for each: its author and what became of it. Definitions only: nothing is assumed.
use Rattle.std.specs.Prelude.{ℕ, zero, suc, ◌+◌, ◌*◌, List, [], ◌∷◌, slice_index}
use Rattle.model.specs.Paper.{Change}

abbrev pub change_at : List ℕ → ℕ → Change
change_at w k = record { author = slice_index w (2 * k); became = slice_index w (2 * k + 1) }

-- n changes from number k on
unfoldable pub changes_from : List ℕ → ℕ → ℕ → List Change
changes_from w k zero = []
changes_from w k (suc n) = change_at w k ∷ changes_from w (suc k) n

abbrev pub changes_of : List ℕ → ℕ → List Change
changes_of w n = changes_from w 0 n
