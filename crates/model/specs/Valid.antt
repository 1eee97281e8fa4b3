-- What holds of every paper that calls make. Nothing is assumed.
use Rattle.std.specs.Prelude.{◌≡◌, ℕ, zero, suc, Bool, true, ◌&&◌, List, [], ◌∷◌, length, ◌==◌, slice_index_or}
use Rattle.model.specs.Paper.{Cell, Change, Paper}
use Rattle.model.specs.Calls.{Call, Limits, fits, ran, new_desk}
use Rattle.model.specs.Promise.{below}

-- a cell's mark is none, or of a change that is there and open
unfoldable pub open_mark : List Change → ℕ → Bool
open_mark cs zero = true
open_mark cs (suc c) = (slice_index_or cs c (record { author = 0; became = 3 })).became == 0

unfoldable pub open_marks : List Cell → List Change → Bool
open_marks [] cs = true
open_marks (x ∷ xs) cs = (open_mark cs x.put_in && open_mark cs x.struck) && open_marks xs cs

-- It fits the limits; every mark is of one of its changes, and of an open one.
unfoldable pub ValidPapers : Type 0
ValidPapers =
    (l : Limits) (cs : List Call) → let p : Paper = (ran l new_desk cs).now in
    (fits l p ≡ true) × (below p.cells (length p.changes) ≡ true) × (open_marks p.cells p.changes ≡ true)
