-- Deciding many changes: any list of them, in any order. Nothing is assumed.
use Rattle.std.specs.Prelude.{◌≡◌, ℕ, Bool, true, false, not, ◌&&◌, ◌||◌, List, [], ◌∷◌, ◌==◌}
use Rattle.model.specs.Paper.{pick, Cell, Paper}
use Rattle.model.specs.Calls.{Call, accepts, rejects, Desk, Limits, rewritten, fits, ran}
use Rattle.model.specs.Promise.{decided}

-- a change, by its number, is accepted or rejected
pub record Decision : Type 0 where
  pub change : ℕ
  pub accepts : Bool

-- the call that makes a decision
abbrev pub call_of : Decision → Call
call_of d = pick d.accepts (accepts d.change) (rejects d.change)

unfoldable pub calls_of : List Decision → List Call
calls_of [] = []
calls_of (d ∷ ds) = call_of d ∷ calls_of ds

-- the decisions one after the other: what they make of cells, and of a whole paper
unfoldable pub all_done : List Decision → List Cell → List Cell
all_done [] xs = xs
all_done (d ∷ ds) xs = all_done ds (decided d.accepts xs d.change)

unfoldable pub all_rewritten : List Decision → Paper → Paper
all_rewritten [] p = p
all_rewritten (d ∷ ds) p = all_rewritten ds (rewritten p (call_of d))

-- one of them is on change number c
unfoldable pub decides : List Decision → ℕ → Bool
decides [] c = false
decides (d ∷ ds) c = d.change == c || decides ds c

-- no two of them are on the same change
unfoldable pub distinct : List Decision → Bool
distinct [] = true
distinct (d ∷ ds) = not (decides ds d.change) && distinct ds

-- the same decisions in another order
pub data Reordered : List Decision → List Decision → Type 0 where
  same : {ds : List Decision} → Reordered ds ds
  skip : {d : Decision} {ds es : List Decision} → Reordered ds es → Reordered (d ∷ ds) (d ∷ es)
  swap : {d e : Decision} {ds : List Decision} → Reordered (d ∷ (e ∷ ds)) (e ∷ (d ∷ ds))
  trans : {ds es fs : List Decision} → Reordered ds es → Reordered es fs → Reordered ds fs

-- It does not matter in which order any list of distinct changes is decided: the cells are the same, the papers are the same, and so are
-- the papers on a desk after the calls that decide them, whichever of these are turned away.
unfoldable pub AnyListOrder : Type 0
AnyListOrder =
    (ds es : List Decision) → Reordered ds es → distinct ds ≡ true →
    ((xs : List Cell) → all_done ds xs ≡ all_done es xs)
    × ((p : Paper) → all_rewritten ds p ≡ all_rewritten es p)
    × ((l : Limits) (d : Desk) → fits l d.now ≡ true → (ran l d (calls_of ds)).now ≡ (ran l d (calls_of es)).now)
