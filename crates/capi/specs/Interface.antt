-- What the C interface returns, and what it does to lent memory. Definitions only: nothing is assumed.
use Rattle.std.specs.Prelude.{◌≡◌, ℕ, ◌+◌, ◌*◌, ◌≤◌, Bool, true, false, ◌&&◌, List, length, take, drop, ℤ, pos, negsuc, neg_ℤ, Ok, Err, Result, ◌==◌, nat_le, slice_index, MatchResult}
use Rattle.model.specs.Paper.{pick}
use Rattle.session.specs.Memory.{Sound, cells_words, pieces_words, undo_words}
use Rattle.session.specs.Contract.{Called, Opening, enough, good_limits}
use Rattle.session.specs.Refusals.{refusal_number, refusal_place}
use Rattle.session.specs.declared.refusal.Refusal.{Refusal}
use Rattle.capi.specs.declared.Slice.{Slice}
use Rattle.capi.specs.declared.Slice.TheVariants.{Cells, Pieces, Undo}
use Rattle.capi.specs.declared.UnknownSlice.{UnknownSlice}

-- a refusal as one number: -(refusal * 2^32 + place)
abbrev pub code : ℕ → ℕ → ℤ
code refusal place = neg_ℤ (pos (refusal * 4294967296 + place))

-- the number of a slice
abbrev pub slice_number : Slice → ℕ
slice_number Cells = 0
slice_number Pieces = 1
slice_number Undo = 2

-- a number is that of the slice which is found, and where none is found it is past them all
abbrev pub NamesSlice : ℕ → Result Slice UnknownSlice → Type 0
NamesSlice n r = MatchResult r (λ slice. slice_number slice ≡ n) (λ e. (e.0 ≡ n) × (3 ≤ n))

-- how many words the slice 0, 1 or 2 has to have
abbrev pub slice_words : ℕ → ℕ → ℕ → ℕ → ℕ
slice_words which n c u = pick (which == 0) (cells_words n) (pick (which == 1) (pieces_words c) (undo_words u))

-- What desk_words returns: a slice that is not there is refused by 2 at 0, limits out of range by 3 at 1.
abbrev pub words_told : ℕ → ℕ → ℕ → ℕ → ℤ
words_told which n c u = pick (nat_le which 2) (pick (good_limits n c u) (pos (slice_words which n c u)) (code 3 1)) (code 2 0)

-- what desk_open returns for how the session's open ended
abbrev pub open_told : Result (Unit {0}) Refusal → ℤ
open_told (Ok _) = pos 0
open_told (Err e) = code (refusal_number e) (refusal_place e)

-- What desk_open does: what the session's open does, whose end it tells.
pub record OpenReturns (r : ℤ) (n c u : ℕ) (cs ps us cs' ps' us' : List ℕ) : Type 0 where
  pub end : Result (Unit {0}) Refusal
  pub tells : r ≡ open_told end
  pub opening : Opening end n c u cs ps us cs' ps' us'

-- memory with limits in it that a desk can be opened with, and as long as they ask for
abbrev pub long_enough : List ℕ → List ℕ → List ℕ → Bool
long_enough cs ps us = nat_le 3 (length ps) && (good_limits (slice_index ps 0) (slice_index ps 1) (slice_index ps 2) && enough (slice_index ps 0) (slice_index ps 1) (slice_index ps 2) cs ps us)

-- What desk_call asks of memory: that is sound if it is long enough.
abbrev pub Callable : List ℕ → List ℕ → List ℕ → Type 0
Callable cs ps us = long_enough cs ps us ≡ true → Sound cs ps us

-- the session's call was done, and r is the length of its answer, which stands in the first bytes; those after it are as they were
pub record Answered (r : ℤ) (cs ps us bs out cs' ps' us' out' : List ℕ) : Type 0 where
  pub long : ℕ
  pub tells : r ≡ pos long
  pub within : long ≤ length out
  pub called : Called cs ps us bs cs' ps' us' (take long out')
  pub rest : drop long out' ≡ drop long out

-- What desk_call does, by whether memory and the bytes for the answer are long enough: it answers, or returns -1 and touches nothing.
abbrev pub CallReturns : Bool → ℤ → (cs ps us bs out cs' ps' us' out' : List ℕ) → Type 0
CallReturns true r cs ps us bs out cs' ps' us' out' = Answered r cs ps us bs out cs' ps' us' out'
CallReturns false r cs ps us bs out cs' ps' us' out' = (r ≡ negsuc 0) × (cs' ≡ cs) × (ps' ≡ ps) × (us' ≡ us) × (out' ≡ out)

-- what desk_call asks for holds of all that desk_open opened, and of all that desk_call leaves
abbrev pub StaysCallable : Type 0
StaysCallable =
    ((n c u : ℕ) (cs ps us cs' ps' us' : List ℕ) → OpenReturns (pos 0) n c u cs ps us cs' ps' us' → Callable cs' ps' us')
    × ((b : Bool) (r : ℤ) (cs ps us bs out cs' ps' us' out' : List ℕ) → Callable cs ps us → CallReturns b r cs ps us bs out cs' ps' us' out' → Callable cs' ps' us')
