-- What open and call promise of lent memory and of the answer. Definitions only: nothing is assumed.
use Rattle.std.specs.Prelude.{◌≡◌, ℕ, ◌<◌, min, Bool, true, false, ◌&&◌, List, ◌++◌, length, drop, Ok, Err, Result, nat_le, slice_index}
use Rattle.model.specs.Paper.{pick}
use Rattle.model.specs.Calls.{Call, refused, Desk, Limits, turned, after, answer, new_desk}
use Rattle.codec.specs.Bytes.{answer_bytes}
use Rattle.codec.specs.Reading.{Reading, reading, call_is, ceases}
use Rattle.session.specs.Memory.{cells_words, pieces_words, undo_words, limits_of, Sound, Stands, opened_cells, opened_pieces, opened_undo}
use Rattle.session.specs.declared.refusal.Refusal.{Refusal}
use Rattle.session.specs.declared.refusal.Refusal.TheVariants.{LimitsOutOfRange, TooLittleMemory}

-- A call that can be read, at a desk that memory stands for: memory then stands for the desk after it, the answer is the desk's, and a
-- call that is turned away has changed no word.
pub record Done (cs ps us : List ℕ) (d : Desk) (c : Call) (cs' ps' us' rs : List ℕ) : Type 0 where
  pub stands : Stands cs' ps' us' (after (limits_of ps) d c)
  pub limits : limits_of ps' ≡ limits_of ps
  pub says : rs ≡ answer_bytes (answer (limits_of ps) d c)
  pub kept : 0 < turned (limits_of ps) d c → (cs' ≡ cs) × (ps' ≡ ps) × (us' ≡ us)

-- Bytes that are no call are refused by 1 at the first that does not fit (4294967295 where that does not fit four bytes), and change no word.
abbrev pub Does : Reading → (cs ps us cs' ps' us' rs : List ℕ) → Type 0
Does (ceases i) cs ps us cs' ps' us' rs = (cs' ≡ cs) × (ps' ≡ ps) × (us' ≡ us) × (rs ≡ answer_bytes (refused 1 (min i 4294967295)))
Does (call_is c) cs ps us cs' ps' us' rs = (d : Desk) → Stands cs ps us d → Done cs ps us d c cs' ps' us' rs

-- the words beyond what the limits ask for stay as they were
pub record Beyond (cs ps us cs' ps' us' : List ℕ) (l : Limits) : Type 0 where
  pub cells : drop (cells_words l.cells) cs' ≡ drop (cells_words l.cells) cs
  pub pieces : drop (pieces_words l.changes) ps' ≡ drop (pieces_words l.changes) ps
  pub undo : drop (undo_words l.undos) us' ≡ drop (undo_words l.undos) us
  pub cells_length : length cs' ≡ length cs
  pub pieces_length : length ps' ≡ length ps
  pub undo_length : length us' ≡ length us

-- A call that could be read, at every desk that memory stands for; rs are the bytes of its answer.
pub record Handled (cs ps us : List ℕ) (c : Call) (cs' ps' us' rs : List ℕ) : Type 0 where
  pub does : (d : Desk) → Stands cs ps us d → Done cs ps us d c cs' ps' us' rs
  pub beyond : Beyond cs ps us cs' ps' us' (limits_of ps)

-- every word fits four bytes
abbrev pub Fit : List ℕ → List ℕ → List ℕ → Type 0
Fit cs ps us = ((i : ℕ) → slice_index cs i < 4294967296) × ((i : ℕ) → slice_index ps i < 4294967296) × ((i : ℕ) → slice_index us i < 4294967296)

-- What a call with the bytes bs does to sound memory, and the bytes rs that it answers.
pub record Called (cs ps us bs cs' ps' us' rs : List ℕ) : Type 0 where
  pub does : Does (reading bs) cs ps us cs' ps' us' rs
  pub sound : Sound cs' ps' us'
  pub limits : limits_of ps' ≡ limits_of ps
  pub beyond : Beyond cs ps us cs' ps' us' (limits_of ps)
  pub fit : Fit cs' ps' us'

-- limits n, c, u that a desk can be opened with
abbrev pub good_limits : ℕ → ℕ → ℕ → Bool
good_limits n c u = nat_le n 1000000 && (nat_le c 65536 && nat_le u 1000000)

-- slices that are as long as these limits ask for
abbrev pub enough : ℕ → ℕ → ℕ → List ℕ → List ℕ → List ℕ → Bool
enough n c u cs ps us = nat_le (cells_words n) (length cs) && (nat_le (pieces_words c) (length ps) && nat_le (undo_words u) (length us))

-- Memory that was opened: every word that was asked for is known from the limits alone, and it stands for the empty desk.
pub record Opened (n c u : ℕ) (cs ps us cs' ps' us' : List ℕ) : Type 0 where
  pub cells : cs' ≡ opened_cells n ++ drop (cells_words n) cs
  pub pieces : ps' ≡ opened_pieces n c u ++ drop (pieces_words c) ps
  pub undo : us' ≡ opened_undo u ++ drop (undo_words u) us
  pub stands : Stands cs' ps' us' new_desk
  pub fit : Fit cs' ps' us'

-- What open does: it refuses limits out of range (3 at 1), and else too little memory (3 at 0), and changes no word; or it opens.
abbrev pub Opening : Result (Unit {0}) Refusal → (n c u : ℕ) (cs ps us cs' ps' us' : List ℕ) → Type 0
Opening (Ok _) n c u cs ps us cs' ps' us' = (good_limits n c u && enough n c u cs ps us ≡ true) × Opened n c u cs ps us cs' ps' us'
Opening (Err r) n c u cs ps us cs' ps' us' =
    (good_limits n c u && enough n c u cs ps us ≡ false) × (r ≡ pick (good_limits n c u) TooLittleMemory LimitsOutOfRange) × (cs' ≡ cs) × (ps' ≡ ps) × (us' ≡ us)
