-- What the desk's memory as one value stands for, and what becomes of it. Definitions only: nothing is assumed.
use Rattle.std.specs.Prelude.{◌≡◌, ℕ, ◌≤◌, List, length, take, drop, Ok, Err, Result}
use Rattle.model.specs.Paper.{Paper}
use Rattle.model.specs.Calls.{Call, Answer}
use Rattle.session.specs.declared.desk.Desk.{Desk}
use Rattle.session.specs.declared.refusal.Refusal.{Refusal}
use Rattle.session.specs.declared.refusal.Refusal.TheVariants.{NotACall}
use Rattle.codec.specs.Bytes.{answer_bytes}
use Rattle.codec.specs.Reading.{Reading, call_is, ceases}
use Rattle.session.specs.Acts.{Acted, Wrote}
use Rattle.session.specs.Contract.{Handled}
use Rattle.session.specs.Memory.{paper_of, Sound}
use Rattle.session.specs.Refusals.{refusal_told}

-- the paper that is kept there
abbrev pub paper_in : Desk → Paper
paper_in d = paper_of d.cells.now d.pieces.now

-- all of its memory is sound, the log too
abbrev pub InOrder : Desk → Type 0
InOrder d = Sound d.cells.now d.pieces.now d.undo.now

-- the same memory now holds the paper p; the log, the limits and the words beyond are as they were
pub record Writes (old new : Desk) (p : Paper) : Type 0 where
  pub same_cells : new.cells.ghost_name ≡ old.cells.ghost_name
  pub same_pieces : new.pieces.ghost_name ≡ old.pieces.ghost_name
  pub same_undo : new.undo.ghost_name ≡ old.undo.ghost_name
  pub wrote : Wrote old.cells.now old.pieces.now new.cells.now new.pieces.now p
  pub log : new.undo.now ≡ old.undo.now

-- a call was done or turned away in this memory, and the answer is a
pub record Acts (old new : Desk) (c : Call) (a : Answer) : Type 0 where
  pub same_cells : new.cells.ghost_name ≡ old.cells.ghost_name
  pub same_pieces : new.pieces.ghost_name ≡ old.pieces.ghost_name
  pub same_undo : new.undo.ghost_name ≡ old.undo.ghost_name
  pub handled : Handled old.cells.now old.pieces.now old.undo.now c new.cells.now new.pieces.now new.undo.now (answer_bytes a)

-- a call that only looks was done or turned away, and the answer is a
abbrev pub Looks : Desk → Call → Answer → Type 0
Looks d c a = Acted d.cells.now d.pieces.now c d.cells.now d.pieces.now a

-- a call was done or turned away, and its answer stands in the first r bytes of out; the bytes after them are as they were
pub record Said (cs ps us : List ℕ) (c : Call) (cs' ps' us' out out' : List ℕ) (r : ℕ) : Type 0 where
  pub handled : Handled cs ps us c cs' ps' us' (take r out')
  pub within : r ≤ length out
  pub rest : drop r out' ≡ drop r out

-- What a call ended with: its answer stands in the first bytes, and their number is the result; or it was turned away, and no byte was written.
abbrev pub Ended : (cs ps us : List ℕ) → Call → (cs' ps' us' out out' : List ℕ) → Result ℕ Refusal → Type 0
Ended cs ps us c cs' ps' us' out out' (Ok r) = Said cs ps us c cs' ps' us' out out' r
Ended cs ps us c cs' ps' us' out out' (Err e) = Handled cs ps us c cs' ps' us' (answer_bytes (refusal_told e)) × (out' ≡ out)

-- a call that only looks, whose answer is long, ended so
abbrev pub Tells : Desk → Call → (out out' : List ℕ) → Result ℕ Refusal → Type 0
Tells d c out out' r = Ended d.cells.now d.pieces.now d.undo.now c d.cells.now d.pieces.now d.undo.now out out' r

-- a call ended so in this memory
pub record Serves (old new : Desk) (c : Call) (out out' : List ℕ) (r : Result ℕ Refusal) : Type 0 where
  pub same_cells : new.cells.ghost_name ≡ old.cells.ghost_name
  pub same_pieces : new.pieces.ghost_name ≡ old.pieces.ghost_name
  pub same_undo : new.undo.ghost_name ≡ old.undo.ghost_name
  pub ended : Ended old.cells.now old.pieces.now old.undo.now c new.cells.now new.pieces.now new.undo.now out out' r

-- what the bytes that should be a call ended with
abbrev pub Tried : (cs ps us : List ℕ) → Reading → (cs' ps' us' out out' : List ℕ) → Result ℕ Refusal → Type 0
Tried cs ps us (ceases i) cs' ps' us' out out' r = (r ≡ Err (NotACall i)) × (cs' ≡ cs) × (ps' ≡ ps) × (us' ≡ us) × (out' ≡ out)
Tried cs ps us (call_is c) cs' ps' us' out out' r = Ended cs ps us c cs' ps' us' out out' r
