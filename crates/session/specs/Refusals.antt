-- The number and the place of each refusal, and what a call ends with. Definitions only: nothing is assumed.
use Rattle.std.specs.Prelude.{ℕ, min, Ok, Err, Result}
use Rattle.model.specs.Calls as model
use Rattle.codec.specs.Values.{told}
use Rattle.codec.specs.declared.Answer.{Answer}
use Rattle.session.specs.declared.refusal.Refusal.{Refusal}
use Rattle.session.specs.declared.refusal.Refusal.TheVariants.{NotACall, OutOfRange, LimitsOutOfRange, TooLittleMemory, NoSuchCells, NoSuchChange, NotOpen, NothingToUndo, NothingToRedo, NoSuchRows, NoSuchNumbers, PastLimits}

abbrev pub refusal_number : Refusal → ℕ
refusal_number (NotACall at) = 1
refusal_number OutOfRange = 2
refusal_number LimitsOutOfRange = 3
refusal_number TooLittleMemory = 3
refusal_number (NoSuchCells field) = 4
refusal_number NoSuchChange = 5
refusal_number NotOpen = 6
refusal_number NothingToUndo = 7
refusal_number NothingToRedo = 7
refusal_number NoSuchRows = 8
refusal_number NoSuchNumbers = 8
refusal_number PastLimits = 9

-- a place that does not fit four bytes is told as 4294967295
abbrev pub refusal_place : Refusal → ℕ
refusal_place (NotACall at) = min at 4294967295
refusal_place OutOfRange = 0
refusal_place LimitsOutOfRange = 1
refusal_place TooLittleMemory = 0
refusal_place (NoSuchCells field) = field
refusal_place NoSuchChange = 0
refusal_place NotOpen = 0
refusal_place NothingToUndo = 0
refusal_place NothingToRedo = 0
refusal_place NoSuchRows = 2
refusal_place NoSuchNumbers = 0
refusal_place PastLimits = 0

-- the model's answer that a refusal is
abbrev pub refusal_told : Refusal → model.Answer
refusal_told r = model.refused (refusal_number r) (refusal_place r)

-- the model's answer for what a call ends with
abbrev pub outcome : Result Answer Refusal → model.Answer
outcome (Ok answer) = told answer
outcome (Err refusal) = refusal_told refusal
