-- What the parts of the program promise. Definitions only: nothing is assumed.
use Rattle.std.specs.Prelude.{◌≡◌, ℕ, true, false, List, [], ◌∷◌, ◌++◌, Result, MatchResult}
use Rattle.model.specs.Paper.{pick}
use Rattle.model.specs.Calls.{Call, Desk, Limits as DeskLimits, after, answer, ran, new_desk}
use Rattle.codec.specs.Bytes.{call_bytes}
use Rattle.session.specs.Contract.{good_limits}
use Rattle.session.specs.declared.Limits.{Limits}
use Rattle.text.specs.Lines.{Reading, means, line_reading, Lacks}
use Rattle.text.specs.declared.fault.Fault.{Fault}
use Rattle.session.specs.declared.refusal.Refusal.{Refusal}
use Rattle.session.specs.declared.refusal.Refusal.TheVariants.{LimitsOutOfRange, TooLittleMemory}
use Rattle.session.specs.Refusals.{refusal_told}
use Rattle.transcript.specs.declared.open.OpenDesk.{OpenDesk}
use Rattle.transcript.specs.Open.{limits_at, StandsFor}
use Rattle.transcript.specs.Transcript.{room_for, line_answer, line_after, line_answers, answers_after, told_line, told_lines}

-- bytes were appended, or there is no memory
abbrev pub Appends : List ℕ → List ℕ → List ℕ → Result (Unit {0}) Fault → Type 0
Appends bs out out' r = MatchResult r (λ _. out' ≡ out ++ bs) Lacks

-- a desk that calls made from a new one
abbrev pub Reached : DeskLimits → Desk → Type 0
Reached l d = (cs : List Call) × (d ≡ ran l new_desk cs)

-- A call was done: where the bytes are those of a call, at any such desk that the memory m stood for, its answer was appended, and the memory
-- m' stands for the desk after it.
pub record CallDone (m : OpenDesk) (bs out : List ℕ) (m' : OpenDesk) (out' : List ℕ) (r : Result (Unit {0}) Fault) : Type 0 where
  pub limits : limits_at m' ≡ limits_at m
  pub call : (c : Call) → bs ≡ call_bytes c → (d : Desk) → Reached (limits_at m) d → StandsFor m d →
      MatchResult r (λ _. (out' ≡ out ++ told_line (answer (limits_at m) d c)) × StandsFor m' (after (limits_at m) d c)) Lacks

-- One line was answered: likewise.
pub record Answered (m : OpenDesk) (line out : List ℕ) (m' : OpenDesk) (out' : List ℕ) (r : Result (Unit {0}) Fault) : Type 0 where
  pub limits : limits_at m' ≡ limits_at m
  pub answers : (d : Desk) → Reached (limits_at m) d → StandsFor m d →
      MatchResult r (λ _. (out' ≡ out ++ told_line (line_answer (limits_at m) d (line_reading line))) × StandsFor m' (line_after (limits_at m) d (line_reading line))) Lacks

-- Some lines were answered: the memory m' stands for a desk at which any lines after them are answered as they would have been from the start.
pub record Going (m : OpenDesk) (out : List ℕ) (done : List (List ℕ)) (m' : OpenDesk) (out' : List ℕ) : Type 0 where
  pub limits : limits_at m' ≡ limits_at m
  pub going : (d : Desk) → Reached (limits_at m) d → StandsFor m d →
      (e : Desk) × Reached (limits_at m) e × StandsFor m' e
      × ((rest : List (List ℕ)) → out' ++ told_lines (line_answers (limits_at m) e rest) ≡ out ++ told_lines (line_answers (limits_at m) d (done ++ rest)))

-- There is room for limits, or they are refused: because no desk can have them, or else because there is no room.
abbrev pub RoomFound : (n c u : ℕ) → Result (Unit {0}) Refusal → Type 0
RoomFound n c u r = MatchResult r (λ _. room_for n c u ≡ true) (λ e. (room_for n c u ≡ false) × (e ≡ pick (good_limits n c u) TooLittleMemory LimitsOutOfRange))

-- The limits of a first line, for which there is room, or the refusal that is the only answer to the file.
abbrev pub LimitsFound : Reading (List ℕ) → Result Limits Refusal → Type 0
LimitsFound rd r =
    MatchResult r (λ l. (rd ≡ means (l.cells ∷ (l.changes ∷ (l.undos ∷ [])))) × (room_for l.cells l.changes l.undos ≡ true))
    (λ e. (lines : List (List ℕ)) → answers_after rd lines ≡ refusal_told e ∷ [])
