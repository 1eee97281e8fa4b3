-- What a record of a call does to the log of what can be undone. Definitions only: nothing is assumed.
use Rattle.std.specs.Prelude.{◌≡◌, ℕ, ◌+◌, ◌*◌, ◌/◌, ◌<◌, ◌≤◌, List, [], ◌∷◌, ◌++◌, length, take, drop}
use Rattle.std.specs.List.{between}
use Rattle.model.specs.Paper.{Cell, cells_written, touched}
use Rattle.model.specs.Calls.{Call, accepts, rejects}
use Rattle.history.specs.Entry.{Entry, marks_of}
use Rattle.history.specs.Steps.{kept}
use Rattle.history.specs.Words.{marks_written, payload_words}
use Rattle.history.specs.Log.{Log, Keeps, Room}
use Rattle.history.specs.Head.{head_of}
use Rattle.history.specs.declared.entry.Head.{Head}
use Rattle.model.specs.declared.verdict.Verdict.{Verdict}
use Rattle.model.specs.declared.verdict.Verdict.TheVariants.{Accepted, Rejected}

-- the entry becomes the latest of what can be undone; the oldest are forgotten beyond the limit, and with them all that could be done again
abbrev pub Records : List ℕ → List ℕ → ℕ → Entry → Type 0
Records u u' limit e = (back ahead : List Entry) → Log u limit back ahead → Log u' limit (kept limit (e ∷ back)) []

-- the words ws written over the first of the words u
abbrev pub written : List ℕ → List ℕ → List ℕ
written u ws = ws ++ drop (length ws) u

-- there is room at a for an entry with this head, and its words fit there
pub record Ready (w : List ℕ) (a : ℕ) (h : Head) : Type 0 where
  pub limit : ℕ
  pub keeps : Keeps w limit
  pub room : Room w limit h.count a
  pub some : 8 ≤ h.size
  pub most : h.size ≤ 8 * h.count

-- an entry whose letters, cells or marks stand there becomes the latest
abbrev pub Seals : List ℕ → List ℕ → ℕ → Head → Type 0
Seals w new a h =
    (limit : ℕ) (e : Entry) (back : List Entry) → h ≡ head_of e → Log w limit back [] → Room w limit h.count a →
    between (a + 7) (a + 7 + length (payload_words e)) w ≡ payload_words e → Log new limit (e ∷ back) []

-- the words of some of the cells xs from a place on, at most of so many
pub record Stretched (xs : List Cell) (place most : ℕ) (ws : List ℕ) : Type 0 where
  pub some : 0 < length ws
  pub few : length ws ≤ 4 * most
  pub words : ws ≡ cells_written (take (length ws / 4) (drop place xs))

-- the marks of the cells xs, of which the first has place i, are written; they are n
pub record Marked (u new : List ℕ) (xs : List Cell) (change i n : ℕ) : Type 0 where
  pub words : new ≡ written u (marks_written (marks_of xs change i))
  pub count : n ≡ touched xs change

-- what was decided, as a call
abbrev pub decided : Verdict → ℕ → Call
decided Accepted c = accepts c
decided Rejected c = rejects c
