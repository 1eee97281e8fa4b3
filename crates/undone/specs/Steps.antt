-- A call that writes, then undo, then redo, on lent memory. Each of these is a statement, proved on a function's contract.
use Rattle.std.specs.Prelude.{◌≡◌, true, List, ℕ, suc, ◌≤◌, slice_index}
use Rattle.model.specs.Calls.{Call, undo, redo, Desk, how_much, turned, writes}
use Rattle.codec.specs.Bytes.{call_bytes}
use Rattle.codec.specs.Reading.{reading, call_is}
use Rattle.session.specs.Memory.{limits_of, paper_of, Stands}
use Rattle.session.specs.Contract.{Called}

-- A call with the bytes bs, that writes, is not turned away and counts no more than the limit, at a desk that memory stands for.
pub record Wrote (cs ps us bs cs₁ ps₁ us₁ rs₁ : List ℕ) (d : Desk) (c : Call) : Type 0 where
  pub stands : Stands cs ps us d
  pub reads : reading bs ≡ call_is c
  pub writing : writes c ≡ true
  pub allowed : turned (limits_of ps) d c ≡ 0
  pub within : suc (how_much d.now c) ≤ slice_index ps 2
  pub called : Called cs ps us bs cs₁ ps₁ us₁ rs₁

-- undo after it leaves the paper before it in memory
abbrev pub UndoBringsBack : Type 0
UndoBringsBack =
    (cs ps us bs cs₁ ps₁ us₁ rs₁ cs₂ ps₂ us₂ rs₂ : List ℕ) (d : Desk) (c : Call) → Wrote cs ps us bs cs₁ ps₁ us₁ rs₁ d c →
    Called cs₁ ps₁ us₁ (call_bytes undo) cs₂ ps₂ us₂ rs₂ → paper_of cs₂ ps₂ ≡ paper_of cs ps

-- and redo after that the paper after it
abbrev pub RedoDoesAgain : Type 0
RedoDoesAgain =
    (cs ps us bs cs₁ ps₁ us₁ rs₁ cs₂ ps₂ us₂ rs₂ cs₃ ps₃ us₃ rs₃ : List ℕ) (d : Desk) (c : Call) → Wrote cs ps us bs cs₁ ps₁ us₁ rs₁ d c →
    Called cs₁ ps₁ us₁ (call_bytes undo) cs₂ ps₂ us₂ rs₂ → Called cs₂ ps₂ us₂ (call_bytes redo) cs₃ ps₃ us₃ rs₃ → paper_of cs₃ ps₃ ≡ paper_of cs₁ ps₁
