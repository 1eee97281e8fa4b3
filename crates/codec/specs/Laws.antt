-- That bytes and calls, and bytes and answers, belong to one another in one way only. Each is a statement, proved on a function's contract.
use Rattle.std.specs.Prelude.{◌≡◌, ℕ, true, List}
use Rattle.model.specs.Calls.{Call, Answer}
use Rattle.model.specs.Promise.{readable, all_below}
use Rattle.codec.specs.Bytes.{call_bytes, answer_bytes}
use Rattle.codec.specs.Reading.{reading, call_is}

-- a call is readable if, and only if, its bytes are bytes
abbrev pub ReadableIs : Type 0
ReadableIs = (c : Call) → readable c ≡ all_below 256 (call_bytes c)

-- the bytes of a call whose numbers fit four bytes and whose letters fit one are read as that call
abbrev pub ReadsBack : Type 0
ReadsBack = (c : Call) → readable c ≡ true → reading (call_bytes c) ≡ call_is c

-- no other bytes are read as that call, and no call is read that bytes cannot carry
abbrev pub ReadsOnly : Type 0
ReadsOnly = (bs : List ℕ) (c : Call) → all_below 256 bs ≡ true → reading bs ≡ call_is c → (bs ≡ call_bytes c) × (readable c ≡ true)

-- two answers with the same bytes are the same answer, however large their numbers
abbrev pub OneAnswer : Type 0
OneAnswer = (a b : Answer) → answer_bytes a ≡ answer_bytes b → a ≡ b
