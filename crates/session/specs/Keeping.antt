-- The main promise: what a chain of calls answers, for every list of calls. Each of these is a statement, proved on a function's contract.
use Rattle.std.specs.Prelude.{◌≡◌, ℕ, min, true, List, [], ◌∷◌, ◌++◌, length, slice_index}
use Rattle.model.specs.Calls.{Call, Answer, refused, Desk, Limits, after, answer, new_desk}
use Rattle.model.specs.Promise.{GoodLimits, readable, Memory, Keeper, Right, EnoughMemory, RefusalKeeps}
use Rattle.codec.specs.Bytes.{call_bytes, answer_bytes}
use Rattle.codec.specs.Reading.{Reading, reading, call_is, ceases}
use Rattle.session.specs.Memory.{stage, cells_words, pieces_words, undo_words, limits_of, Sound, Stands}
use Rattle.session.specs.Contract.{Called, Fit, Opened}

-- Memory as one list of words: the pieces, which begin with the limits, then the cells and what can be undone, each just as long as asked for.
pub record Holds (m : Memory) (cs ps us : List ℕ) : Type 0 where
  pub words : m.words ≡ ps ++ (cs ++ us)
  pub cells : length cs ≡ cells_words (slice_index ps 0)
  pub pieces : length ps ≡ pieces_words (slice_index ps 1)
  pub undo : length us ≡ undo_words (slice_index ps 2)

-- memory after opening with the limits l, in slices that held anything before
pub record Opens (l : Limits) (m : Memory) : Type 0 where
  pub cells : List ℕ
  pub pieces : List ℕ
  pub undo : List ℕ
  pub cells_before : List ℕ
  pub pieces_before : List ℕ
  pub undo_before : List ℕ
  pub holds : Holds m cells pieces undo
  pub opened : Opened l.cells l.changes l.undos cells_before pieces_before undo_before cells pieces undo

-- memory after a call, and its answer
pub record Calls (cs ps us : List ℕ) (c : Call) (m : Memory) (a : Answer) : Type 0 where
  pub cells : List ℕ
  pub pieces : List ℕ
  pub undo : List ℕ
  pub holds : Holds m cells pieces undo
  pub called : Called cs ps us (call_bytes c) cells pieces undo (answer_bytes a)

-- a keeper that does what the contracts of open and call say
pub record Meets (e : Keeper) : Type 0 where
  pub opens : (l : Limits) → GoodLimits l → Opens l (e.opens l)
  pub calls : (m : Memory) (cs ps us : List ℕ) (c : Call) → Holds m cs ps us → Sound cs ps us → Fit cs ps us → readable c ≡ true → Calls cs ps us c (e.next m c) (e.says m c)

-- whoever does what the contracts say is right, has enough memory, and keeps memory where a call is turned away
abbrev pub MainPromise : Type 0
MainPromise = (e : Keeper) → Meets e → Right stage e × EnoughMemory e × RefusalKeeps stage e

-- The same with no keeper, and for any bytes. What a desk answers to a row of byte strings, of which some may be no calls:
abbrev pub byte_answer : Limits → Desk → Reading → List ℕ
byte_answer l d (ceases i) = answer_bytes (refused 1 (min i 4294967295))
byte_answer l d (call_is c) = answer_bytes (answer l d c)

abbrev pub byte_after : Limits → Desk → Reading → Desk
byte_after l d (ceases i) = d
byte_after l d (call_is c) = after l d c

unfoldable pub bytes_answers : Limits → Desk → List (List ℕ) → List (List ℕ)
bytes_answers l d [] = []
bytes_answers l d (bs ∷ bss) = byte_answer l d (reading bs) ∷ bytes_answers l (byte_after l d (reading bs)) bss

-- a chain of calls: memory before, the bytes of the calls, the bytes of the answers
pub data Chain : List ℕ → List ℕ → List ℕ → List (List ℕ) → List (List ℕ) → Type 0 where
  ends : {cs ps us : List ℕ} → Chain cs ps us [] []
  goes : {cs ps us cs' ps' us' bs rs : List ℕ} {bss rss : List (List ℕ)} → Called cs ps us bs cs' ps' us' rs → Chain cs' ps' us' bss rss → Chain cs ps us (bs ∷ bss) (rs ∷ rss)

-- in any chain of calls from any memory that stands for a desk the answers are that desk's
abbrev pub AnyChain : Type 0
AnyChain = (cs ps us : List ℕ) (d : Desk) (bss rss : List (List ℕ)) → Stands cs ps us d → Chain cs ps us bss rss → rss ≡ bytes_answers (limits_of ps) d bss

-- and from memory that was just opened they are the empty desk's, whatever stood there before
abbrev pub FromOpening : Type 0
FromOpening =
    (l : Limits) (cs ps us cs' ps' us' : List ℕ) (bss rss : List (List ℕ)) → l.calls_can ≡ stage → Opened l.cells l.changes l.undos cs ps us cs' ps' us' →
    Chain cs' ps' us' bss rss → rss ≡ bytes_answers l new_desk bss

-- there is a keeper that does what the contracts say
abbrev pub SomeKeeper : Type 0
SomeKeeper = (e : Keeper) × Meets e
