-- The numbers in a text: its words, which white space parts, each of them digits. Definitions only: nothing is assumed.
use Rattle.std.specs.Prelude.{◌≡◌, ℕ, ◌+◌, ◌-◌, ◌*◌, ◌<◌, ◌≤◌, Bool, ◌||◌, ◌⊎◌, List, [], ◌∷◌, ◌++◌, map, length, take, drop, ◌==◌, slice_index_or}
use Rattle.std.specs.List.{AllByRecursion}
use Rattle.model.specs.Paper.{pick}

-- space, newline, carriage return, tab
abbrev pub white : ℕ → Bool
white c = c == 32 || (c == 10 || (c == 13 || c == 9))

-- the words of a text of which the word w has begun, if it is not empty
abbrev pub ended : List ℕ → List (List ℕ) → List (List ℕ)
ended [] ws = ws
ended (c ∷ w) ws = (c ∷ w) ∷ ws

unfoldable pub words_after : List ℕ → List ℕ → List (List ℕ)
words_after w [] = ended w []
words_after w (c ∷ cs) = pick (white c) (ended w (words_after [] cs)) (words_after (w ++ (c ∷ [])) cs)

abbrev pub words : List ℕ → List (List ℕ)
words text = words_after [] text

-- what digits are worth that follow on digits worth v; 48 is the digit 0
unfoldable pub value_after : ℕ → List ℕ → ℕ
value_after v [] = v
value_after v (c ∷ cs) = value_after (10 * v + (c - 48)) cs

abbrev pub value : List ℕ → ℕ
value w = value_after 0 w

abbrev pub Digit : ℕ → Type 0
Digit c = (48 ≤ c) × (c ≤ 57)

-- a word that is a number: digits, of which the first may be 0, worth at most 4294967295
pub record WordFits (w : List ℕ) : Type 0 where
  pub digits : AllByRecursion Digit w
  pub small : value w < 4294967296

-- all n words of a text are numbers, and stand at the front of what was lent; the words after them are as they were
pub record AllRead (text old out : List ℕ) (n : ℕ) : Type 0 where
  pub count : length (words text) ≡ n
  pub room : n ≤ length old
  pub fit : AllByRecursion WordFits (words text)
  pub wrote : out ≡ map value (words text) ++ drop n old

-- The first n words of a text are numbers, and stand at the front of what was lent; the words after them are as they were.
-- Word n is not a number, or there is no room for it.
pub record Stops (text old out : List ℕ) (n : ℕ) : Type 0 where
  pub within : n < length (words text)
  pub room : n ≤ length old
  pub fit : AllByRecursion WordFits (take n (words text))
  pub wrote : out ≡ map value (take n (words text)) ++ drop n old
  pub why : (n ≡ length old) ⊎ (WordFits (slice_index_or (words text) n []) → ⊥)
