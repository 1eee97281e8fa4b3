-- One step through a text: past white space, and past one word. Definitions only: nothing is assumed.
use Rattle.std.specs.Prelude.{◌≡◌, ℕ, ◌<◌, ◌≤◌, false, List, ◌∷◌, length, slice_index}
use Rattle.file.specs.Words.{white, words, value, WordFits}

-- `rest` is what is left of a text behind the white space that it begins with
pub record PastWhite (text rest : List ℕ) : Type 0 where
  pub same : words rest ≡ words text
  pub within : length rest ≤ length text
  pub next : 0 < length rest → white (slice_index rest 0) ≡ false

-- the first word of a text is a number, worth v, and `rest` is what is left behind it
pub record NumberAt (text : List ℕ) (v : ℕ) (rest : List ℕ) : Type 0 where
  pub word : List ℕ
  pub is : words text ≡ word ∷ words rest
  pub fits : WordFits word
  pub worth : v ≡ value word
  pub shorter : length rest < length text

-- the first word of a text is no number
pub record NoNumber (text : List ℕ) : Type 0 where
  pub word : List ℕ
  pub more : List (List ℕ)
  pub is : words text ≡ word ∷ more
  pub fits : WordFits word → ⊥
