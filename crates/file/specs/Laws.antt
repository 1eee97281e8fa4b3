-- What the words of a text are, and that files and papers belong to one another in one way only. Each is a statement, proved on a function's contract.
use Rattle.std.specs.Prelude.{◌≡◌, ℕ, ◌<◌, true, false, List, [], ◌∷◌, ◌++◌, length}
use Rattle.std.specs.List.{AllByRecursion}
use Rattle.model.specs.Paper.{Paper, written}
use Rattle.file.specs.Paper.{Fits, paper_of, IsFile, Ceases}
use Rattle.file.specs.Words.{white, words}

-- no white space
abbrev pub Solid : ℕ → Type 0
Solid c = white c ≡ false

-- The words of a text: white space is no word; what has no white space in it, and stands before white space or at the end, is one.
pub record WordsAre : Type 0 where
  pub none : words [] ≡ []
  pub blank : (c : ℕ) (text : List ℕ) → white c ≡ true → words (c ∷ text) ≡ words text
  pub last : (w : List ℕ) → 0 < length w → AllByRecursion Solid w → words w ≡ w ∷ []
  pub first : (w : List ℕ) (c : ℕ) (text : List ℕ) → 0 < length w → AllByRecursion Solid w → white c ≡ true → words (w ++ (c ∷ text)) ≡ w ∷ words text

-- what is read from the file of a paper that fits is that paper
abbrev pub ReadsBack : Type 0
ReadsBack =
    (p : Paper) → Fits p → let n : ℕ = length p.changes in let m : ℕ = length p.cells in
    (paper_of (written p) n m ≡ p) × IsFile (written p) n m

-- numbers are a file in one way, and cease to be one at one place, but not both
abbrev pub OneWay : Type 0
OneWay =
    (ns : List ℕ) (i j m n m' n' : ℕ) →
    (IsFile ns n m → IsFile ns n' m' → (n ≡ n') × (m ≡ m')) × (Ceases ns i → Ceases ns j → i ≡ j) × (IsFile ns n m → Ceases ns i → ⊥)
