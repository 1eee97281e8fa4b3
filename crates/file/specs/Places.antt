-- What each number of a file has to be, by its place and the numbers before it. Definitions only: nothing is assumed.
use Rattle.std.specs.Prelude.{◌≡◌, ℕ, ◌-◌, ◌*◌, ◌%◌, ◌<◌, ◌≤◌, List, slice_index}
use Rattle.file.specs.Paper.{LetterFits}

-- where the last number of the changes stands: the number at place 0 says how many changes there are
abbrev pub last : List ℕ → ℕ
last ns = 2 * slice_index ns 0

-- none, or of one of the changes, and of an open one
abbrev pub MarkFits : List ℕ → ℕ → Type 0
MarkFits ns m = 0 < m → (2 * m ≤ last ns) × (slice_index ns (2 * m) ≡ 0)

pub record NumberFits (ns : List ℕ) (i : ℕ) : Type 0 where
  pub count : i ≡ 0 → slice_index ns i ≤ 128
  pub author : 0 < i → i ≤ last ns → i % 2 ≡ 1 → slice_index ns i < 256
  pub became : 0 < i → i ≤ last ns → i % 2 ≡ 0 → slice_index ns i < 3
  pub few : last ns < i → i - 1 - last ns < 8192
  pub letter : last ns < i → (i - 1 - last ns) % 4 ≡ 0 → LetterFits (slice_index ns i)
  pub style : last ns < i → (i - 1 - last ns) % 4 ≡ 1 → slice_index ns i < 256
  pub mark : last ns < i → 2 ≤ (i - 1 - last ns) % 4 → MarkFits ns (slice_index ns i)
