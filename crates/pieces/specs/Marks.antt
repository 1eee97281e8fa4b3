-- The set of marks of a slot: two words. The mark m stands for two bits of each: m % 32 and m % 31 of the first, m / 32 % 32 and m % 29 of the second. So a
-- set which lacks one of the four does not have the mark; and few others stand for the same four. Mark 0 stands for none, and is in no set.
use Rattle.std.specs.Prelude.{◌≡◌, ℕ, ◌+◌, ◌/◌, ◌%◌, ◌^◌, ◌<◌, Bool, ◌&&◌, ◌≢◌, List, [], ◌∷◌, length, drop, ◌==◌, bit_or, slice_index, slice_set}
use Rattle.model.specs.Paper.{pick, Cell}

-- bit j of the word w is set
abbrev pub Bit : ℕ → ℕ → Type 0
Bit w j = w / 2 ^ j % 2 ≡ 1

-- bits j and k are
abbrev pub Bits : ℕ → ℕ → ℕ → Type 0
Bits w j k = Bit w j × Bit w k

-- the same as a test
abbrev pub bits : ℕ → ℕ → ℕ → Bool
bits w j k = w / 2 ^ j % 2 == 1 && w / 2 ^ k % 2 == 1

-- the set of slot i has the mark m
pub record Has (p : List ℕ) (i m : ℕ) : Type 0 where
  pub low : Bits (slice_index p (6144 + i)) (m % 32) (m % 31)
  pub high : Bits (slice_index p (8192 + i)) (m / 32 % 32) (m % 29)

-- the same as a test
abbrev pub has : List ℕ → ℕ → ℕ → Bool
has p i m = bits (slice_index p (6144 + i)) (m % 32) (m % 31) && bits (slice_index p (8192 + i)) (m / 32 % 32) (m % 29)

-- the set of slot i has both marks of the cell
pub record Marks (p : List ℕ) (i : ℕ) (x : Cell) : Type 0 where
  pub put_in : 0 < x.put_in → Has p i x.put_in
  pub struck : 0 < x.struck → Has p i x.struck

-- neither mark of the cell is m
pub record Lacks (m : ℕ) (x : Cell) : Type 0 where
  pub put_in : x.put_in ≢ m
  pub struck : x.struck ≢ m

-- the two words of slot i written
abbrev pub with_set : List ℕ → ℕ → ℕ → ℕ → List ℕ
with_set p i low high = slice_set (slice_set p (6144 + i) low) (8192 + i) high

-- a word with bits j and k alone
abbrev pub two_bits : ℕ → ℕ → ℕ
two_bits j k = bit_or (2 ^ j) (2 ^ k)

-- the set of slot i with the mark m added, if it is one
abbrev pub noted : List ℕ → ℕ → ℕ → List ℕ
noted p i m =
    pick (m == 0) p (with_set p i (bit_or (slice_index p (6144 + i)) (two_bits (m % 32) (m % 31))) (bit_or (slice_index p (8192 + i)) (two_bits (m / 32 % 32) (m % 29))))

-- with all marks of the cells added
unfoldable pub noted_cells : List ℕ → ℕ → List Cell → List ℕ
noted_cells p i [] = p
noted_cells p i (x ∷ xs) = noted_cells (noted (noted p i x.put_in) i x.struck) i xs

-- from p to q only words of sets may have changed
pub record Beside (p q : List ℕ) : Type 0 where
  pub long : length q ≡ length p
  pub below : (w : ℕ) → w < 6144 → slice_index q w ≡ slice_index p w
  pub past : drop 10240 q ≡ drop 10240 p

-- and every set has what it had
pub record Grown (p q : List ℕ) : Type 0 where
  pub beside : Beside p q
  pub has : (i m : ℕ) → i < 2048 → Has p i m → Has q i m

-- and the set of slot a has what that of slot b had
pub record Joined (p q : List ℕ) (a b : ℕ) : Type 0 where
  pub grown : Grown p q
  pub both : (m : ℕ) → Has p b m → Has q a m
