-- A number and its four bytes.
use Rattle.std.proofs.Common.{◌≡◌, ℕ, zero, suc, ◌+◌, ◌*◌, ◌/◌, ◌%◌, ◌<◌, ◌≤◌, true, List, [], ◌∷◌, ◌++◌, length, get_or, drop, append_assoc, add-zero, arith}
use Rattle.std.proofs.lemmas.List.{drop_more}
use Rattle.model.specs.Promise.{all_below}
use Rattle.codec.specs.Bytes.{word_bytes, words_bytes}
use Rattle.codec.specs.Reading.{word_at}

-- the bytes of a number make the number, however large
pub word_back : (n : ℕ) → n % 256 + (256 * (n / 256 % 256) + (65536 * (n / 65536 % 256) + 16777216 * (n / 16777216))) ≡ n
word_back n = omega arith

-- and four bytes are those of the number that they make
pub bytes_back : (a b c d : ℕ) → a < 256 → b < 256 → c < 256 → word_bytes (a + (256 * b + (65536 * c + 16777216 * d))) ≡ a ∷ (b ∷ (c ∷ (d ∷ [])))
unfolding word_bytes
bytes_back a b c d ha hb hc =
    let n = a + (256 * b + (65536 * c + 16777216 * d)) in
    let first : n % 256 ≡ a = omega arith in
    let second : n / 256 % 256 ≡ b = omega arith in
    let third : n / 65536 % 256 ≡ c = omega arith in
    let last : n / 16777216 ≡ d = omega arith in
    cc

pub below_at : (bs : List ℕ) → all_below 256 bs ≡ true → (i : ℕ) → get_or bs i 0 < 256
unfolding all_below
below_at [] h i = omega arith
below_at (x ∷ bs) h zero = grind arith
below_at (x ∷ bs) h (suc i) = let ih = below_at bs in grind arith

-- the numbers at a place, four bytes each
abbrev pub words_at : List ℕ → ℕ → ℕ → List ℕ
words_at bs at zero = []
words_at bs at (suc k) = word_at bs at ∷ words_at bs (at + 4) k

module _ (bs : List ℕ) (below : all_below 256 bs ≡ true) where
  word_split : (at : ℕ) → at + 4 ≤ length bs → drop at bs ≡ word_bytes (word_at bs at) ++ drop (at + 4) bs
  word_split at h =
      let w = bytes_back (get_or bs at 0) (get_or bs (at + 1) 0) (get_or bs (at + 2) 0) (get_or bs (at + 3) 0) (below_at bs below at) (below_at bs below (at + 1))
      (below_at bs below (at + 2)) in
      let d0 = drop_more bs at 0 (omega arith) in
      let d1 = drop_more bs (at + 1) 0 (omega arith) in
      let d2 = drop_more bs (at + 2) 0 (omega arith) in
      let d3 = drop_more bs (at + 3) 0 (omega arith) in
      let e2 : at + 1 + 1 ≡ at + 2 = omega arith in
      let e3 : at + 2 + 1 ≡ at + 3 = omega arith in
      let e4 : at + 3 + 1 ≡ at + 4 = omega arith in
      rw w (cc)

  -- what stands at a place is the bytes of the numbers there, and what comes after
  pub words_split : (at k : ℕ) → at + 4 * k ≤ length bs → drop at bs ≡ words_bytes (words_at bs at k) ++ drop (at + 4 * k) bs
  unfolding words_bytes
  words_split at zero h = rw add-zero
  words_split at (suc k) h =
      let s = word_split at (omega arith) in
      let t = words_split (at + 4) k (omega arith) in
      let e : at + 4 + 4 * k ≡ at + 4 * suc k = omega arith in
      let a = append_assoc (word_bytes (word_at bs at)) (words_bytes (words_at bs (at + 4) k)) (drop (at + 4 * suc k) bs) in
      cc
