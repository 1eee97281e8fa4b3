-- A list of n words made from a function of the index. Shut, so that one of thousands of words is not written out. Assumes nothing.
use Rattle.std.proofs.Common.{◌≡◌, ℕ, ◌<◌, List, map, length, get_or, zero-add}
use Rattle.std.specs.List.{range_with_len}
use Rattle.std.proofs.lemmas.List.FromFn.{length-map-range_with_len, get_or-map-range_with_len}

pub built : (ℕ → ℕ) → ℕ → List ℕ
built f n = map f (range_with_len 0 n)

pub length_built : (f : ℕ → ℕ) (n : ℕ) → length (built f n) ≡ n
unfolding built
length_built f n = length-map-range_with_len f 0 n

pub get_or_built : (f : ℕ → ℕ) (n i : ℕ) → i < n → get_or (built f n) i 0 ≡ f i
unfolding built
get_or_built f n i h = get_or-map-range_with_len f 0 n i i 0 h (zero-add i)
