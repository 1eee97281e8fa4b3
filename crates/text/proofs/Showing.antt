-- An answer's bytes as a line: the parts at a place in the bytes.
use Rattle.std.proofs.Common.{◌≡◌, ℕ, suc, ◌+◌, ◌-◌, ◌<◌, ◌≤◌, List, ◌++◌, length, drop, decimal, sym, ap, ◌∙◌, refl, arith}
use Rattle.std.proofs.lemmas.Bool.{lt-ltb, le-ltb}
use Rattle.text.specs.declared.fault.Stop.{Stop}
use Rattle.text.specs.declared.fault.Stop.TheVariants.{At, NoMemory}
use Rattle.text.specs.Lines.{Step, got, stop, and_then, Stops}
use Rattle.text.specs.Shown.{word_at, cell_line, number_shown, cell_shown, repeated, counted}

-- a number, and a cell, from the first bytes
module _ (line xs : List ℕ) where
  pub number_short : length xs < 4 → number_shown line xs ≡ stop xs
  unfolding number_shown
  number_short h = rw (lt-ltb (length xs) 4 h)

  pub number_whole : (n : ℕ) → 4 ≤ length xs → n ≡ word_at xs 0 → number_shown line xs ≡ got (line ++ decimal n) (drop 4 xs)
  unfolding number_shown
  number_whole n h e = rw (le-ltb (length xs) 4 h, e)

  pub cell_short : length xs < 16 → cell_shown line xs ≡ stop xs
  unfolding cell_shown
  cell_short h = rw (lt-ltb (length xs) 16 h)

  pub cell_wrong : 16 ≤ length xs → 256 ≤ word_at xs 0 → cell_shown line xs ≡ stop xs
  unfolding cell_shown
  cell_wrong h big = rw (le-ltb (length xs) 16 h, le-ltb (word_at xs 0) 256 big)

  pub cell_whole : (l p s : ℕ) → 16 ≤ length xs → l < 256 → l ≡ word_at xs 0 → p ≡ word_at xs 8 → s ≡ word_at xs 12 → cell_shown line xs ≡ got (line ++ cell_line l p s) (drop 16 xs)
  unfolding cell_shown
  cell_whole l p s h lt e ep es =
      let lt' : word_at xs 0 < 256 = omega arith in
      rw (le-ltb (length xs) 16 h, lt-ltb (word_at xs 0) 256 lt', sym e, sym ep, sym es) refl

-- a part whose first four bytes are its count
module _ (f : List ℕ → List ℕ → Step (List ℕ)) (line xs : List ℕ) where
  pub counted_short : length xs < 4 → counted f line xs ≡ stop xs
  unfolding counted
  counted_short h = rw (lt-ltb (length xs) 4 h)

  pub counted_whole : (n : ℕ) → 4 ≤ length xs → n ≡ word_at xs 0 → counted f line xs ≡ repeated f n line (drop 4 xs)
  unfolding counted
  counted_whole n h e = rw (le-ltb (length xs) 4 h, e)

  -- the next of n, after j of them
  repeated_next : (n j : ℕ) (s : Step (List ℕ)) → j < n → f line xs ≡ s → repeated f (n - j) line xs ≡ and_then s (repeated f (n - (j + 1)))
  unfolding repeated
  repeated_next n j s h e =
      let one : n - j ≡ suc (n - (j + 1)) = omega arith in
      ap (λ m. repeated f m line xs) one ∙ ap (λ r. and_then r (repeated f (n - (j + 1)))) e

  pub repeated_more : (n j : ℕ) (l ys : List ℕ) → j < n → f line xs ≡ got l ys → repeated f (n - j) line xs ≡ repeated f (n - (j + 1)) l ys
  repeated_more n j l ys h e = repeated_next n j (got l ys) h e

  -- where it does not fit, nor does s, which is what they all come to
  pub repeated_break : (s : Step (List ℕ)) (n j : ℕ) (e : Stop) → j < n → s ≡ repeated f (n - j) line xs → Stops (f line xs) e → Stops s e
  repeated_break s n j (At rest) h k p = k ∙ repeated_next n j (stop rest.now) h p
  repeated_break s n j NoMemory h k p = tt

  pub repeated_done : (n j : ℕ) → n ≤ j → repeated f (n - j) line xs ≡ got line xs
  unfolding repeated
  repeated_done n j h = let z : n - j ≡ 0 = omega arith in ap (λ m. repeated f m line xs) z
