-- One byte of each part of a line: what the definitions do at a place in the line, by what stands there.
use Rattle.std.proofs.Common.{◌≡◌, ℕ, suc, ◌+◌, ◌-◌, ◌*◌, ◌<◌, ◌≤◌, Bool, true, false, ◌⊎◌, List, [], ◌∷◌, ◌++◌, length, get_or, take, drop, set, sym, ap, ◌∙◌, refl, inl, inr, arith}
use Rattle.std.proofs.lemmas.List.{drop_more, drop_all, take_rest, take_more_set}
use Rattle.std.proofs.lemmas.Bool.{eq-eqb, ne_eqb, lt-ltb, le-ltb, le-leb, lt-leb}
use Rattle.text.specs.Lines.{Step, got, stop, and_then, literal_in, digit, digits_in, number_in, field_in, numbers_in, mark_of, letters_in}
use Rattle.text.specs.declared.reader.Mark.{Mark}
use Rattle.text.specs.declared.reader.Mark.TheVariants.{Letter, Backslash, Quote, Wrong}

-- x is no digit, as a test finds it
abbrev pub NoDigit : ℕ → Type 0
NoDigit x = (x < 48) ⊎ ((48 ≤ x) × (57 < x))

no_digit : (x : ℕ) → NoDigit x → digit x ≡ false
no_digit x (inl h) = rw (lt-leb 48 x h)
no_digit x (inr p) = rw (le-leb 48 x p.0, lt-leb x 57 p.1)

is_digit : (x : ℕ) → 48 ≤ x → x ≤ 57 → digit x ≡ true
is_digit x a b = rw (le-leb 48 x a, le-leb x 57 b)

-- what is left after the first byte, as the code finds it
abbrev pub after : List ℕ → List ℕ
after xs = take (length xs - 1) (drop 1 xs)

after_first : (x : ℕ) (xs : List ℕ) → after (x ∷ xs) ≡ xs
after_first x xs = take_rest (x ∷ xs) 1

-- the word's byte at place j
module _ (ws : List ℕ) (j : ℕ) where
  pub literal_done : (xs : List ℕ) → length ws ≤ j → literal_in (drop j ws) xs ≡ got tt xs
  unfolding literal_in
  literal_done xs h = rw (drop_all j ws h)

  pub literal_short : (xs : List ℕ) → j < length ws → length xs < 1 → literal_in (drop j ws) xs ≡ stop xs
  unfolding literal_in
  literal_short [] h k = rw (drop_more ws j 0 h)
  literal_short (x ∷ xs) h k = absurd (omega arith)

  pub literal_differs : (xs : List ℕ) → j < length ws → 1 ≤ length xs → (get_or xs 0 0 ≡ get_or ws j 0 → ⊥) → literal_in (drop j ws) xs ≡ stop xs
  unfolding literal_in
  literal_differs [] h k e = absurd (omega arith)
  literal_differs (x ∷ xs) h k e = rw (drop_more ws j 0 h, ne_eqb _ _ e)

  pub literal_more : (xs : List ℕ) → j < length ws → 1 ≤ length xs → get_or xs 0 0 ≡ get_or ws j 0 → literal_in (drop j ws) xs ≡ literal_in (drop (j + 1) ws) (after xs)
  unfolding literal_in
  literal_more [] h k e = absurd (omega arith)
  literal_more (x ∷ xs) h k e = rw (drop_more ws j 0 h, eq-eqb _ _ e, after_first x xs)

module _ (n : ℕ) where
  pub digits_done : (xs : List ℕ) → length xs < 1 → digits_in n xs ≡ got n xs
  unfolding digits_in
  digits_done [] k = refl
  digits_done (x ∷ xs) k = absurd (omega arith)

  pub digits_end : (xs : List ℕ) → 1 ≤ length xs → NoDigit (get_or xs 0 0) → digits_in n xs ≡ got n xs
  unfolding digits_in
  digits_end [] k d = absurd (omega arith)
  digits_end (x ∷ xs) k d = rw (no_digit x d)

  pub digits_over : (xs : List ℕ) → 1 ≤ length xs → 48 ≤ get_or xs 0 0 → get_or xs 0 0 ≤ 57 → 4294967296 ≤ n * 10 + (get_or xs 0 0 - 48) → digits_in n xs ≡ stop xs
  unfolding digits_in
  digits_over [] k a b big = absurd (omega arith)
  digits_over (x ∷ xs) k a b big = rw (is_digit x a b, le-ltb (n * 10 + (x - 48)) 4294967296 big)

  pub digits_more : (xs : List ℕ) → 1 ≤ length xs → 48 ≤ get_or xs 0 0 → get_or xs 0 0 ≤ 57 → n * 10 + (get_or xs 0 0 - 48) < 4294967296 → digits_in n xs ≡ digits_in (n * 10 + (get_or xs 0 0 - 48)) (after xs)
  unfolding digits_in
  digits_more [] k a b small = absurd (omega arith)
  digits_more (x ∷ xs) k a b small = rw (is_digit x a b, lt-ltb (n * 10 + (x - 48)) 4294967296 small, after_first x xs)

pub number_none : (xs : List ℕ) → length xs < 1 → number_in xs ≡ stop xs
unfolding number_in
number_none [] k = refl
number_none (x ∷ xs) k = absurd (omega arith)

pub number_zero : (xs : List ℕ) → 1 ≤ length xs → get_or xs 0 0 ≡ 48 → number_in xs ≡ got 0 (after xs)
unfolding number_in
number_zero [] k e = absurd (omega arith)
number_zero (x ∷ xs) k e = rw (e, after_first x xs)

pub number_wrong : (xs : List ℕ) → 1 ≤ length xs → (get_or xs 0 0 ≡ 48 → ⊥) → NoDigit (get_or xs 0 0) → number_in xs ≡ stop xs
unfolding number_in
number_wrong [] k e d = absurd (omega arith)
number_wrong (x ∷ xs) k e d = rw (ne_eqb x 48 e, no_digit x d)

pub number_more : (xs : List ℕ) → 1 ≤ length xs → 49 ≤ get_or xs 0 0 → get_or xs 0 0 ≤ 57 → number_in xs ≡ digits_in (get_or xs 0 0 - 48) (after xs)
unfolding number_in
number_more [] k a b = absurd (omega arith)
number_more (x ∷ xs) k a b =
    let ne : x ≡ 48 → ⊥ = λ e. omega arith in
    let le : 48 ≤ x = omega arith in
    rw (ne_eqb x 48 ne, is_digit x le b, after_first x xs)

-- the next of n numbers, after j of them
numbers_next : (n j : ℕ) (ns xs : List ℕ) (s : Step ℕ) → j < n → field_in xs ≡ s → numbers_in (n - j) ns xs ≡ and_then s (λ v ys. numbers_in (n - (j + 1)) (ns ++ (v ∷ [])) ys)
unfolding numbers_in
numbers_next n j ns xs s h e =
    let one : n - j ≡ suc (n - (j + 1)) = omega arith in
    ap (λ k. numbers_in k ns xs) one ∙ ap (λ r. and_then r (λ v ys. numbers_in (n - (j + 1)) (ns ++ (v ∷ [])) ys)) e

pub numbers_more : (n j : ℕ) (all xs ys : List ℕ) (v : ℕ) → j < n → j < length all → field_in xs ≡ got v ys → numbers_in (n - j) (take j all) xs ≡ numbers_in (n - (j + 1)) (take (j + 1) (set all j v)) ys
numbers_more n j all xs ys v h k e =
    numbers_next n j (take j all) xs (got v ys) h e ∙ ap (λ ns. numbers_in (n - (j + 1)) ns ys) (sym (take_more_set all j v k))

pub numbers_stop : (n j : ℕ) (ns xs ys : List ℕ) → j < n → field_in xs ≡ stop ys → numbers_in (n - j) ns xs ≡ stop ys
numbers_stop n j ns xs ys h e = numbers_next n j ns xs (stop ys) h e

pub numbers_done : (n j : ℕ) (ns xs : List ℕ) → n ≤ j → numbers_in (n - j) ns xs ≡ got ns xs
unfolding numbers_in
numbers_done n j ns xs h = let e : n - j ≡ 0 = omega arith in ap (λ k. numbers_in k ns xs) e

-- letters after a byte of which the mark is known, where `from` begins with the byte and `rest` follows it
abbrev pub after_mark : List ℕ → List ℕ → List ℕ → Mark → Step (List ℕ)
after_mark ls from rest (Letter l) = letters_in false (ls ++ (l ∷ [])) rest
after_mark ls from rest Backslash = letters_in true ls rest
after_mark ls from rest Quote = got ls rest
after_mark ls from rest Wrong = stop from

pub letters_cons : (e : Bool) (ls : List ℕ) (x : ℕ) (xs : List ℕ) (m : Mark) → mark_of e x ≡ m → letters_in e ls (x ∷ xs) ≡ after_mark ls (x ∷ xs) xs m
unfolding letters_in
letters_cons e ls x xs m h = ap (after_mark ls (x ∷ xs) xs) h

pub letters_next : (e : Bool) (ls xs : List ℕ) (m : Mark) → 1 ≤ length xs → m ≡ mark_of e (get_or xs 0 0) → letters_in e ls xs ≡ after_mark ls xs (after xs) m
letters_next e ls [] m k h = absurd (omega arith)
letters_next e ls (x ∷ xs) m k h = letters_cons e ls x xs m (sym h) ∙ ap (λ ys. after_mark ls (x ∷ xs) ys m) (sym (after_first x xs))

pub letters_short : (e : Bool) (ls xs : List ℕ) → length xs < 1 → letters_in e ls xs ≡ stop xs
unfolding letters_in
letters_short e ls [] k = refl
letters_short e ls (x ∷ xs) k = absurd (omega arith)
