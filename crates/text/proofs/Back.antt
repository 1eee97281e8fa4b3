-- The line of a call reads as that call.
use Rattle.std.proofs.Common.{◌≡◌, ℕ, ◌+◌, ◌-◌, ◌*◌, ◌/◌, ◌%◌, ◌^◌, ◌<◌, ◌≤◌, true, false, ltb, List, [], ◌∷◌, ◌++◌, length, decimal, sym, refl, ap, ◌∙◌, ⊎_elim, arith}
use Rattle.std.proofs.lemmas.Fmt.{decimal_digit, decimal_by_steps}
use Rattle.std.proofs.lemmas.List.{append_assoc, append-nil}
use Rattle.std.proofs.lemmas.Bool.{and_parts, ltb-true, lt-ltb, le-leb, ne_eqb, cases_lt, cases_eq}
use Rattle.model.specs.Calls.{Call, put, strikes, accepts, rejects, styles, undo, redo, show, find, count, change, save}
use Rattle.text.specs.Lines.{got, and_then, literal_in, digit, digits_in, number_in, numbers_in, numbers_line, small, mark_of, letters_in, letter_line, letters_line, quoted_in, quoted_line, ended, call_of, means, line_reading, reading_from, line_of, readable, limits_reading, limits_line}
use Rattle.text.proofs.Whole.{tried, placed}
use Rattle.text.proofs.Steps.{letters_cons}
use Rattle.text.specs.declared.reader.Mark.TheVariants.{Letter}

-- what follows a number does not go on with a digit
abbrev Ends : List ℕ → Type 0
Ends [] = Unit {0}
Ends (x ∷ xs) = digit x ≡ false

digits_end : (n : ℕ) (rest : List ℕ) → Ends rest → digits_in n rest ≡ got n rest
unfolding digits_in
digits_end n [] h = refl
digits_end n (x ∷ xs) h = rw h

-- one digit more, d from 0 to 9
digit_on : (n d : ℕ) (rest : List ℕ) → d < 10 → n * 10 + d < 4294967296 → digits_in n ((48 + d) ∷ rest) ≡ digits_in (n * 10 + d) rest
unfolding digits_in
digit_on n d rest h lt =
    let same : 48 + d - 48 ≡ d = omega arith in
    let low : 48 ≤ 48 + d = omega arith in
    let high : 48 + d ≤ 57 = omega arith in
    rw (le-leb 48 (48 + d) low, le-leb (48 + d) 57 high, same, lt-ltb (n * 10 + d) 4294967296 lt)

abbrev ReadingOn : ℕ → List ℕ → Type 0
ReadingOn n ds = 0 < n → n < 4294967296 → (rest : List ℕ) → number_in (ds ++ rest) ≡ digits_in n rest

first_on : (n : ℕ) → n < 10 → ReadingOn n ((48 + n) ∷ [])
unfolding number_in
first_on n h pos lt rest =
    let ne : 48 + n ≡ 48 → ⊥ = λ e. omega arith in
    let same : 48 + n - 48 ≡ n = omega arith in
    let low : 48 ≤ 48 + n = omega arith in
    let high : 48 + n ≤ 57 = omega arith in
    rw (ne_eqb (48 + n) 48 ne, le-leb 48 (48 + n) low, le-leb (48 + n) 57 high, same)

more_on : (n : ℕ) (ds : List ℕ) → 10 ≤ n → ReadingOn (n / 10) ds → ReadingOn n (ds ++ ((48 + n % 10) ∷ []))
more_on n ds h before pos lt rest =
    let pos' : 0 < n / 10 = omega arith in
    let lt' : n / 10 < 4294967296 = omega arith in
    let d : n % 10 < 10 = omega arith in
    let whole : n / 10 * 10 + n % 10 ≡ n = omega arith in
    let fits : n / 10 * 10 + n % 10 < 4294967296 = omega arith in
    ap number_in (append_assoc ds ((48 + n % 10) ∷ []) rest)
    ∙ (before pos' lt' ((48 + n % 10) ∷ rest)
    ∙ (digit_on (n / 10) (n % 10) rest d fits ∙ ap (λ m. digits_in m rest) whole))

number_back : (n : ℕ) (rest : List ℕ) → n < 4294967296 → Ends rest → number_in (decimal n ++ rest) ≡ got n rest
unfolding number_in
number_back n rest lt end =
    let small : n < 2 ^ 64 = omega arith in
    ⊎_elim
    (λ pos. decimal_by_steps ReadingOn first_on more_on n small pos lt rest ∙ digits_end n rest end)
    (λ none.
    let z : n ≡ 0 = omega arith in
    ap (λ m. number_in (decimal m ++ rest)) z ∙ (ap (λ ds. number_in (ds ++ rest)) (decimal_digit 0 (omega arith)) ∙ ap (λ m. got m rest) (sym z)))
    (cases_lt 0 n)

numbers_ends : (ns rest : List ℕ) → Ends rest → Ends (numbers_line ns ++ rest)
unfolding numbers_line
numbers_ends [] rest h = h
numbers_ends (n ∷ ns) rest h = refl

numbers_back : (ns acc rest : List ℕ) → small ns ≡ true → Ends rest → numbers_in (length ns) acc (numbers_line ns ++ rest) ≡ got (acc ++ ns) rest
unfolding numbers_in numbers_line small literal_in
numbers_back [] acc rest h end = ap (λ ns. got ns rest) (sym (append-nil acc))
numbers_back (n ∷ ns) acc rest h end =
    let p = and_parts (ltb n 4294967296) (small ns) h in
    let next = λ (v : ℕ) (ys : List ℕ). numbers_in (length ns) (acc ++ (v ∷ [])) ys in
    ap (λ ys. and_then (number_in ys) next) (append_assoc (decimal n) (numbers_line ns) rest)
    ∙ (ap (λ s. and_then s next) (number_back n (numbers_line ns ++ rest) (ltb-true n 4294967296 p.0) (numbers_ends ns rest end))
    ∙ (numbers_back ns (acc ++ (n ∷ [])) rest p.1 end ∙ ap (λ ms. got ms rest) (append_assoc acc (n ∷ []) ns)))

letter_back : (l : ℕ) (acc rest : List ℕ) → letters_in false acc (letter_line l ++ rest) ≡ letters_in false (acc ++ (l ∷ [])) rest
unfolding letters_in
letter_back l acc rest =
    let to = λ (m : ℕ). letters_in false (acc ++ (m ∷ [])) rest in
    let from = λ (m : ℕ). letters_in false acc (letter_line m ++ rest) in
    ⊎_elim (λ e. ap from e ∙ ap to (sym e))
    (λ n10. ⊎_elim (λ e. ap from e ∙ ap to (sym e))
    (λ n34. ⊎_elim (λ e. ap from e ∙ ap to (sym e))
    (λ n92.
    let line : letter_line l ≡ l ∷ [] = rw (ne_eqb l 10 n10, ne_eqb l 34 n34, ne_eqb l 92 n92) in
    let mark : mark_of false l ≡ Letter l = rw (ne_eqb l 34 n34, ne_eqb l 92 n92, ne_eqb l 10 n10) in
    ap (λ ys. letters_in false acc (ys ++ rest)) line ∙ letters_cons false acc l rest (Letter l) mark)
    (cases_eq l 92)) (cases_eq l 34)) (cases_eq l 10)

letters_back : (ls acc rest : List ℕ) → letters_in false acc (letters_line ls ++ rest) ≡ got (acc ++ ls) rest
unfolding letters_in letters_line
letters_back [] acc rest = ap (λ ns. got ns rest) (sym (append-nil acc))
letters_back (l ∷ ls) acc rest =
    ap (letters_in false acc) (append_assoc (letter_line l) (letters_line ls) rest)
    ∙ (letter_back l acc (letters_line ls ++ rest)
    ∙ (letters_back ls (acc ++ (l ∷ [])) rest ∙ ap (λ ms. got ms rest) (append_assoc acc (l ∷ []) ls)))

-- after the word: numbers alone, and numbers and letters
plain_back : {A : Type 0} (f : List ℕ → A) (ns : List ℕ) → small ns ≡ true → and_then (numbers_in (length ns) [] (numbers_line ns)) (λ ms ys. ended (f ms) ys) ≡ got (f ns) []
plain_back f ns h =
    ap (λ ys. and_then (numbers_in (length ns) [] ys) (λ ms zs. ended (f ms) zs)) (sym (append-nil (numbers_line ns)))
    ∙ ap (λ s. and_then s (λ ms ys. ended (f ms) ys)) (numbers_back ns [] [] h tt)

lettered_back : (f : List ℕ → List ℕ → Call) (ns ls : List ℕ) → small ns ≡ true → and_then (numbers_in (length ns) [] (numbers_line ns ++ quoted_line ls)) (λ ms ys. and_then (quoted_in ys) (λ ks zs. ended (f ms ks) zs)) ≡ got (f ns ls) []
unfolding literal_in
lettered_back f ns ls h =
    ap (λ s. and_then s (λ ms ys. and_then (quoted_in ys) (λ ks zs. ended (f ms ks) zs))) (numbers_back ns [] (quoted_line ls) h refl)
    ∙ (ap (λ ys. and_then (letters_in false [] ys) (λ ks zs. ended (f ns ks) zs)) (sym (append-nil (letters_line ls)))
    ∙ ap (λ s. and_then s (λ ks zs. ended (f ns ks) zs)) (letters_back ls [] []))

pub reads_back : (c : Call) → readable c ≡ true → line_reading (line_of c) ≡ means c
unfolding line_of readable reading_from literal_in numbers_in call_of
reads_back (put a i s ls) h = ap (tried 11 0 _ (line_of (put a i s ls))) (lettered_back (call_of 0) (a ∷ (i ∷ (s ∷ []))) ls h)
reads_back (strikes a i n) h = ap (tried 10 1 _ (line_of (strikes a i n))) (plain_back (λ ns. call_of 1 ns []) (a ∷ (i ∷ (n ∷ []))) h)
reads_back (accepts c) h = ap (tried 9 2 _ (line_of (accepts c))) (plain_back (λ ns. call_of 2 ns []) (c ∷ []) h)
reads_back (rejects c) h = ap (tried 8 3 _ (line_of (rejects c))) (plain_back (λ ns. call_of 3 ns []) (c ∷ []) h)
reads_back (styles i n s) h = ap (tried 7 4 _ (line_of (styles i n s))) (plain_back (λ ns. call_of 4 ns []) (i ∷ (n ∷ (s ∷ []))) h)
reads_back undo h = refl
reads_back redo h = refl
reads_back (show k w r n) h = ap (tried 4 7 _ (line_of (show k w r n))) (plain_back (λ ns. call_of 7 ns []) (k ∷ (w ∷ (r ∷ (n ∷ [])))) h)
reads_back (find k i ls) h = ap (tried 3 8 _ (line_of (find k i ls))) (lettered_back (call_of 8) (k ∷ (i ∷ [])) ls h)
reads_back (count k) h = ap (tried 2 9 _ (line_of (count k))) (plain_back (λ ns. call_of 9 ns []) (k ∷ []) h)
reads_back (change c) h = ap (tried 1 10 _ (line_of (change c))) (plain_back (λ ns. call_of 10 ns []) (c ∷ []) h)
reads_back (save i n) h = ap (tried 0 11 _ (line_of (save i n))) (plain_back (λ ns. call_of 11 ns []) (i ∷ (n ∷ [])) h)

pub limits_back : (cells changes undos : ℕ) → cells < 4294967296 → changes < 4294967296 → undos < 4294967296 → limits_reading (limits_line cells changes undos) ≡ means (cells ∷ (changes ∷ (undos ∷ [])))
unfolding limits_reading literal_in small
limits_back a b c ha hb hc =
    let fit : small (a ∷ (b ∷ (c ∷ []))) ≡ true = rw (lt-ltb a 4294967296 ha, lt-ltb b 4294967296 hb, lt-ltb c 4294967296 hc) in
    ap (placed (limits_line a b c)) (plain_back (λ ns. ns) (a ∷ (b ∷ (c ∷ []))) fit)
