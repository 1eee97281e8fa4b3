-- The bytes of an answer are shown as the line of that answer.
use Rattle.std.proofs.Common.{◌≡◌, ℕ, ◌+◌, ◌*◌, ◌/◌, ◌%◌, ◌<◌, ◌≤◌, Bool, true, ◌&&◌, eqb, ltb, List, [], ◌∷◌, ◌++◌, length, codes, decimal, sym, refl, ap, ◌∙◌, arith}
use lib.Dec.{eqb-suc-zero}
use Rattle.std.proofs.lemmas.List.{append_assoc, append-nil}
use Rattle.std.proofs.lemmas.Bool.{lt-ltb, le-ltb, ltb-true, and_parts}
use Rattle.model.specs.Paper.{pick, Cell}
use Rattle.model.specs.Calls.{Answer, refused, number, two, lines, numbers}
use Rattle.codec.specs.Bytes.{word_bytes, words_bytes, cells_bytes, rows_bytes, answer_bytes}
use Rattle.text.specs.Lines.{Step, got, stop, and_then, ended, numbers_line}
use Rattle.text.specs.Shown.{word_at, cell_line, row_line, rows_line, answer_line, byte_letters, byte_rows, showable, number_shown, spaced_shown, cell_shown, repeated, counted, row_shown, refusal_shown, pair_shown, table_shown, numbers_shown, answer_shown}

-- the number that four bytes write
word_back : (n : ℕ) → n % 256 + n / 256 % 256 * 256 + n / 65536 % 256 * 65536 + n / 16777216 * 16777216 ≡ n
word_back n = omega arith

number_shows : (line rest : List ℕ) (n : ℕ) → number_shown line (word_bytes n ++ rest) ≡ got (line ++ decimal n) rest
unfolding number_shown word_bytes
number_shows line rest n =
    let long : 4 ≤ length (word_bytes n ++ rest) = omega arith in
    rw (le-ltb (length (word_bytes n ++ rest)) 4 long) (ap (λ m. got (line ++ decimal m) rest) (word_back n))

spaced_shows : (line rest : List ℕ) (n : ℕ) → spaced_shown line (word_bytes n ++ rest) ≡ got (line ++ (32 ∷ decimal n)) rest
spaced_shows line rest n = number_shows (line ++ (32 ∷ [])) rest n ∙ ap (λ l. got l rest) (append_assoc line (32 ∷ []) (decimal n))

cell_shows : (line rest : List ℕ) (l s p k : ℕ) → l < 256 → cell_shown line (words_bytes (l ∷ (s ∷ (p ∷ (k ∷ [])))) ++ rest) ≡ got (line ++ cell_line l p k) rest
unfolding cell_shown words_bytes word_bytes
cell_shows line rest l s p k h =
    let long : 16 ≤ length (words_bytes (l ∷ (s ∷ (p ∷ (k ∷ [])))) ++ rest) = omega arith in
    let byte : word_at (words_bytes (l ∷ (s ∷ (p ∷ (k ∷ [])))) ++ rest) 0 < 256 = omega (arith, word_back l) in
    rw (le-ltb (length (words_bytes (l ∷ (s ∷ (p ∷ (k ∷ [])))) ++ rest)) 16 long, lt-ltb (word_at (words_bytes (l ∷ (s ∷ (p ∷ (k ∷ [])))) ++ rest) 0) 256 byte)
    (ap (λ m. got (line ++ cell_line m (p % 256 + p / 256 % 256 * 256 + p / 65536 % 256 * 65536 + p / 16777216 * 16777216) (k % 256 + k / 256 % 256 * 256 + k / 65536 % 256 * 65536 + k / 16777216 * 16777216)) rest) (word_back l)
    ∙ (ap (λ m. got (line ++ cell_line l m (k % 256 + k / 256 % 256 * 256 + k / 65536 % 256 * 65536 + k / 16777216 * 16777216)) rest) (word_back p)
    ∙ ap (λ m. got (line ++ cell_line l p m) rest) (word_back k)))

-- So many of a kind: each x has the bytes b x and adds s x to the line; bs and ss are these of a whole list.
module _ {X : Type 0} (f : List ℕ → List ℕ → Step (List ℕ)) (b s : X → List ℕ) (bs ss : List X → List ℕ) (good : X → Bool) (goods : List X → Bool)
    (b-nil : bs [] ≡ []) (b-cons : (x : X) (xs : List X) → bs (x ∷ xs) ≡ b x ++ bs xs)
    (s-nil : ss [] ≡ []) (s-cons : (x : X) (xs : List X) → ss (x ∷ xs) ≡ s x ++ ss xs)
    (good-cons : (x : X) (xs : List X) → goods (x ∷ xs) ≡ (good x && goods xs))
    (each : (line rest : List ℕ) (x : X) → good x ≡ true → f line (b x ++ rest) ≡ got (line ++ s x) rest) where
  repeated_shows : (xs : List X) (line rest : List ℕ) → goods xs ≡ true → repeated f (length xs) line (bs xs ++ rest) ≡ got (line ++ ss xs) rest
  unfolding repeated
  repeated_shows [] line rest h = ap (λ ys. got line (ys ++ rest)) b-nil ∙ ap (λ l. got l rest) (sym (append-nil line) ∙ ap (λ l. line ++ l) (sym s-nil))
  repeated_shows (x ∷ xs) line rest h =
      let p = and_parts (good x) (goods xs) (sym (good-cons x xs) ∙ h) in
      ap (λ ys. and_then (f line ys) (repeated f (length xs))) (ap (λ ys. ys ++ rest) (b-cons x xs) ∙ append_assoc (b x) (bs xs) rest)
      ∙ (ap (λ r. and_then r (repeated f (length xs))) (each line (bs xs ++ rest) x p.0)
      ∙ (repeated_shows xs (line ++ s x) rest p.1
      ∙ ap (λ l. got l rest) (append_assoc line (s x) (ss xs) ∙ ap (λ l. line ++ l) (sym (s-cons x xs)))))

  counted_shows : (xs : List X) (line rest : List ℕ) → goods xs ≡ true → counted f line (word_bytes (length xs) ++ (bs xs ++ rest)) ≡ got (line ++ ss xs) rest
  unfolding counted word_bytes
  counted_shows xs line rest h =
      let long : 4 ≤ length (word_bytes (length xs) ++ (bs xs ++ rest)) = omega arith in
      rw (le-ltb (length (word_bytes (length xs) ++ (bs xs ++ rest))) 4 long)
      (ap (λ m. repeated f m line (bs xs ++ rest)) (word_back (length xs)) ∙ repeated_shows xs line rest h)

cells_shows : (xs : List Cell) (line rest : List ℕ) → byte_letters xs ≡ true → counted cell_shown line (word_bytes (length xs) ++ (cells_bytes xs ++ rest)) ≡ got (line ++ row_line xs) rest
unfolding cells_bytes row_line byte_letters
cells_shows =
    counted_shows cell_shown (λ x. words_bytes (x.letter ∷ (x.style ∷ (x.put_in ∷ (x.struck ∷ []))))) (λ x. cell_line x.letter x.put_in x.struck)
    cells_bytes row_line (λ x. ltb x.letter 256) byte_letters refl (λ x xs. refl) refl (λ x xs. refl) (λ x xs. refl)
    (λ line rest x h. cell_shows line rest x.letter x.style x.put_in x.struck (ltb-true x.letter 256 h))

row_shows : (line rest : List ℕ) (r : List Cell) → byte_letters r ≡ true → row_shown line ((word_bytes (length r) ++ cells_bytes r) ++ rest) ≡ got (line ++ (row_line r ++ codes "|")) rest
row_shows line rest r h =
    ap (row_shown line) (append_assoc (word_bytes (length r)) (cells_bytes r) rest)
    ∙ (ap (λ s. and_then s (λ l ys. got (l ++ codes "|") ys)) (cells_shows r line rest h)
    ∙ ap (λ l. got l rest) (append_assoc line (row_line r) (codes "|")))

rows_shows : (rs : List (List Cell)) (line rest : List ℕ) → byte_rows rs ≡ true → counted row_shown line (word_bytes (length rs) ++ (rows_bytes rs ++ rest)) ≡ got (line ++ rows_line rs) rest
unfolding rows_bytes rows_line byte_rows
rows_shows =
    counted_shows row_shown (λ r. word_bytes (length r) ++ cells_bytes r) (λ r. row_line r ++ codes "|")
    rows_bytes rows_line byte_letters byte_rows refl (λ r rs. sym (append_assoc (word_bytes (length r)) (cells_bytes r) (rows_bytes rs)))
    refl (λ r rs. sym (append_assoc (row_line r) (codes "|") (rows_line rs))) (λ r rs. refl) row_shows

numbers_show : (ns line rest : List ℕ) → counted spaced_shown line (word_bytes (length ns) ++ (words_bytes ns ++ rest)) ≡ got (line ++ numbers_line ns) rest
unfolding words_bytes numbers_line
numbers_show ns line rest =
    counted_shows spaced_shown word_bytes (λ n. 32 ∷ decimal n) words_bytes numbers_line (λ n. true) (λ ns. true) refl (λ n ms. refl) refl (λ n ms. refl) (λ n ms. refl)
    (λ l r n h. spaced_shows l r n) ns line rest refl

-- the first byte says which
abbrev by_first : ℕ → List ℕ → Step (List ℕ)
by_first t xs =
    and_then
    (pick (eqb t 0) (refusal_shown [] xs)
    (pick (eqb t 1) (number_shown [] xs)
    (pick (eqb t 2) (pair_shown [] xs)
    (pick (eqb t 3) (table_shown [] xs)
    (pick (eqb t 4) (numbers_shown [] xs)
    (stop (t ∷ xs)))))))
    ended

first_is : (t : ℕ) (xs : List ℕ) → answer_shown (t ∷ xs) ≡ by_first t xs
first_is t xs = rw (eqb-suc-zero (length xs))

pub shows : (a : Answer) → showable a ≡ true → answer_shown (answer_bytes a) ≡ got (answer_line a) []
unfolding answer_bytes answer_line showable words_bytes
shows (refused n i) h =
    first_is 0 (words_bytes (n ∷ (i ∷ [])))
    ∙ (ap (λ s. and_then (and_then s (λ l ys. spaced_shown (l ++ codes " at") ys)) ended) (spaced_shows (codes "refused") (word_bytes i ++ []) n)
    ∙ (ap (λ s. and_then s ended) (spaced_shows ((codes "refused" ++ (32 ∷ decimal n)) ++ codes " at") [] i)
    ∙ ap (λ l. got (codes "refused " ++ l) []) (append_assoc (decimal n) (codes " at") (32 ∷ decimal i))))
shows (number n) h = first_is 1 (words_bytes (n ∷ [])) ∙ ap (λ s. and_then s ended) (number_shows [] [] n)
shows (two m n) h =
    first_is 2 (words_bytes (m ∷ (n ∷ [])))
    ∙ (ap (λ s. and_then (and_then s spaced_shown) ended) (number_shows [] (word_bytes n ++ []) m)
    ∙ ap (λ s. and_then s ended) (spaced_shows (decimal m) [] n))
shows (lines rs) h =
    first_is 3 (word_bytes (length rs) ++ rows_bytes rs)
    ∙ (ap (λ ys. by_first 3 (word_bytes (length rs) ++ ys)) (sym (append-nil (rows_bytes rs)))
    ∙ ap (λ s. and_then s ended) (rows_shows rs (codes "rows |") [] h))
shows (numbers ns) h =
    first_is 4 (word_bytes (length ns) ++ words_bytes ns)
    ∙ (ap (λ ys. by_first 4 (word_bytes (length ns) ++ ys)) (sym (append-nil (words_bytes ns)))
    ∙ ap (λ s. and_then s ended) (numbers_show ns (codes "numbers") []))

-- what is written, where the bytes are those of an answer
module _ (bs : List ℕ) (a : Answer) (ok : showable a ≡ true) (e : bs ≡ answer_bytes a) where
  pub written : (l : List ℕ) → answer_shown bs ≡ got l [] → l ≡ answer_line a
  written l h = let k = ap answer_shown e ∙ shows a ok in cc (h, k)

  pub no_stop : (rest : List ℕ) → answer_shown bs ≡ stop rest → ⊥
  no_stop rest h =
      let k = ap answer_shown e ∙ shows a ok in
      let z : ◌≡◌ {A = ℕ} 0 1 = cc (h, k) in omega arith
