-- An answer can be had back from its bytes, so two answers with the same bytes are the same.
use Rattle.std.proofs.Common.{◌≡◌, ℕ, zero, suc, ◌*◌, eqb, List, [], ◌∷◌, ◌++◌, length, get_or, drop, sym, refl, ap, ◌∙◌}
use Rattle.std.proofs.lemmas.List.{drop_at}
use Rattle.model.specs.Paper.{pick, Cell}
use Rattle.model.specs.Calls.{Answer, refused, number, two, lines, numbers}
use Rattle.codec.specs.Bytes.{word_bytes, words_bytes, cells_bytes, rows_bytes, answer_bytes}
use Rattle.codec.specs.Reading.{word_at}
use Rattle.codec.specs.Laws.{OneAnswer}
use Rattle.codec.proofs.Words.{word_back}
use Rattle.codec.proofs.Writes.{length_cells_bytes}

abbrev words_from : ℕ → List ℕ → List ℕ
words_from zero bs = []
words_from (suc k) bs = word_at bs 0 ∷ words_from k (drop 4 bs)

abbrev cells_from : ℕ → List ℕ → List Cell
cells_from zero bs = []
cells_from (suc k) bs = record { letter = word_at bs 0; style = word_at bs 4; put_in = word_at bs 8; struck = word_at bs 12 } ∷ cells_from k (drop 16 bs)

abbrev rows_from : ℕ → List ℕ → List (List Cell)
rows_from zero bs = []
rows_from (suc k) bs = cells_from (word_at bs 0) (drop 4 bs) ∷ rows_from k (drop (16 * word_at bs 0) (drop 4 bs))

abbrev answer_from : List ℕ → Answer
answer_from bs =
    let t : ℕ = get_or bs 0 0 in
    pick (eqb t 0) (refused (word_at bs 1) (word_at bs 5))
    (pick (eqb t 1) (number (word_at bs 1))
    (pick (eqb t 2) (two (word_at bs 1) (word_at bs 5))
    (pick (eqb t 3) (lines (rows_from (word_at bs 1) (drop 5 bs)))
    (numbers (words_from (word_at bs 1) (drop 5 bs))))))

words_back : (ns : List ℕ) → words_from (length ns) (words_bytes ns) ≡ ns
unfolding words_bytes word_bytes
words_back [] = refl
words_back (n ∷ ns) = rw (word_back n, words_back ns)

cells_back : (xs : List Cell) (rest : List ℕ) → cells_from (length xs) (cells_bytes xs ++ rest) ≡ xs
unfolding cells_bytes words_bytes word_bytes
cells_back [] rest = refl
cells_back (x ∷ xs) rest = simp (word_back, cells_back xs rest)

rows_back : (rs : List (List Cell)) → rows_from (length rs) (rows_bytes rs) ≡ rs
unfolding rows_bytes word_bytes
rows_back [] = refl
rows_back (r ∷ rs) =
    let d = drop_at (cells_bytes r) (rows_bytes rs) (16 * length r) (length_cells_bytes r) in
    rw (word_back (length r), d, cells_back r (rows_bytes rs), rows_back rs)

answer_back : (a : Answer) → answer_from (answer_bytes a) ≡ a
unfolding answer_bytes words_bytes word_bytes
answer_back (refused n i) = rw (word_back n, word_back i)
answer_back (number n) = rw (word_back n)
answer_back (two m n) = rw (word_back m, word_back n)
answer_back (lines rs) = rw (word_back (length rs), rows_back rs)
answer_back (numbers ns) = rw (word_back (length ns), words_back ns)

pub one_answer : OneAnswer
one_answer a b e = sym (answer_back a) ∙ (ap answer_from e ∙ answer_back b)
