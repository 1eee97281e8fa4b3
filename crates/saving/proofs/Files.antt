-- The numbers of a file stand in memory as runs of words.
use Rattle.std.proofs.Common.{◌≡◌, ℕ, zero, suc, ◌+◌, ◌-◌, ◌*◌, ◌<◌, ◌≤◌, min, List, [], ◌∷◌, ◌++◌, length, get_or, take, drop, refl, ap, ◌∙◌, add-zero, arith}
use Rattle.std.proofs.lemmas.List.{append_assoc, length-append, length-drop, length-take-le, take-append-drop, take-append-le, drop-append-le, drop_at, drop-drop, drop_more}
use Rattle.model.specs.Paper.{Cell, cells_written, changes_written, written}
use Rattle.model.specs.Calls.{numbers}
use Rattle.changes.specs.Row.{changes_from, changes_of}
use Rattle.slots.specs.Cells.{cell_at, cells_at}
use Rattle.pieces.specs.Store.{slot, used, number, piece, strung, cells_of, before, Order, Store}
use Rattle.pieces.proofs.Texts.{length_piece, length_text, drop_text, before_within}
use Rattle.codec.specs.Bytes.{word_bytes, words_bytes, answer_bytes}
use Rattle.codec.specs.Over.{over}
use Rattle.codec.proofs.Writes.{over_step, over_start, length_words_bytes}
use Rattle.saving.specs.Saved.{head, Saves, SavesNone}
use Rattle.saving.proofs.Runs.{run_within, run_two, words_bytes_both}

pub length_word : (n : ℕ) → length (word_bytes n) ≡ 4
unfolding word_bytes
length_word n = refl

cells_written_both : (xs ys : List Cell) → cells_written (xs ++ ys) ≡ cells_written xs ++ cells_written ys
unfolding cells_written
cells_written_both [] ys = refl
cells_written_both (x ∷ xs) ys = rw (cells_written_both xs ys)

length_cells_written : (xs : List Cell) → length (cells_written xs) ≡ 4 * length xs
unfolding cells_written
length_cells_written [] = refl
length_cells_written (x ∷ xs) = let ih = length_cells_written xs in omega arith

drop_cells_written : (n : ℕ) (xs : List Cell) → n ≤ length xs → drop (4 * n) (cells_written xs) ≡ cells_written (drop n xs)
drop_cells_written n xs h =
    let t = take-append-drop n xs in
    let a = cells_written_both (take n xs) (drop n xs) in
    let l = length_cells_written (take n xs) in
    let m = length-take-le n xs h in
    let d = drop_at (cells_written (take n xs)) (cells_written (drop n xs)) (4 * n) (omega arith) in
    cc

-- four words for each cell
cells_words : (c : List ℕ) (a n : ℕ) → 4 * (a + n) ≤ length c → cells_written (cells_at c a n) ≡ take (4 * n) (drop (4 * a) c)
unfolding cells_written cells_at cell_at
cells_words c a zero h = refl
cells_words c a (suc n) h =
    let ih = cells_words c (suc a) n (omega arith) in
    let d0 = drop_more c (4 * a) 0 (omega arith) in
    let d1 = drop_more c (4 * a + 1) 0 (omega arith) in
    let d2 = drop_more c (4 * a + 2) 0 (omega arith) in
    let d3 = drop_more c (4 * a + 3) 0 (omega arith) in
    let e2 : 4 * a + 1 + 1 ≡ 4 * a + 2 = omega arith in
    let e3 : 4 * a + 2 + 1 ≡ 4 * a + 3 = omega arith in
    let e4 : 4 * a + 3 + 1 ≡ 4 * suc a = omega arith in
    let e : drop (4 * a) c ≡ get_or c (4 * a) 0 ∷ (get_or c (4 * a + 1) 0 ∷ (get_or c (4 * a + 2) 0 ∷ (get_or c (4 * a + 3) 0 ∷ drop (4 * suc a) c))) = cc in
    let m : 4 * suc n ≡ suc (suc (suc (suc (4 * n)))) = omega arith in
    rw (e, m, ih) refl

-- and two for each change
changes_words : (w : List ℕ) (k n : ℕ) → 2 * (k + n) ≤ length w → changes_written (changes_from w k n) ≡ take (2 * n) (drop (2 * k) w)
unfolding changes_written changes_from
changes_words w k zero h = refl
changes_words w k (suc n) h =
    let ih = changes_words w (suc k) n (omega arith) in
    let d0 = drop_more w (2 * k) 0 (omega arith) in
    let d1 = drop_more w (2 * k + 1) 0 (omega arith) in
    let e2 : 2 * k + 1 + 1 ≡ 2 * suc k = omega arith in
    let e : drop (2 * k) w ≡ get_or w (2 * k) 0 ∷ (get_or w (2 * k + 1) 0 ∷ drop (2 * suc k) w) = cc in
    let m : 2 * suc n ≡ suc (suc (2 * n)) = omega arith in
    rw (e, m, ih) refl

length_changes : (w : List ℕ) (k n : ℕ) → length (changes_from w k n) ≡ n
unfolding changes_from
length_changes w k zero = refl
length_changes w k (suc n) = ap suc (length_changes w (suc k) n)

-- what stands before the cells
module _ (w : List ℕ) (row : ℕ) (long : 2 * row ≤ length w) where
  head_words : head (changes_of w row) ≡ row ∷ take (2 * row) w
  head_words =
      let l = length_changes w 0 row in
      let e = changes_words w 0 row (omega arith) in
      cc

  length_head : length (head (changes_of w row)) ≡ 1 + 2 * row
  length_head = let e = ap length head_words in let t = length-take-le (2 * row) w long in omega arith

  -- from a number on that is not the first
  pub head_from : (from n : ℕ) → 0 < from → (n ≡ 0 → ⊥) → n ≤ 1 + 2 * row - from → take n (drop (from - 1) w) ≡ take n (drop from (head (changes_of w row)))
  head_from from n z nz h =
      let e : from ≡ suc (from - 1) = omega arith in
      let r = run_within (from - 1) n (2 * row) w (omega arith) in
      let s : take n (drop (suc (from - 1)) (row ∷ take (2 * row) w)) ≡ take n (drop (from - 1) (take (2 * row) w)) = refl in
      let i = head_words in
      cc

  -- from the first number on
  pub head_first : (from n m : ℕ) → from ≡ 0 → n ≡ suc m → m ≤ 2 * row
      → words_bytes (take n (drop from (head (changes_of w row)))) ≡ word_bytes row ++ words_bytes (take m w)
  unfolding words_bytes
  head_first from n m z e h =
      let r = run_within 0 m (2 * row) w (omega arith) in
      let t : take n (drop from (head (changes_of w row))) ≡ row ∷ take m (take (2 * row) w) = rw (z, head_words, e) refl in
      rw t (ap (λ (ns : List ℕ). word_bytes row ++ words_bytes ns) r)

-- how many cells there can be
before_small : (p : List ℕ) (s k : ℕ) → Order p s → k ≤ s → before p k ≤ 1024 * k
unfolding before
before_small p s zero o h = omega arith
before_small p s (suc k) o h = let u = o.small k (omega arith) in omega (arith, before_small p s k o (omega arith))

pub before_few : (p : List ℕ) (s : ℕ) → Order p s → before p s ≤ 2097152
before_few p s o = let b = before_small p s s o (omega arith) in let m = o.most in omega arith

-- what stands in the pieces: `next` is number `first` of those of piece k
module _ (c p : List ℕ) (s : ℕ) (h : Store c p s) where
  abbrev all : List ℕ
  all = cells_written (cells_of c p s)

  pub length_all : length all ≡ 4 * before p s
  length_all = let l = length_cells_written (cells_of c p s) in let t = length_text c p s in omega arith

  module _ (k : ℕ) (here : k < s) where
    pub piece_room : 4 * number p k 0 + 4 * used p k ≤ length c
    piece_room =
        let o = h.table.order in
        let i = o.inside k here in
        let u = o.small k here in
        let r = h.room in
        omega arith

    piece_words : cells_written (piece c p k) ≡ take (4 * used p k) (drop (4 * number p k 0) c)
    unfolding piece
    piece_words =
        let r = piece_room in
        let z : number p k 0 ≡ 1024 * slot p k = omega arith in
        rw z (cells_words c (1024 * slot p k) (used p k) (omega arith))

    -- the numbers from the piece on
    from_piece : drop (4 * before p k) all ≡ cells_written (piece c p k) ++ cells_written (strung (piece c p) (suc k) (s - suc k))
    from_piece =
        let b = before_within p s k here in
        let t = length_text c p s in
        let d = drop_cells_written (before p k) (cells_of c p s) (omega arith) in
        let x = drop_text c p s k 0 here (omega arith) in
        let y = cells_written_both (piece c p k) (strung (piece c p) (suc k) (s - suc k)) in
        d ∙ ap cells_written (rw add-zero at x) ∙ y

    pub piece_run : (first m next : ℕ) → first + m ≤ 4 * used p k → 4 * before p k + first ≡ next → take m (drop (4 * number p k 0 + first) c) ≡ take m (drop next all)
    piece_run first m next l e =
        let a = drop-drop first (4 * before p k) all in
        let b = from_piece in
        let n = length_cells_written (piece c p k) in
        let u = length_piece c p k in
        let d = drop-append-le first (cells_written (piece c p k)) (cells_written (strung (piece c p) (suc k) (s - suc k))) (omega arith) in
        let v = length-drop first (cells_written (piece c p k)) in
        let t = take-append-le m (drop first (cells_written (piece c p k))) (cells_written (strung (piece c p) (suc k) (s - suc k))) (omega arith) in
        let w = piece_words in
        let r = run_within first m (4 * used p k) (drop (4 * number p k 0) c) l in
        let x = drop-drop first (4 * number p k 0) c in
        cc

-- the whole file
module _ (c p : List ℕ) (s : ℕ) (w : List ℕ) (row : ℕ) (long : 2 * row ≤ length w) where
  abbrev all_numbers : List ℕ
  all_numbers = written (record { cells = cells_of c p s; changes = changes_of w row })

  length_file : length (all_numbers) ≡ 1 + 2 * row + 4 * before p s
  length_file =
      let a = length-append (head (changes_of w row)) (cells_written (cells_of c p s)) in
      let b = length_head w row long in
      let l = length_cells_written (cells_of c p s) in
      let t = length_text c p s in
      omega arith

  pub saves_none : (from n : ℕ) (out : List ℕ) → 1 + 2 * row + 4 * before p s < from + n → SavesNone (all_numbers) from n out out
  saves_none from n out h = let l = length_file in record { short = omega arith; same = refl }

  module _ (from n first place : ℕ) (out o₁ o₂ o₃ : List ℕ) (a₁ a₂ a₃ : ℕ) (fits : from + n ≤ 1 + 2 * row + 4 * before p s) (room : 5 + 4 * n ≤ length out)
      (part : first ≡ min n (1 + 2 * row - from)) (rest : place ≡ from - (1 + 2 * row))
      (w₁ : o₁ ≡ over out 0 (4 ∷ word_bytes n)) (p₁ : a₁ ≡ 0 + 5)
      (w₂ : o₂ ≡ over o₁ a₁ (words_bytes (take first (drop from (head (changes_of w row)))))) (p₂ : a₂ ≡ a₁ + 4 * first)
      (w₃ : o₃ ≡ over o₂ a₂ (words_bytes (take (n - first) (drop place (cells_written (cells_of c p s)))))) (p₃ : a₃ ≡ a₂ + 4 * (n - first)) where
    abbrev mine : List ℕ
    mine = take n (drop from (all_numbers))

    abbrev front : List ℕ
    front = take first (drop from (head (changes_of w row)))

    abbrev back : List ℕ
    back = take (n - first) (drop place (cells_written (cells_of c p s)))

    parts : mine ≡ front ++ back
    parts =
        let l = length_head w row long in
        let e : first ≡ min n (length (head (changes_of w row)) - from) = rw l part in
        let q : from - length (head (changes_of w row)) ≡ place = omega arith in
        rw q at (run_two (head (changes_of w row)) (cells_written (cells_of c p s)) from n first e)

    length_mine : length mine ≡ n
    length_mine = let l = length_file in let d = length-drop from (all_numbers) in length-take-le n (drop from (all_numbers)) (omega arith)

    length_front : length front ≡ first
    length_front =
        let l = length_head w row long in
        let d = length-drop from (head (changes_of w row)) in
        length-take-le first (drop from (head (changes_of w row))) (omega arith)

    answer : answer_bytes (numbers mine) ≡ ((4 ∷ word_bytes n) ++ words_bytes front) ++ words_bytes back
    unfolding answer_bytes
    answer =
        let b = words_bytes_both front back in
        let a = append_assoc (4 ∷ word_bytes n) (words_bytes front) (words_bytes back) in
        let l = length_mine in
        let q = parts in
        let e : answer_bytes (numbers mine) ≡ (4 ∷ word_bytes n) ++ words_bytes (front ++ back) = rw (length_mine, parts) refl in
        cc

    length_answer : length (answer_bytes (numbers mine)) ≡ 5 + 4 * n
    unfolding answer_bytes
    length_answer =
        let l = length-append (word_bytes (length mine)) (words_bytes mine) in
        let b = length_words_bytes mine in
        let m = length_mine in
        let v = length_word (length mine) in
        omega arith

    pub saves : Saves (all_numbers) from n out o₃ a₃
    saves =
        let l = length_file in
        let f = length_front in
        let v = length_word n in
        let b = length_words_bytes front in
        let d = length-append (word_bytes n) (words_bytes front) in
        let s₂ = over_step out 0 (4 ∷ word_bytes n) (words_bytes front) w₁ (omega arith) (omega arith) w₂ in
        let s₃ = over_step out 0 ((4 ∷ word_bytes n) ++ words_bytes front) (words_bytes back) s₂ (omega arith) (omega arith) w₃ in
        let e = over_start out (((4 ∷ word_bytes n) ++ words_bytes front) ++ words_bytes back) in
        let a = answer in
        let g = length_answer in
        let k : a₃ ≡ length (answer_bytes (numbers mine)) = omega arith in
        record { there = omega arith; bytes = cc; long = k }
