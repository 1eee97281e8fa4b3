-- Cells put back in parts, and cells read from words.
use Rattle.std.proofs.Common.{◌≡◌, ℕ, zero, suc, ◌+◌, ◌-◌, ◌*◌, ◌/◌, ◌%◌, ◌≤◌, min, List, [], ◌++◌, length, get_or, take, drop, sym, refl, ap, ◌∙◌, append-nil, zero-add, inl, inr, arith}
use Rattle.std.proofs.lemmas.Bool.{cases_lt}
use Rattle.std.proofs.lemmas.List.{length-append, length-take-le, length-drop, take_at, drop_at, append_assoc, get_or-drop, drop-drop, nil_from_length}
use Rattle.model.specs.Paper.{Cell}
use Rattle.slots.specs.Cells.{all_cells, cell_at, cells_at}
use Rattle.slots.proofs.Words.{all_part, cells_split}
use Rattle.history.specs.Words.{cells_read}

-- cells by their number, and cells at the beginning of words
cells_numbered : (ws : List ℕ) (n a : ℕ) → cells_at ws a n ≡ cells_read n (drop (4 * a) ws)
unfolding cell_at cells_at cells_read
cells_numbered ws zero a = refl
cells_numbered ws (suc n) a =
    let e : 4 * a + 4 ≡ 4 * suc a = omega arith in
    let z : 4 * a + 0 ≡ 4 * a = omega arith in
    let w0 : get_or ws (4 * a) 0 ≡ get_or (drop (4 * a) ws) 0 0 = sym (get_or-drop (4 * a) ws 0 0 ∙ ap (λ i. get_or ws i 0) z) in
    let w1 = get_or-drop (4 * a) ws 1 0 in
    let w2 = get_or-drop (4 * a) ws 2 0 in
    let w3 = get_or-drop (4 * a) ws 3 0 in
    let d : drop 4 (drop (4 * a) ws) ≡ drop (4 * suc a) ws = drop-drop 4 (4 * a) ws ∙ ap (λ i. drop i ws) e in
    let h = cells_numbered ws n (suc a) in
    cc

-- the cells whose words are taken from the beginning
pub all_taken : (ws : List ℕ) (n : ℕ) → 4 * n ≤ length ws → all_cells (take (4 * n) ws) ≡ cells_read n ws
all_taken ws n h =
    let z : 4 * (0 + n) - 4 * 0 ≡ 4 * n = omega arith in
    ap (λ k. all_cells (take k ws)) (sym z) ∙ all_part ws 0 n (rw zero-add h) ∙ cells_numbered ws n 0

-- the cells of two parts, of which the first has whole cells
all_append : (part rest : List ℕ) → length part % 4 ≡ 0 → all_cells (part ++ rest) ≡ all_cells part ++ all_cells rest
all_append part rest h =
    let m = length part / 4 in
    let n = length rest / 4 in
    let e : length part ≡ 4 * m = omega arith in
    let l : length (part ++ rest) / 4 ≡ m + n = omega (arith, length-append part rest) in
    let few : 4 * m ≤ length (part ++ rest) = omega (arith, length-append part rest) in
    let first : cells_at (part ++ rest) 0 m ≡ all_cells part =
    cells_numbered (part ++ rest) m 0 ∙ sym (all_taken (part ++ rest) m few) ∙ ap all_cells (take_at part rest (4 * m) e) in
    let second : cells_at (part ++ rest) m n ≡ all_cells rest =
    cells_numbered (part ++ rest) n m ∙ ap (cells_read n) (drop_at part rest (4 * m) e) ∙ sym (cells_numbered rest n 0) in
    let both : all_cells (part ++ rest) ≡ cells_at (part ++ rest) 0 m ++ cells_at (part ++ rest) m n =
    ap (cells_at (part ++ rest) 0) l ∙ cells_split (part ++ rest) 0 m n ∙ ap (λ a. cells_at (part ++ rest) 0 m ++ cells_at (part ++ rest) a n) (zero-add m) in
    cc

-- the first part, and what is left
pub all_parts : (ws part rest : List ℕ) → ws ≡ part ++ rest → length part ≡ min 4096 (length ws) → all_cells ws ≡ all_cells part ++ all_cells rest
unfolding cells_at
all_parts ws part rest e h =
    let n = ap length e ∙ length-append part rest in
    elim (cases_lt (length ws) 4096) [
      | inl short ↦ let none : rest ≡ [] = nil_from_length rest (omega arith) in ap all_cells (e ∙ ap (λ r. part ++ r) none ∙ append-nil part) ∙ sym (append-nil (all_cells part)) ∙ ap (λ r. all_cells part ++ all_cells r) (sym none)
      | inr long ↦ let whole : length part % 4 ≡ 0 = omega arith in ap all_cells e ∙ all_append part rest whole
    ]

-- a text with cells put in
pub length_put : (t new : List Cell) (i : ℕ) → i ≤ length t → length (take i t ++ (new ++ drop i t)) ≡ length t + length new
length_put t new i l = simp (length-append, length-take-le i t l, length-drop) (omega arith)

-- and more put in behind them
pub put_more : (t t' old new : List Cell) (i at : ℕ) → i ≤ length t → at ≡ i + length old → t' ≡ take i t ++ (old ++ drop i t)
    → take at t' ++ (new ++ drop at t') ≡ take i t ++ ((old ++ new) ++ drop i t)
put_more t t' old new i at l e is =
    let s : t' ≡ (take i t ++ old) ++ drop i t = is ∙ sym (append_assoc (take i t) old (drop i t)) in
    let n : length (take i t ++ old) ≡ at = omega (arith, length-append (take i t) old, length-take-le i t l) in
    let a : take at t' ≡ take i t ++ old = ap (take at) s ∙ take_at (take i t ++ old) (drop i t) at n in
    let d : drop at t' ≡ drop i t = ap (drop at) s ∙ drop_at (take i t ++ old) (drop i t) at n in
    let x = append_assoc (take i t) old (new ++ drop i t) in
    let y = append_assoc old new (drop i t) in
    cc

-- a text from which cells were taken out
pub length_removed : (t u : List Cell) (i n : ℕ) → i + n ≤ length t → u ≡ take i t ++ drop (i + n) t → length u + n ≡ length t
length_removed t u i n l e = ap (λ xs. length xs + n) e ∙ simp (length-append, length-take-le i t (omega arith), length-drop) (omega arith)
