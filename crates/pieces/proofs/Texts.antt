-- The text piece by piece: what stands at a place, and how far a walk over the pieces has come.
use Rattle.std.proofs.Common.{◌≡◌, ℕ, zero, suc, ◌+◌, ◌-◌, ◌*◌, ◌<◌, ◌≤◌, List, ◌∷◌, ◌++◌, length, get_or, drop, sym, ap, ◌∙◌, add-zero, add-suc, add-one, arith}
use Rattle.std.proofs.lemmas.List.{length-append, drop_more, get_or-drop}
use Rattle.slots.specs.Cells.{cell_at}
use Rattle.slots.proofs.Words.{length_cells, get_or_cells}
use Rattle.pieces.specs.Store.{slot, used, number, piece, strung, cells_of, before, no_cell}
use Rattle.pieces.proofs.Strung.{strung_zero, strung_at, strung_more, drop_within}

pub length_piece : (c p : List ℕ) (k : ℕ) → length (piece c p k) ≡ used p k
unfolding piece
length_piece c p k = length_cells c (1024 * slot p k) (used p k)

pub before_more : (p : List ℕ) (k : ℕ) → before p (k + 1) ≡ before p k + used p k
unfolding before
before_more p k = rw add-one

pub before_mono : (p : List ℕ) (k n : ℕ) → before p k ≤ before p (k + n)
unfolding before
before_mono p k zero = rw add-zero (omega arith)
before_mono p k (suc n) = rw add-suc (omega (arith, before_mono p k n))

-- piece k ends within the text
pub before_within : (p : List ℕ) (s k : ℕ) → k < s → before p k + used p k ≤ before p s
before_within p s k l =
    let e : k + 1 + (s - (k + 1)) ≡ s = omega arith in
    let m : before p (k + 1) ≤ before p s = rw e at (before_mono p (k + 1) (s - (k + 1))) in
    omega (arith, before_more p k)

-- the first k pieces have as many cells as stand before piece k
pub length_before : (c p : List ℕ) (k : ℕ) → length (strung (piece c p) 0 k) ≡ before p k
unfolding before
length_before c p zero = ap length (strung_zero (piece c p) 0)
length_before c p (suc k) =
    let e = ap length (strung_more (piece c p) k) in
    let l = length-append (strung (piece c p) 0 k) (piece c p k) in
    let u = length_piece c p k in
    omega (arith, length_before c p k)

pub length_text : (c p : List ℕ) (s : ℕ) → length (cells_of c p s) ≡ before p s
length_text = length_before

-- the text from a place in piece k on
pub drop_text : (c p : List ℕ) (s k j : ℕ) → k < s → j ≤ used p k → drop (before p k + j) (cells_of c p s) ≡ drop j (piece c p k) ++ strung (piece c p) (suc k) (s - suc k)
drop_text c p s k j l m =
    let b = length_before c p k in
    let u = length_piece c p k in
    let e = strung_at (piece c p) k s l in
    let d = drop_within (strung (piece c p) 0 k) (piece c p k) (strung (piece c p) (suc k) (s - suc k)) j (omega arith) in
    cc

piece_at : (c p : List ℕ) (k j : ℕ) → j < used p k → get_or (piece c p k) j no_cell ≡ cell_at c (number p k j)
unfolding piece
piece_at c p k j m = get_or_cells c (1024 * slot p k) (used p k) j no_cell m

-- a step of a walk: the text from cell j of piece k on
pub drop_text_more : (c p : List ℕ) (s k j : ℕ) → k < s → j < used p k
    → drop (before p k + j) (cells_of c p s) ≡ cell_at c (number p k j) ∷ drop (before p k + (j + 1)) (cells_of c p s)
drop_text_more c p s k j l m =
    let u = length_piece c p k in
    let here = drop_text c p s k j l (omega arith) in
    let next = drop_text c p s k (j + 1) l (omega arith) in
    let more = drop_more (piece c p k) j no_cell (omega arith) in
    let at = piece_at c p k j m in
    cc

-- the next piece begins where piece k ends
pub drop_text_next : (c p : List ℕ) (s k : ℕ) → drop (before p (k + 1) + 0) (cells_of c p s) ≡ drop (before p k + used p k) (cells_of c p s)
drop_text_next c p s k = rw (add-zero, before_more)

-- cell j of piece k stands at its place in the text
pub text_at : (c p : List ℕ) (s k j : ℕ) → k < s → j < used p k → get_or (cells_of c p s) (before p k + j) no_cell ≡ cell_at c (number p k j)
text_at c p s k j l m =
    let e = get_or-drop (before p k + j) (cells_of c p s) 0 no_cell in
    let d = ap (λ xs. get_or xs 0 no_cell) (drop_text_more c p s k j l m) in
    sym (rw add-zero at e) ∙ d
