-- Cells and changes that were written one after the other, read back. Assumes nothing.
use Rattle.std.proofs.Common.{◌≡◌, ℕ, zero, suc, ◌+◌, ◌*◌, ◌<◌, ◌≤◌, min, List, [], ◌∷◌, ◌++◌, length, get_or, drop, sym, refl, ap, ◌∙◌, ap₂, inl, inr, add-zero, arith}
use Rattle.std.proofs.lemmas.List.{append-nil, drop-drop, get_or-drop}
use Rattle.std.proofs.lemmas.Bool.{cases_lt}
use Rattle.model.specs.Paper.{Cell, Change, cells_written, changes_written}
use Rattle.changes.specs.Row.{change_at, changes_from}
use Rattle.slots.specs.Cells.{cell_at, cells_at}
use Rattle.slots.proofs.Words.{cells_split}
use Rattle.pieces.specs.Store.{slot, used, piece, strung, cells_of}
use Rattle.pieces.proofs.Strung.{strung_zero, strung_more}
use Rattle.witness.proofs.Counts.{share, Begins, order_word, used_word}

pub length_changes_written : (xs : List Change) → length (changes_written xs) ≡ 2 * length xs
unfolding changes_written
length_changes_written [] = refl
length_changes_written (x ∷ xs) = omega (arith, length_changes_written xs)

-- what stands at a place, in what is left from there on
word_at : (c d : List ℕ) (k i : ℕ) → drop k c ≡ d → get_or c (k + i) 0 ≡ get_or d i 0
word_at c d k i e = sym (get_or-drop k c i 0) ∙ ap (λ (ws : List ℕ). get_or ws i 0) e

left_at : (c d : List ℕ) (k j n : ℕ) → drop k c ≡ d → n ≡ k + j → drop n c ≡ drop j d
left_at c d k j n e f = ap (λ (m : ℕ). drop m c) f ∙ sym (drop-drop j k c) ∙ ap (drop j) e

pub cells_back : (c rest : List ℕ) (a : ℕ) (xs : List Cell) → drop (4 * a) c ≡ cells_written xs ++ rest → cells_at c a (length xs) ≡ xs
unfolding cells_at cell_at cells_written
cells_back c rest a [] e = refl
cells_back c rest a (x ∷ xs) e =
    let d : List ℕ = x.letter ∷ (x.style ∷ (x.put_in ∷ (x.struck ∷ (cells_written xs ++ rest)))) in
    let w0 : get_or c (4 * a) 0 ≡ x.letter = rw add-zero at (word_at c d (4 * a) 0 e) in
    let w1 : get_or c (4 * a + 1) 0 ≡ x.style = word_at c d (4 * a) 1 e in
    let w2 : get_or c (4 * a + 2) 0 ≡ x.put_in = word_at c d (4 * a) 2 e in
    let w3 : get_or c (4 * a + 3) 0 ≡ x.struck = word_at c d (4 * a) 3 e in
    let r : cells_at c (suc a) (length xs) ≡ xs = cells_back c rest (suc a) xs (left_at c d (4 * a) 4 (4 * suc a) e (omega arith)) in
    let one : cell_at c a ≡ x = rw (w0, w1, w2, w3) refl in
    ap₂ ◌∷◌ one r

pub changes_back : (w rest : List ℕ) (k : ℕ) (xs : List Change) → drop (2 * k) w ≡ changes_written xs ++ rest → changes_from w k (length xs) ≡ xs
unfolding changes_from changes_written
changes_back w rest k [] e = refl
changes_back w rest k (x ∷ xs) e =
    let d : List ℕ = x.author ∷ (x.became ∷ (changes_written xs ++ rest)) in
    let w0 : get_or w (2 * k) 0 ≡ x.author = rw add-zero at (word_at w d (2 * k) 0 e) in
    let w1 : get_or w (2 * k + 1) 0 ≡ x.became = word_at w d (2 * k) 1 e in
    let r : changes_from w (suc k) (length xs) ≡ xs = changes_back w rest (suc k) xs (left_at w d (2 * k) 2 (2 * suc k) e (omega arith)) in
    let one : change_at w k ≡ x = rw (w0, w1) refl in
    ap₂ ◌∷◌ one r

-- the words p begin with the tables of m cells: the first k pieces have the first cells
module _ (c : List ℕ) (m s : ℕ) (most : s ≤ 2048) (p : List ℕ) (begins : Begins p m s) where
  pub piece_back : (k : ℕ) → k < s → piece c p k ≡ cells_at c (1024 * k) (share m k)
  unfolding piece
  piece_back k h =
      let a : slot p k ≡ k = order_word m s most p begins k h in
      let b : used p k ≡ share m k = used_word m s most p begins k (omega arith) in
      rw (a, b) refl

  pieces_back : (k : ℕ) → k ≤ s → strung (piece c p) 0 k ≡ cells_at c 0 (min (1024 * k) m)
  unfolding cells_at
  pieces_back zero l = let e : min (1024 * 0) m ≡ 0 = omega arith in rw e (strung_zero (piece c p) 0)
  pieces_back (suc k) l =
      let before : strung (piece c p) 0 k ≡ cells_at c 0 (min (1024 * k) m) = pieces_back k (omega arith) in
      let more : strung (piece c p) 0 (suc k) ≡ strung (piece c p) 0 k ++ piece c p k = strung_more (piece c p) k in
      let here : piece c p k ≡ cells_at c (1024 * k) (share m k) = piece_back k (omega arith) in
      let joined : cells_at c 0 (min (1024 * k) m) ++ cells_at c (1024 * k) (share m k) ≡ cells_at c 0 (min (1024 * suc k) m) =
      elim (cases_lt (1024 * k) m) [
        | inl h ↦
            let f : min (1024 * k) m ≡ 1024 * k = omega arith in
            let g : min (1024 * suc k) m ≡ 1024 * k + share m k = omega arith in
            let z : 0 + 1024 * k ≡ 1024 * k = omega arith in
            rw (f, g) (sym (rw z at (cells_split c 0 (1024 * k) (share m k))))
        | inr h ↦
            let f : min (1024 * k) m ≡ m = omega arith in
            let g : min (1024 * suc k) m ≡ m = omega arith in
            let z : share m k ≡ 0 = omega arith in
            rw (f, g, z) (append-nil (cells_at c 0 m))
      ] in
      cc

-- the text of filled pieces
pub text_back : (c rest : List ℕ) (xs : List Cell) (s : ℕ) (p : List ℕ) → s ≤ 2048 → length xs ≤ 1024 * s → c ≡ cells_written xs ++ rest → Begins p (length xs) s →
    cells_of c p s ≡ xs
text_back c rest xs s p most room e begins =
    let f : min (1024 * s) (length xs) ≡ length xs = omega arith in
    pieces_back c (length xs) s most p begins s (omega arith) ∙ ap (cells_at c 0) f ∙ cells_back c rest 0 xs e
