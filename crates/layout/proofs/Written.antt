-- Bytes that are written piece by piece: what was to be written from a place on, and what is still to be written from a later place on.
use Rattle.std.proofs.Common.{◌≡◌, ℕ, suc, ◌+◌, ◌-◌, ◌*◌, ◌<◌, ◌≤◌, List, [], ◌∷◌, ◌++◌, length, take, drop, refl, ap, ◌∙◌, subst, add-zero, arith}
use Rattle.std.proofs.lemmas.List.{take-append-drop, length-append, length-take, length-take-le, get_or-take}
use Rattle.model.specs.Paper.{Cell}
use Rattle.model.specs.Rows.{cut, rows}
use Rattle.model.specs.Walk.{step}
use Rattle.model.specs.Calls.{lines}
use Rattle.model.specs.Promise.{RowsFit}
use Rattle.model.proofs.Rows.{rows_fit, rows_any, rows_step, step_inside}
use Rattle.codec.specs.Bytes.{word_bytes, words_bytes, cells_bytes, rows_bytes, answer_bytes}
use Rattle.codec.specs.Over.{over}
use Rattle.codec.proofs.Writes.{over_more, length_cells_bytes, rows_bytes_fit, over_step, over_start}

pub record Written (out : List ℕ) (at : ℕ) (bs : List ℕ) (out' : List ℕ) (at' : ℕ) (bs' : List ℕ) : Type 0 where
  pub bytes : over out' at' bs' ≡ over out at bs
  pub place : at' + length bs' ≡ at + length bs

pub written_both : {o : List ℕ} {a : ℕ} {b o' : List ℕ} {a' : ℕ} {b' o'' : List ℕ} {a'' : ℕ} {b'' : List ℕ}
    → Written o a b o' a' b' → Written o' a' b' o'' a'' b'' → Written o a b o'' a'' b''
written_both f g = record { bytes = g.bytes ∙ f.bytes; place = g.place ∙ f.place }

-- cs has been written, and ds is what was to come after it
pub written_more : (o : List ℕ) (a : ℕ) (b cs ds o' : List ℕ) (a' : ℕ) → b ≡ cs ++ ds → o' ≡ over o a cs → a' ≡ a + length cs → a' ≤ length o → Written o a b o' a' ds
written_more o a b cs ds o' a' e f g l =
    let m = over_more o a cs a' g l ds in
    let n = length-append cs ds in
    record { bytes = cc; place = rw e (omega arith) }

over_nothing : (out : List ℕ) (at : ℕ) → over out at [] ≡ out
unfolding over
over_nothing out at = rw add-zero (take-append-drop at out)

pub written_done : {o : List ℕ} {a : ℕ} {b o' : List ℕ} {a' : ℕ} → (b' : List ℕ) → Written o a b o' a' b' → b' ≡ [] → (o' ≡ over o a b) × (a' ≡ a + length b)
written_done {o' = o'} {a' = a'} b' h e =
    let n = over_nothing o' a' in
    let l = ap length e in
    let f = h.bytes in
    let g = h.place in
    (cc, omega arith)

cells_bytes_none : cells_bytes [] ≡ []
unfolding cells_bytes
cells_bytes_none = refl

-- the bytes of a cell and of those after it
pub cells_bytes_more : (x : Cell) (xs ys : List Cell) (n m : ℕ) → ys ≡ x ∷ xs → n ≡ suc m → cells_bytes (take n ys) ≡ cells_bytes (x ∷ []) ++ cells_bytes (take m xs)
unfolding cells_bytes words_bytes word_bytes
cells_bytes_more x xs ys n m e f = rw (e, f) refl

-- the same of the first n cells of xs, when the first m of ys are still to be written
pub record CellsWritten (out : List ℕ) (at n : ℕ) (xs : List Cell) (out' : List ℕ) (at' m : ℕ) (ys : List Cell) : Type 0 where
  pub written : Written out at (cells_bytes (take n xs)) out' at' (cells_bytes (take m ys))
  pub enough : m ≤ length ys

module _ (o : List ℕ) (a n : ℕ) (xs : List Cell) (o' : List ℕ) (a' m : ℕ) (ys : List Cell) (h : CellsWritten o a n xs o' a' m ys) where
  pub cells_place : n ≤ length xs → a' + 16 * m ≡ a + 16 * n
  cells_place l =
      let e = h.enough in
      let f = h.written.place in
      let b = length_cells_bytes (take n xs) in
      let d = length_cells_bytes (take m ys) in
      let t = length-take-le n xs l in
      let u = length-take-le m ys e in
      omega arith

  pub cells_same : (zs : List Cell) → ys ≡ zs → CellsWritten o a n xs o' a' m zs
  cells_same zs e = subst (λ v. CellsWritten o a n xs o' a' m v) e h

  pub cells_more : (x : Cell) (zs : List Cell) → ys ≡ x ∷ zs → (m ≡ 0 → ⊥) → (o'' : List ℕ) (a'' : ℕ) → o'' ≡ over o' a' (cells_bytes (x ∷ [])) → a'' ≡ a' + 16 → a'' ≤ length o'
      → CellsWritten o a n xs o'' a'' (m - 1) zs
  cells_more x zs e nz o'' a'' f g l =
      let b = length_cells_bytes (x ∷ []) in
      let k : m ≡ suc (m - 1) = omega arith in
      let t = h.enough in
      let u = ap length e in
      record {
        written = written_both h.written (written_more o' a' (cells_bytes (take m ys)) (cells_bytes (x ∷ [])) (cells_bytes (take (m - 1) zs)) o'' a''
            (cells_bytes_more x zs ys m (m - 1) e k) f (omega arith) l);
        enough = omega arith;
      }

  pub cells_done : m ≡ 0 → n ≤ length xs → (o' ≡ over o a (cells_bytes (take n xs))) × (a' ≡ a + 16 * n)
  cells_done z l =
      let d = written_done (cells_bytes (take m ys)) h.written (rw z cells_bytes_none) in
      let p = cells_place l in
      (d.0, omega arith)

-- the same of the first n rows of xs, when the first m of ys are still to be written
pub record RowsWritten (w : ℕ) (out : List ℕ) (at n : ℕ) (xs : List Cell) (out' : List ℕ) (at' m : ℕ) (ys : List Cell) : Type 0 where
  pub written : Written out at (rows_bytes (take n (rows w xs))) out' at' (rows_bytes (take m (rows w ys)))
  pub enough : m ≤ length (rows w ys)

rows_room : (w n : ℕ) (xs : List Cell) → 0 < w → w ≤ 256 → length (rows_bytes (take n (rows w xs))) ≤ 4100 * n
unfolding RowsFit
rows_room w n xs wide h =
    let l = length-take n (rows w xs) in
    let f = rows_bytes_fit 256 (take n (rows w xs)) (λ i k. rw (get_or-take n (rows w xs) i [] (omega arith)) (let r = rows_fit w i xs wide (omega arith) in omega arith)) in
    omega arith

length_word : (n : ℕ) → length (word_bytes n) ≡ 4
unfolding word_bytes
length_word n = refl

-- one row further, of m rows; l are left after it
module _ (w : ℕ) (wide : 0 < w) (o : List ℕ) (a n : ℕ) (xs : List Cell) (o' : List ℕ) (a' m : ℕ) (ys : List Cell) (h : RowsWritten w o a n xs o' a' m ys)
    (l : ℕ) (e : m ≡ suc l) where
  pub rows_some : 0 < length ys
  rows_some = let t = h.enough in (rows_any w ys wide).0 (omega arith)

  pub row_inside : (cut w ys).long ≤ length ys
  row_inside = let s = step_inside w ys in omega arith

  row_bytes : rows_bytes (take m (rows w ys)) ≡ word_bytes (cut w ys).long ++ (cells_bytes (take (cut w ys).long ys) ++ rows_bytes (take l (rows w (drop (step w ys) ys))))
  unfolding rows_bytes
  row_bytes =
      let s = rows_step w ys wide rows_some in
      let k = length-take-le (cut w ys).long ys row_inside in
      rw (s, e, k) refl

  pub row_room : w ≤ 256 → a' + (4 + 16 * (cut w ys).long) ≤ a + 4100 * n
  row_room small =
      let p = h.written.place in
      let r = rows_room w n xs wide small in
      let b = ap length row_bytes in
      let b1 = length-append (word_bytes (cut w ys).long) (cells_bytes (take (cut w ys).long ys) ++ rows_bytes (take l (rows w (drop (step w ys) ys)))) in
      let b2 = length-append (cells_bytes (take (cut w ys).long ys)) (rows_bytes (take l (rows w (drop (step w ys) ys)))) in
      let b3 = length_word (cut w ys).long in
      let b4 = length_cells_bytes (take (cut w ys).long ys) in
      let b5 = length-take-le (cut w ys).long ys row_inside in
      omega arith

  pub rows_more : (zs : List Cell) → zs ≡ drop (step w ys) ys → (long : ℕ) → long ≡ (cut w ys).long → (o₁ o₂ : List ℕ) (a₁ a₂ : ℕ)
      → o₁ ≡ over o' a' (word_bytes long) → a₁ ≡ a' + 4 → a₁ ≤ length o' → o₂ ≡ over o₁ a₁ (cells_bytes (take long ys)) → a₂ ≡ a₁ + 16 * long → a₂ ≤ length o₁
      → RowsWritten w o a n xs o₂ a₂ l zs
  rows_more zs f long g o₁ o₂ a₁ a₂ w1 p1 l1 w2 p2 l2 =
      let b3 = length_word long in
      let b4 = length_cells_bytes (take long ys) in
      let b5 = length-take-le long ys (let i = row_inside in omega arith) in
      let s = ap length (rows_step w ys wide rows_some) in
      let t = h.enough in
      let tail : List ℕ = rows_bytes (take l (rows w zs)) in
      let first : Written o' a' (rows_bytes (take m (rows w ys))) o₁ a₁ (cells_bytes (take long ys) ++ tail) =
      written_more o' a' (rows_bytes (take m (rows w ys))) (word_bytes long) (cells_bytes (take long ys) ++ tail) o₁ a₁ (rw (f, g) row_bytes) w1 (omega arith) l1
      in
      let second : Written o₁ a₁ (cells_bytes (take long ys) ++ tail) o₂ a₂ tail =
      written_more o₁ a₁ (cells_bytes (take long ys) ++ tail) (cells_bytes (take long ys)) tail o₂ a₂ refl w2 (omega arith) l2
      in
      record { written = written_both h.written (written_both first second); enough = rw f (omega arith) }

-- all rows are written, after the head of the answer
pub rows_done : (w : ℕ) (out o : List ℕ) (a n : ℕ) (xs : List Cell) (o' : List ℕ) (a' m : ℕ) (ys : List Cell) → RowsWritten w o a n xs o' a' m ys → m ≡ 0 → n ≤ length (rows w xs)
    → o ≡ over out 0 (3 ∷ word_bytes n) → a ≡ 0 + 5 → 5 ≤ length out
    → (o' ≡ answer_bytes (lines (take n (rows w xs))) ++ drop a' out) × (a' ≡ length (answer_bytes (lines (take n (rows w xs)))))
unfolding answer_bytes rows_bytes
rows_done w out o a n xs o' a' m ys h z enough head place room =
    let d = written_done (rows_bytes (take m (rows w ys))) h.written (rw z refl) in
    let k = length_word n in
    let r : List (List Cell) = take n (rows w xs) in
    let t = length-take-le n (rows w xs) enough in
    let s = over_step out 0 (3 ∷ word_bytes n) (rows_bytes r) head (omega arith) (omega arith) d.0 in
    let v = over_start out ((3 ∷ word_bytes n) ++ rows_bytes r) in
    let b = length-append (word_bytes n) (rows_bytes r) in
    let q : a' ≡ length ((3 ∷ word_bytes n) ++ rows_bytes r) = let c = d.1 in omega arith in
    (rw (t, q) (s ∙ v), rw t q)
