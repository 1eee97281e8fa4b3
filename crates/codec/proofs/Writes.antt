-- One write after another, and how many bytes answers have.
use Rattle.std.proofs.Common.{◌≡◌, ℕ, suc, ◌+◌, ◌*◌, ◌/◌, ◌%◌, ◌^◌, ◌<◌, ◌≤◌, List, [], ◌∷◌, ◌++◌, length, get_or, take, drop, set, sym, refl, ap, ◌∙◌, append_assoc, append-nil, add-zero, zero-add, mul-suc, add-one, arith, length-append}
use Rattle.std.proofs.lemmas.List.{length-take-le, length-drop, take_at, drop_at, drop-drop, set_split, take-append-drop}
use Rattle.std.proofs.lemmas.List.Edits.{sets, sets-eq}
use borrow.Rule.Slice.PartMut.{put_mid}
use Rattle.model.specs.Paper.{Cell}
use Rattle.codec.specs.Bytes.{word_bytes, words_bytes, cells_bytes, rows_bytes}
use Rattle.codec.specs.Over.{over}

-- n is the place after what was written
module _ (out : List ℕ) (at : ℕ) (bs : List ℕ) (n : ℕ) (e : n ≡ at + length bs) (fits : n ≤ length out) where
  pub take_over : take n (over out at bs) ≡ take at out ++ bs
  unfolding over
  take_over =
      let h : at ≤ length out = omega arith in
      let l : length (take at out ++ bs) ≡ n = simp (length-append, length-take-le) (omega arith) in
      let t = take_at (take at out ++ bs) (drop (at + length bs) out) n l in
      let a = append_assoc (take at out) bs (drop (at + length bs) out) in
      cc

  pub drop_over : drop n (over out at bs) ≡ drop n out
  unfolding over
  drop_over =
      let h : at ≤ length out = omega arith in
      let l : length (take at out ++ bs) ≡ n = simp (length-append, length-take-le) (omega arith) in
      let t = drop_at (take at out ++ bs) (drop (at + length bs) out) n l in
      let a = append_assoc (take at out) bs (drop (at + length bs) out) in
      cc

  pub length_over : length (over out at bs) ≡ length out
  unfolding over
  length_over =
      let h : at ≤ length out = omega arith in
      simp (length-append, length-take-le, length-drop) (omega arith)

  -- what is written next continues it
  pub over_more : (cs : List ℕ) → over (over out at bs) n cs ≡ over out at (bs ++ cs)
  unfolding over
  over_more cs =
      let t = take_over in
      let d = drop_over in
      let d1 = drop-drop (length cs) n (over out at bs) in
      let d2 = drop-drop (length cs) n out in
      let a1 = append_assoc (take at out) bs (cs ++ drop (n + length cs) out) in
      let a2 = append_assoc bs cs (drop (n + length cs) out) in
      let s : at + length (bs ++ cs) ≡ n + length cs = simp length-append (omega arith) in
      cc

-- the step of a caller that writes piece after piece
pub over_step : (out : List ℕ) (at : ℕ) (bs cs : List ℕ) {n : ℕ} {first second : List ℕ} → first ≡ over out at bs → n ≡ at + length bs → n ≤ length out
    → second ≡ over first n cs → second ≡ over out at (bs ++ cs)
over_step out at bs cs {n} f e fits g = let m = over_more out at bs n e fits cs in cc

pub over_nothing : (out : List ℕ) (at : ℕ) → over out at [] ≡ out
unfolding over
over_nothing out at = rw add-zero (take-append-drop at out)

-- from the first byte on
pub over_start : (out bs : List ℕ) → over out 0 bs ≡ bs ++ drop (length bs) out
unfolding over
over_start out bs = rw zero-add

pub set_over : (out : List ℕ) (at b : ℕ) → at < length out → set out at b ≡ over out at (b ∷ [])
unfolding over
set_over out at b h = simp (set_split out at b h, add-one)

pub sets_over : (out : List ℕ) (at : ℕ) (bs : List ℕ) → at + length bs ≤ length out → sets out at bs ≡ over out at bs
unfolding over
sets_over out at bs h = let s = sets-eq bs out at h in let a = append_assoc (take at out) bs (drop (at + length bs) out) in cc

-- what a part of the lent bytes holds now is written over them
pub lent_over : (out : List ℕ) (at k : ℕ) (bs : List ℕ) → k ≡ length bs → put_mid at k out bs ≡ over out at bs
unfolding over
lent_over out at k bs e = rw (e, drop-drop (length bs) at out) refl

-- the bytes of a number that the library makes
pub word_is : (n : ℕ) → n < 2 ^ 32 → n % 256 ∷ (n / 256 % 256 ∷ (n / 65536 % 256 ∷ (n / 16777216 % 256 ∷ []))) ≡ word_bytes n
unfolding word_bytes
word_is n h =
    let e : n / 16777216 % 256 ≡ n / 16777216 = omega arith in
    ap (λ z. n % 256 ∷ (n / 256 % 256 ∷ (n / 65536 % 256 ∷ (z ∷ [])))) e

-- how long the bytes are
pub length_words_bytes : (ns : List ℕ) → length (words_bytes ns) ≡ 4 * length ns
unfolding words_bytes word_bytes
length_words_bytes [] = refl
length_words_bytes (n ∷ ns) = let ih = length_words_bytes ns in omega arith

pub length_cells_bytes : (xs : List Cell) → length (cells_bytes xs) ≡ 16 * length xs
unfolding cells_bytes words_bytes word_bytes
length_cells_bytes [] = refl
length_cells_bytes (x ∷ xs) = let ih = length_cells_bytes xs in omega arith

-- and those of one more at the end
pub words_bytes_push : (ns : List ℕ) (n : ℕ) → words_bytes (ns ++ (n ∷ [])) ≡ words_bytes ns ++ word_bytes n
unfolding words_bytes
words_bytes_push [] n = append-nil (word_bytes n)
words_bytes_push (m ∷ ns) n = ap (λ l. word_bytes m ++ l) (words_bytes_push ns n) ∙ sym (append_assoc (word_bytes m) (words_bytes ns) (word_bytes n))

pub cells_bytes_push : (xs : List Cell) (x : Cell) → cells_bytes (xs ++ (x ∷ [])) ≡ cells_bytes xs ++ cells_bytes (x ∷ [])
unfolding cells_bytes words_bytes word_bytes
cells_bytes_push [] x = refl
cells_bytes_push (y ∷ xs) x = rw (cells_bytes_push xs x)

pub rows_bytes_push : (rs : List (List Cell)) (r : List Cell) → rows_bytes (rs ++ (r ∷ [])) ≡ rows_bytes rs ++ (word_bytes (length r) ++ cells_bytes r)
unfolding rows_bytes
rows_bytes_push [] r = simp append-nil
rows_bytes_push (q ∷ rs) r = simp (rows_bytes_push rs r, append_assoc)

-- The steps of a caller, after what it had written before: a number of a row of numbers, a cell of a row, and the end of a row, whose count
-- stands before its cells.
module _ (out : List ℕ) (at : ℕ) (before : List ℕ) where
  pub words_step : (ns : List ℕ) (n : ℕ) {place : ℕ} {first second : List ℕ} → first ≡ over out at (before ++ words_bytes ns) → place ≡ at + (length before + 4 * length ns)
      → place ≤ length out → second ≡ over first place (word_bytes n) → second ≡ over out at (before ++ words_bytes (ns ++ (n ∷ [])))
  words_step ns n {place} f e fits g =
      let l : place ≡ at + length (before ++ words_bytes ns) = simp (length-append, length_words_bytes) e in
      let s = over_step out at (before ++ words_bytes ns) (word_bytes n) f l fits g in
      let a = append_assoc before (words_bytes ns) (word_bytes n) in
      let p = words_bytes_push ns n in
      cc

  pub cells_step : (xs : List Cell) (x : Cell) {place : ℕ} {first second : List ℕ} → first ≡ over out at (before ++ cells_bytes xs)
      → place ≡ at + (length before + 16 * length xs) → place ≤ length out → second ≡ over first place (cells_bytes (x ∷ []))
      → second ≡ over out at (before ++ cells_bytes (xs ++ (x ∷ [])))
  cells_step xs x {place} f e fits g =
      let l : place ≡ at + length (before ++ cells_bytes xs) = simp (length-append, length_cells_bytes) e in
      let s = over_step out at (before ++ cells_bytes xs) (cells_bytes (x ∷ [])) f l fits g in
      let a = append_assoc before (cells_bytes xs) (cells_bytes (x ∷ [])) in
      let p = cells_bytes_push xs x in
      cc

pub rows_step : (before : List ℕ) (rs : List (List Cell)) (r : List Cell)
    → ((before ++ rows_bytes rs) ++ word_bytes (length r)) ++ cells_bytes r ≡ before ++ rows_bytes (rs ++ (r ∷ []))
rows_step before rs r = simp (append_assoc, rows_bytes_push)

-- rows of at most w cells
pub rows_bytes_fit : (w : ℕ) (rs : List (List Cell)) → ((i : ℕ) → i < length rs → length (get_or rs i []) ≤ w) → length (rows_bytes rs) ≤ (4 + 16 * w) * length rs
unfolding rows_bytes word_bytes
rows_bytes_fit w [] h = omega arith
rows_bytes_fit w (r ∷ rs) h =
    let ih = rows_bytes_fit w rs (λ i l. h (suc i) (omega arith)) in
    let first = h 0 (omega arith) in
    let c = length_cells_bytes r in
    let m = mul-suc (4 + 16 * w) (length rs) in
    simp length-append (omega arith)
