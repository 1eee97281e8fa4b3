-- Laws of cells in words.
use Rattle.std.proofs.Common.{◌≡◌, ℕ, zero, suc, ◌+◌, ◌-◌, ◌*◌, ◌/◌, ◌<◌, ◌≤◌, List, [], ◌∷◌, ◌++◌, length, get_or, take, drop, refl, sym, ap, ◌∙◌, add-zero, add-suc, suc-add, zero-add, arith}
use Rattle.std.proofs.lemmas.List.{ext_get_or, get_or-drop, get_or-take, length-drop, length-take, length-take-le, take_at, drop_at}
use Rattle.std.proofs.lemmas.List.Edits.{length-between}
use Rattle.std.specs.List.{between}
use Rattle.model.specs.Paper.{Cell, new_cells}
use Rattle.slots.specs.Cells.{all_cells, cell_at, cells_at, Kept}

-- a cell is known from its four words
pub cell_same : (c d : List ℕ) (a b : ℕ) → get_or c (4 * a) 0 ≡ get_or d (4 * b) 0 → get_or c (4 * a + 1) 0 ≡ get_or d (4 * b + 1) 0
    → get_or c (4 * a + 2) 0 ≡ get_or d (4 * b + 2) 0 → get_or c (4 * a + 3) 0 ≡ get_or d (4 * b + 3) 0 → cell_at c a ≡ cell_at d b
unfolding cell_at
cell_same c d a b p q r s = cc

pub cell_words : (c d : List ℕ) (a b : ℕ) → ((j : ℕ) → j < 4 → get_or c (4 * a + j) 0 ≡ get_or d (4 * b + j) 0) → cell_at c a ≡ cell_at d b
cell_words c d a b h = cell_same c d a b (simp add-zero at (h 0 (omega arith))) (h 1 (omega arith)) (h 2 (omega arith)) (h 3 (omega arith))

pub length_cells : (c : List ℕ) (a n : ℕ) → length (cells_at c a n) ≡ n
unfolding cells_at
length_cells c a zero = refl
length_cells c a (suc n) = ap suc (length_cells c (suc a) n)

-- two runs of cells are the same if each cell is
pub cells_same : (c d : List ℕ) (a b n : ℕ) → ((i : ℕ) → i < n → cell_at c (a + i) ≡ cell_at d (b + i)) → cells_at c a n ≡ cells_at d b n
unfolding cells_at
cells_same c d a b zero h = refl
cells_same c d a b (suc n) h =
    let first : cell_at c a ≡ cell_at d b = simp add-zero at (h 0 (omega arith)) in
    let rest = cells_same c d (suc a) (suc b) n (λ i l. simp suc-add (simp add-suc at (h (suc i) (omega arith)))) in
    cc

-- the first m and the others
pub cells_split : (c : List ℕ) (a m n : ℕ) → cells_at c a (m + n) ≡ cells_at c a m ++ cells_at c (a + m) n
unfolding cells_at
cells_split c a zero n = rw (zero-add, add-zero)
cells_split c a (suc m) n = rw (suc-add, add-suc) (ap (λ xs. cell_at c a ∷ xs) (cells_split c (suc a) m n ∙ rw suc-add))

-- one more
pub cells_more : (c : List ℕ) (a n : ℕ) → cells_at c a (n + 1) ≡ cells_at c a n ++ (cell_at c (a + n) ∷ [])
unfolding cells_at
cells_more c a n = cells_split c a n 1

pub get_or_cells : (c : List ℕ) (a n i : ℕ) (x : Cell) → i < n → get_or (cells_at c a n) i x ≡ cell_at c (a + i)
unfolding cells_at
get_or_cells c a zero i x l = absurd (omega arith)
get_or_cells c a (suc n) zero x l = rw add-zero
get_or_cells c a (suc n) (suc i) x l = get_or_cells c (suc a) n i x (omega arith) ∙ rw (suc-add, add-suc)

pub take_cells : (c : List ℕ) (a n i : ℕ) → i ≤ n → take i (cells_at c a n) ≡ cells_at c a i
take_cells c a n i l =
    let e : n ≡ i + (n - i) = omega arith in
    ap (λ m. take i (cells_at c a m)) e ∙ ap (take i) (cells_split c a i (n - i)) ∙ take_at (cells_at c a i) (cells_at c (a + i) (n - i)) i (length_cells c a i)

pub drop_cells : (c : List ℕ) (a n i : ℕ) → i ≤ n → drop i (cells_at c a n) ≡ cells_at c (a + i) (n - i)
drop_cells c a n i l =
    let e : n ≡ i + (n - i) = omega arith in
    ap (λ m. drop i (cells_at c a m)) e ∙ ap (drop i) (cells_split c a i (n - i)) ∙ drop_at (cells_at c a i) (cells_at c (a + i) (n - i)) i (length_cells c a i)

-- cells in a part of the words
pub cells_take : (w : List ℕ) (n k : ℕ) → 4 * n ≤ k → cells_at (take k w) 0 n ≡ cells_at w 0 n
cells_take w n k h = cells_same (take k w) w 0 0 n (λ i l. cell_words (take k w) w (0 + i) (0 + i) (λ j m. get_or-take k w (4 * (0 + i) + j) 0 (omega arith)))

pub cells_drop : (w : List ℕ) (a n : ℕ) → cells_at (drop (4 * a) w) 0 n ≡ cells_at w a n
cells_drop w a n =
    cells_same (drop (4 * a) w) w 0 a n (λ i l. cell_words (drop (4 * a) w) w (0 + i) (a + i) (λ j m.
    let e : 4 * a + (4 * (0 + i) + j) ≡ 4 * (a + i) + j = omega arith in
    rw e at (get_or-drop (4 * a) w (4 * (0 + i) + j) 0)))

pub cells_part : (w : List ℕ) (a n : ℕ) → cells_at (between (4 * a) (4 * (a + n)) w) 0 n ≡ cells_at w a n
cells_part w a n = cells_take (drop (4 * a) w) n (4 * (a + n) - 4 * a) (omega arith) ∙ cells_drop w a n

pub all_take : (w : List ℕ) (n : ℕ) → 4 * n ≤ length w → all_cells (take (4 * n) w) ≡ cells_at w 0 n
all_take w n h =
    let l : length (take (4 * n) w) / 4 ≡ n = omega (arith, length-take-le (4 * n) w h) in
    ap (cells_at (take (4 * n) w) 0) l ∙ cells_take w n (4 * n) (omega arith)

pub all_part : (w : List ℕ) (a n : ℕ) → 4 * (a + n) ≤ length w → all_cells (between (4 * a) (4 * (a + n)) w) ≡ cells_at w a n
all_part w a n h =
    let l : length (between (4 * a) (4 * (a + n)) w) / 4 ≡ n = omega (arith, length-between w (4 * a) (4 * (a + n)) h) in
    ap (cells_at (between (4 * a) (4 * (a + n)) w) 0) l ∙ cells_part w a n

-- the first m cells and the others
pub all_halves : (w : List ℕ) (m : ℕ) → 4 * m ≤ length w → all_cells (take (4 * m) w) ++ all_cells (drop (4 * m) w) ≡ all_cells w
all_halves w m h =
    let n = length w / 4 in
    let l : length (drop (4 * m) w) / 4 ≡ n - m = omega (arith, length-drop (4 * m) w) in
    let a = all_take w m h in
    let b : all_cells (drop (4 * m) w) ≡ cells_at w m (n - m) = ap (cells_at (drop (4 * m) w) 0) l ∙ cells_drop w m (n - m) in
    let c = cells_split w 0 m (n - m) in
    let d : m + (n - m) ≡ n = omega arith in
    let e = zero-add m in
    cc

-- what a change of the n cells from b on leaves
module _ (c d : List ℕ) (b n : ℕ) (k : Kept c d b n) where
  pub kept_cell_below : (a : ℕ) → a < b → cell_at d a ≡ cell_at c a
  kept_cell_below a l =
      cell_same d c a a (k.below (4 * a) (omega arith)) (k.below (4 * a + 1) (omega arith)) (k.below (4 * a + 2) (omega arith)) (k.below (4 * a + 3) (omega arith))

  pub kept_cell_above : (a : ℕ) → b + n ≤ a → cell_at d a ≡ cell_at c a
  kept_cell_above a l =
      cell_same d c a a (k.above (4 * a) (omega arith)) (k.above (4 * a + 1) (omega arith)) (k.above (4 * a + 2) (omega arith)) (k.above (4 * a + 3) (omega arith))

  pub kept_cells_below : (a m : ℕ) → a + m ≤ b → cells_at d a m ≡ cells_at c a m
  kept_cells_below a m l = cells_same d c a a m (λ i h. kept_cell_below (a + i) (omega arith))

  pub kept_cells_above : (a m : ℕ) → b + n ≤ a → cells_at d a m ≡ cells_at c a m
  kept_cells_above a m l = cells_same d c a a m (λ i h. kept_cell_above (a + i) (omega arith))

  pub kept_wider : (a m : ℕ) → a ≤ b → b + n ≤ a + m → Kept c d a m
  kept_wider a m l r = record { long = k.long; below = λ w h. k.below w (omega arith); above = λ w h. k.above w (omega arith) }

  pub kept_drop : (m : ℕ) → 4 * (b + n) ≤ m → drop m d ≡ drop m c
  kept_drop m l =
      let e = k.long in
      ext_get_or 0 (drop m d) (drop m c) (simp (length-drop) (omega arith))
      (λ i h. simp get_or-drop (k.above (m + i) (omega arith)))

  pub kept_take : (m : ℕ) → m ≤ 4 * b → take m d ≡ take m c
  kept_take m l =
      let e = k.long in
      ext_get_or 0 (take m d) (take m c) (simp length-take (omega arith))
      (λ i h. let s : i < m = omega (arith, length-take m d) in get_or-take m d i 0 s ∙ k.below i (omega arith) ∙ sym (get_or-take m c i 0 s))

pub kept_none : (c : List ℕ) (a : ℕ) → Kept c c a 0
kept_none c a = record { long = refl; below = λ w h. refl; above = λ w h. refl }

-- two changes of one run
pub kept_twice : (c d e : List ℕ) (a n : ℕ) → Kept c d a n → Kept d e a n → Kept c e a n
kept_twice c d e a n j k =
    record { long = k.long ∙ j.long; below = λ w h. k.below w h ∙ j.below w h; above = λ w h. k.above w h ∙ j.above w h }

-- new letters, one more
pub new_cells_more : (ls : List ℕ) (l s c : ℕ) → new_cells (ls ++ (l ∷ [])) s c ≡ new_cells ls s c ++ (record { letter = l; style = s; put_in = suc c; struck = 0 } ∷ [])
unfolding new_cells
new_cells_more [] l s c = refl
new_cells_more (x ∷ ls) l s c = ap (λ xs. record { letter = x; style = s; put_in = suc c; struck = 0 } ∷ xs) (new_cells_more ls l s c)

pub new_cells_append : (ls ms : List ℕ) (s c : ℕ) → new_cells (ls ++ ms) s c ≡ new_cells ls s c ++ new_cells ms s c
unfolding new_cells
new_cells_append [] ms s c = refl
new_cells_append (x ∷ ls) ms s c = ap (λ xs. record { letter = x; style = s; put_in = suc c; struck = 0 } ∷ xs) (new_cells_append ls ms s c)

pub length_new : (ls : List ℕ) (s c : ℕ) → length (new_cells ls s c) ≡ length ls
unfolding new_cells
length_new [] s c = refl
length_new (x ∷ ls) s c = ap suc (length_new ls s c)

-- the first cell of words, and those of the other words
pub all_first : (w : List ℕ) → 4 ≤ length w → all_cells w ≡ cell_at w 0 ∷ all_cells (drop 4 w)
unfolding cells_at
all_first w h =
    let n = length (drop 4 w) / 4 in
    let l : length w / 4 ≡ suc n = omega (arith, length-drop 4 w) in
    ap (cells_at w 0) l ∙ ap (λ xs. cell_at w 0 ∷ xs) (sym (cells_drop w 1 n))

pub all_none : (w : List ℕ) → length w < 4 → all_cells w ≡ []
unfolding cells_at
all_none w h = let l : length w / 4 ≡ 0 = omega arith in ap (cells_at w 0) l
