-- Cells copied: one after the other, and stretch by stretch of the text.
use Rattle.std.proofs.Common.{◌≡◌, ℕ, zero, suc, ◌+◌, ◌-◌, ◌*◌, ◌/◌, ◌<◌, ◌≤◌, min, Bool, true, false, not, cond, eqb, List, [], ◌∷◌, ◌++◌, length, get_or, take, drop, sym, refl, ap, ◌∙◌, zero-add, arith, take-add}
use Rattle.std.specs.List.{between, count_by}
use Rattle.std.proofs.lemmas.List.{length-drop, length-take-le, take-append-drop, take-append-le, drop-drop, nil_from_length}
use Rattle.std.proofs.lemmas.List.Edits.{length-between}
use Rattle.std.proofs.lemmas.List.Recursion.{is_count_by}
use Rattle.model.specs.Paper.{pick, Cell, Change, cells_written, author_of}
use Rattle.slots.specs.Cells.{all_cells, cell_at, cells_at, Kept}
use Rattle.slots.proofs.Words.{cell_same, cells_part, cells_take, take_cells, drop_cells, kept_drop, kept_take}
use Rattle.pieces.specs.Store.{slot, used, number, piece, strung, cells_of, before, Order, Store, Located}
use Rattle.pieces.proofs.Texts.{length_piece, length_text, drop_text}
use Rattle.history.specs.Entry.{staying}
use Rattle.history.proofs.Logging.{length_cells_written}
use Rattle.recorder.specs.Records.{Stretched, written}
use Rattle.recorder.proofs.Entries.{run_long}
use Rattle.recorder.proofs.Splices.{between_written, written_more, written_at}

cells_written_append : (xs ys : List Cell) → cells_written (xs ++ ys) ≡ cells_written xs ++ cells_written ys
unfolding cells_written
cells_written_append [] ys = refl
cells_written_append (x ∷ xs) ys = ap (λ ws. x.letter ∷ (x.style ∷ (x.put_in ∷ (x.struck ∷ ws)))) (cells_written_append xs ys)

-- cells, and others behind them
pub cells_join :
    (u v w : List ℕ) (to k : ℕ) (xs ys : List Cell) → v ≡ written_at u to (cells_written xs) → w ≡ written_at v k (cells_written ys) →
    k ≡ to + 4 * length xs → to + 4 * length xs ≤ length u → w ≡ written_at u to (cells_written (xs ++ ys))
cells_join u v w to k xs ys is-v is_w e h =
    let l = length_cells_written xs in
    is_w ∙ ap (λ x. written_at x k (cells_written ys)) is-v ∙ written_more u to (cells_written xs) (omega arith) (cells_written ys) k (omega arith)
    ∙ ap (written_at u to) (sym (cells_written_append xs ys))

-- the words of cells: those behind the first, and all
cells_behind : (a b c d : ℕ) (ws : List ℕ) (i n : ℕ) → cells_at (a ∷ (b ∷ (c ∷ (d ∷ ws)))) (suc i) n ≡ cells_at ws i n
unfolding cells_at
cells_behind a b c d ws i zero = refl
cells_behind a b c d ws i (suc n) =
    let w : List ℕ = a ∷ (b ∷ (c ∷ (d ∷ ws))) in
    let e0 : 4 * suc i ≡ suc (suc (suc (suc (4 * i)))) = omega arith in
    let e1 : 4 * suc i + 1 ≡ suc (suc (suc (suc (4 * i + 1)))) = omega arith in
    let e2 : 4 * suc i + 2 ≡ suc (suc (suc (suc (4 * i + 2)))) = omega arith in
    let e3 : 4 * suc i + 3 ≡ suc (suc (suc (suc (4 * i + 3)))) = omega arith in
    let one = cell_same w ws (suc i) i (ap (λ k. get_or w k 0) e0) (ap (λ k. get_or w k 0) e1) (ap (λ k. get_or w k 0) e2) (ap (λ k. get_or w k 0) e3) in
    let rest = cells_behind a b c d ws (suc i) n in
    ap (λ x. x ∷ cells_at w (suc (suc i)) n) one ∙ ap (λ xs. cell_at ws i ∷ xs) rest

words_of : (n : ℕ) (ws : List ℕ) → length ws ≡ 4 * n → cells_written (cells_at ws 0 n) ≡ ws
unfolding cells_at cell_at cells_written
words_of zero ws l = sym (nil_from_length ws (omega (arith, l)))
words_of (suc n) [] l = absurd (omega (arith, l))
words_of (suc n) (a ∷ []) l = absurd (omega (arith, l))
words_of (suc n) (a ∷ (b ∷ [])) l = absurd (omega (arith, l))
words_of (suc n) (a ∷ (b ∷ (c ∷ []))) l = absurd (omega (arith, l))
words_of (suc n) (a ∷ (b ∷ (c ∷ (d ∷ ws)))) l =
    ap (λ r. a ∷ (b ∷ (c ∷ (d ∷ r)))) (ap cells_written (cells_behind a b c d ws 0 n) ∙ words_of n ws (omega (arith, l)))

-- there are not many cells
pub before_small : (p : List ℕ) (s : ℕ) → Order p s → (k : ℕ) → k ≤ s → before p k ≤ 1024 * k
unfolding before
before_small p s o zero l = omega arith
before_small p s o (suc k) l = omega (arith, before_small p s o k (omega arith), o.small k (omega arith))

pub text_small : (c p : List ℕ) (s : ℕ) → Order p s → length (cells_of c p s) ≤ 2097152
text_small c p s o = omega (arith, length_text c p s, before_small p s o s (omega arith), o.most)

-- the cells of one piece
piece_run : (c p : List ℕ) (k o m : ℕ) → o + m ≤ used p k → take m (drop o (piece c p k)) ≡ cells_at c (number p k o) m
unfolding piece
piece_run c p k o m h =
    let b = 1024 * slot p k in
    ap (take m) (drop_cells c b (used p k) o (omega arith)) ∙ take_cells c (b + o) (used p k - o) m (omega arith)

pub stretched :
    (c p : List ℕ) (s place most k o u from count : ℕ) (ws : List ℕ) → Store c p s → Located p s place k o → u ≡ used p k → from ≡ number p k o → 0 < most → count ≡ min most (u - o) →
    all_cells ws ≡ cells_at c from count → length ws ≡ 4 * count → Stretched (cells_of c p s) place most ws
stretched c p s place most k o u from count ws store f is-u is-from some is cells long =
    let w = f.within in
    let here = f.here in
    let sum = f.sum in
    let small = store.table.order.small k here in
    let lp = length_piece c p k in
    let ld = length-drop o (piece c p k) in
    let fits : o + count ≤ used p k = omega arith in
    let text : take count (drop (before p k + o) (cells_of c p s)) ≡ take count (drop o (piece c p k)) =
    ap (take count) (drop_text c p s k o here (omega arith)) ∙ take-append-le count (drop o (piece c p k)) (strung (piece c p) (suc k) (s - suc k)) (omega arith) in
    let there : take count (drop place (cells_of c p s)) ≡ cells_at c from count =
    ap (λ i. take count (drop i (cells_of c p s))) (sym sum) ∙ text ∙ piece_run c p k o count fits ∙ ap (λ i. cells_at c i count) (sym is-from) in
    let n : length ws / 4 ≡ count = omega arith in
    record {
      some = omega arith;
      few = omega arith;
      words =
          sym (words_of (length ws / 4) ws (omega arith)) ∙ ap cells_written (cells ∙ sym there)
          ∙ ap (λ m. cells_written (take m (drop place (cells_of c p s)))) (sym n);
    }

-- the words are those of whole cells
pub stretched_long : (xs : List Cell) (place most : ℕ) (ws : List ℕ) → Stretched xs place most ws → place + most ≤ length xs → length ws ≡ 4 * (length ws / 4)
stretched_long xs place most ws f h =
    let few = f.few in
    let d = length-drop place xs in
    let t = length-take-le (length ws / 4) (drop place xs) (omega arith) in
    omega (arith, ap length f.words, length_cells_written (take (length ws / 4) (drop place xs)))

-- one more stretch
pub run_more :
    (u v w : List ℕ) (cells : List Cell) (place n done : ℕ) (ws : List ℕ) → Stretched cells (place + done) (n - done) ws → place + n ≤ length cells → 4 * n ≤ length u →
    done < n → v ≡ written_at u 0 (cells_written (take done (drop place cells))) → w ≡ written_at v (4 * done) ws →
    w ≡ written_at u 0 (cells_written (take (done + length ws / 4) (drop place cells)))
run_more u v w cells place n done ws f h room less is-v is_w =
    let t = drop place cells in
    let k = length ws / 4 in
    let lt = length-drop place cells in
    let l = length-take-le done t (omega arith) in
    let d : drop done t ≡ drop (place + done) cells = drop-drop done place cells in
    let both : take done t ++ take k (drop (place + done) cells) ≡ take (done + k) t = ap (λ xs. take done t ++ take k xs) (sym d) ∙ sym (take-add done k t) in
    let new : w ≡ written_at v (4 * done) (cells_written (take k (drop (place + done) cells))) = is_w ∙ ap (written_at v (4 * done)) f.words in
    cells_join u v w 0 (4 * done) (take done t) (take k (drop (place + done) cells)) is-v new (omega arith) (omega arith) ∙ ap (λ xs. written_at u 0 (cells_written xs)) both

-- a cell that is written over the first words
pub cell_written : (u v : List ℕ) (x : Cell) → 4 ≤ length u → cell_at v 0 ≡ x → Kept u v 0 1 → v ≡ written u (cells_written (x ∷ []))
unfolding cells_at cells_written
cell_written u v x h is k =
    let l = k.long in
    let first : cells_at (take 4 v) 0 1 ≡ x ∷ [] = cells_take v 1 4 (omega arith) ∙ ap (λ y. y ∷ []) is in
    let front : take 4 v ≡ cells_written (x ∷ []) = sym (words_of 1 (take 4 v) (length-take-le 4 v (omega arith))) ∙ ap cells_written first in
    sym (take-append-drop 4 v) ∙ ap (λ ws. ws ++ drop 4 v) front ∙ ap (λ ws. cells_written (x ∷ []) ++ ws) (kept_drop u v 0 1 k 4 (omega arith))

-- cells that are pasted from number a on
pub pasted_at :
    (u v ws : List ℕ) (a : ℕ) → length ws ≡ 4 * (length ws / 4) → 4 * (a + length ws / 4) ≤ length u →
    cells_at v a (length ws / 4) ≡ all_cells ws → Kept u v a (length ws / 4) → v ≡ written_at u (4 * a) ws
pasted_at u v ws a whole h is k =
    let n = length ws / 4 in
    let l = k.long in
    let part = between (4 * a) (4 * (a + n)) v in
    let long : length part ≡ 4 * n = omega (arith, length-between v (4 * a) (4 * (a + n)) (omega arith)) in
    let there : part ≡ ws = sym (words_of n part long) ∙ ap cells_written (cells_part v a n ∙ is) ∙ words_of n ws whole in
    let e : 4 * (a + n) - 4 * a ≡ 4 * n = omega arith in
    let f : 4 * a + 4 * n ≡ 4 * (a + n) = omega arith in
    let g : 4 * (a + n) ≡ 4 * a + length ws = omega arith in
    let rest = drop-drop (4 * n) (4 * a) v ∙ ap (λ m. drop m v) f ∙ kept_drop u v a n k (4 * (a + n)) (omega arith) ∙ ap (λ m. drop m u) g in
    let mid : take (4 * n) (drop (4 * a) v) ≡ ws = ap (λ m. take m (drop (4 * a) v)) (sym e) ∙ there in
    sym (take-append-drop (4 * a) v) ∙ ap (λ xs. take (4 * a) v ++ xs) (sym (take-append-drop (4 * n) (drop (4 * a) v)))
    ∙ ap (λ xs. xs ++ (take (4 * n) (drop (4 * a) v) ++ drop (4 * n) (drop (4 * a) v))) (kept_take u v a n k (4 * a) (omega arith))
    ∙ ap (λ xs. take (4 * a) u ++ (xs ++ drop (4 * n) (drop (4 * a) v))) mid ∙ ap (λ xs. take (4 * a) u ++ (ws ++ xs)) rest

-- cells are read back from their words
cells_back : (xs : List Cell) → cells_at (cells_written xs) 0 (length xs) ≡ xs
unfolding cells_at cell_at cells_written
cells_back [] = refl
cells_back (x ∷ xs) = ap (λ ys. x ∷ ys) (cells_behind x.letter x.style x.put_in x.struck (cells_written xs) 0 (length xs) ∙ cells_back xs)

all_back : (xs : List Cell) → all_cells (cells_written xs) ≡ xs
all_back xs =
    let n : length (cells_written xs) / 4 ≡ length xs = omega (arith, length_cells_written xs) in
    ap (cells_at (cells_written xs) 0) n ∙ cells_back xs

-- how many cells stay, as the number of those that pass the test
abbrev pub stays : List Change → ℕ → Cell → Bool
stays cs a x = not (eqb (author_of cs x.put_in) (suc a))

pub staying_count : (xs : List Cell) (cs : List Change) (a : ℕ) → staying xs cs a ≡ count_by (stays cs a) xs
unfolding staying
staying_count xs cs a =
    is_count_by (λ ys. staying ys cs a) (stays cs a) refl
    (λ x ys. elim (eqb (author_of cs x.put_in) (suc a)) as (λ b. pick {A = ℕ} b 0 1 + staying ys cs a ≡ cond (not b) (1 + staying ys cs a) (staying ys cs a)) [ true ↦ zero-add (staying ys cs a) | false ↦ refl ]) xs

-- of the cells that were copied
pub copied_stay :
    (free new : List ℕ) (to place n : ℕ) (cells : List Cell) (cs : List Change) (a r : ℕ) → place + n ≤ length cells → to + 4 * n ≤ length free →
    new ≡ written_at free to (cells_written (take n (drop place cells))) →
    r ≡ staying (all_cells (between to (to + 4 * n) new)) cs a → r ≡ staying (take n (drop place cells)) cs a
copied_stay free new to place n cells cs a r h room is count =
    let xs : List Cell = take n (drop place cells) in
    let l : length xs ≡ n = run_long cells place n h in
    let m : 4 * n ≡ length (cells_written xs) = omega (arith, length_cells_written xs) in
    let there : between to (to + 4 * n) new ≡ cells_written xs =
    ap (λ k. between to (to + k) new) m ∙ ap (between to (to + length (cells_written xs))) is ∙ between_written free to (cells_written xs) (omega arith) in
    count ∙ ap (λ ys. staying ys cs a) (ap all_cells there ∙ all_back xs)
