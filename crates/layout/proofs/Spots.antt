-- A walk over what is left of a text, from spot to spot.
use Rattle.std.proofs.Common.{◌≡◌, ℕ, zero, suc, ◌+◌, ◌-◌, ◌*◌, ◌<◌, ◌≤◌, true, false, List, [], ◌∷◌, ◌++◌, length, get_or, drop, sym, refl, ap, ◌∙◌, zero-add, arith}
use Rattle.std.proofs.lemmas.List.{drop_all, drop_at, length-drop}
use Rattle.model.specs.Paper.{pick, Cell, seen, view}
use Rattle.model.proofs.Rows.{by_test}
use Rattle.pieces.specs.Store.{used, piece, strung, cells_of, before, no_cell, Order}
use Rattle.pieces.proofs.Strung.{strung_split}
use Rattle.pieces.proofs.Texts.{length_before, length_text, drop_text_more, drop_text_next, text_at}
use Rattle.slots.specs.Cells.{cell_at, cells_at}
use Rattle.slots.proofs.Words.{length_cells}
use Rattle.kept.proofs.Seen.{view_append, view_none}
use Rattle.layout.specs.Spots.{left}

view_more : (way : ℕ) (x : Cell) (xs : List Cell) → view way (x ∷ xs) ≡ pick (seen way x) (x ∷ view way xs) (view way xs)
unfolding view
view_more way x xs = refl

pub view_short : (way : ℕ) (xs : List Cell) → length (view way xs) ≤ length xs
unfolding view
view_short way [] = omega arith
view_short way (x ∷ xs) =
    let h = view_short way xs in
    by_test (seen way x) (x ∷ view way xs) (view way xs) (λ ys. length ys ≤ suc (length xs)) (λ _. omega arith) (λ _. omega arith)

-- one cell further
module _ (c p : List ℕ) (s way k j : ℕ) (x : Cell) (here : k < s) (within : j < used p k) (is : x ≡ get_or (cells_of c p s) (before p k + j) no_cell) where
  step : left c p s way k j ≡ pick (seen way x) (x ∷ left c p s way k (j + 1)) (left c p s way k (j + 1))
  unfolding left
  step =
      let d = drop_text_more c p s k j here within in
      let a = text_at c p s k j here within in
      let v = view_more way x (drop (before p k + (j + 1)) (cells_of c p s)) in
      cc

  pub left_seen : true ≡ seen way x → left c p s way k j ≡ x ∷ left c p s way k (j + 1)
  left_seen e = step ∙ rw (sym e)

  pub left_unseen : false ≡ seen way x → left c p s way k j ≡ left c p s way k (j + 1)
  left_unseen e = step ∙ rw (sym e)

-- the first of the m cells from number n on, and the others
pub first_of : (c : List ℕ) (n m : ℕ) (x : Cell) (ys : List Cell) → cells_at c n m ≡ x ∷ ys → (0 < m) × (cell_at c n ≡ x) × ((k j : ℕ) → k ≡ n + 1 → j ≡ m - 1 → ys ≡ cells_at c k j)
unfolding cells_at
first_of c n zero x ys e = absurd (let l = ap length e in omega arith)
first_of c n (suc m) x ys e =
    (omega arith, cc, λ k j f g. let h : k ≡ suc n = omega arith in let i : j ≡ m = omega arith in rw (h, i) (cc))

pub none_of : (c : List ℕ) (n m : ℕ) → cells_at c n m ≡ [] → m ≡ 0
none_of c n m e =
    let l = length_cells c n m in
    let z = ap length e in
    omega arith

-- from the end of a piece to the next
pub left_next : (c p : List ℕ) (s way k j : ℕ) → j ≡ used p k → left c p s way (k + 1) 0 ≡ left c p s way k j
unfolding left
left_next c p s way k j e = rw e (ap (view way) (drop_text_next c p s k))

pub left_end : (c p : List ℕ) (s way k j : ℕ) → k ≡ s → left c p s way k j ≡ []
unfolding left
left_end c p s way k j e =
    let l = length_text c p s in
    let d : drop (before p s + j) (cells_of c p s) ≡ [] = drop_all (before p s + j) (cells_of c p s) (omega arith) in
    rw e (ap (view way) d ∙ view_none way)

pub left_all : (c p : List ℕ) (s way : ℕ) → left c p s way 0 0 ≡ view way (cells_of c p s)
unfolding left before
left_all c p s way = refl

-- what is seen of the text, piece k and all after it apart
pub view_split : (c p : List ℕ) (s way k : ℕ) → k ≤ s → view way (cells_of c p s) ≡ view way (strung (piece c p) 0 k) ++ view way (strung (piece c p) k (s - k))
view_split c p s way k h =
    let e : s ≡ k + (s - k) = omega arith in
    ap (λ n. view way (strung (piece c p) 0 n)) e ∙ ap (view way) (strung_split (piece c p) 0 k (s - k) ∙ rw zero-add refl)
    ∙ view_append way (strung (piece c p) 0 k) (strung (piece c p) k (s - k))

-- from the front of piece k on
pub left_front : (c p : List ℕ) (s way k : ℕ) → k ≤ s → left c p s way k 0 ≡ drop (length (view way (strung (piece c p) 0 k))) (view way (cells_of c p s))
unfolding left
left_front c p s way k h =
    let xs : List Cell = strung (piece c p) 0 k in
    let ys : List Cell = strung (piece c p) k (s - k) in
    let e : s ≡ k + (s - k) = omega arith in
    let t : cells_of c p s ≡ xs ++ ys = ap (λ n. strung (piece c p) 0 n) e ∙ strung_split (piece c p) 0 k (s - k) ∙ rw zero-add refl in
    let l = length_before c p k in
    let d : drop (before p k + 0) (cells_of c p s) ≡ ys = ap (drop (before p k + 0)) t ∙ drop_at xs ys (before p k + 0) (omega arith) in
    ap (view way) d ∙ sym (ap (drop (length (view way xs))) (view_split c p s way k h) ∙ drop_at (view way xs) (view way ys) (length (view way xs)) refl)

-- how much can be left
pub before_small : (p : List ℕ) (s k : ℕ) → Order p s → k ≤ s → before p k ≤ 1024 * k
unfolding before
before_small p s zero o h = omega arith
before_small p s (suc k) o h = let u = o.small k (omega arith) in omega (arith, before_small p s k o (omega arith))

pub left_few : (c p : List ℕ) (s way k j : ℕ) → Order p s → length (left c p s way k j) ≤ 2097152
unfolding left
left_few c p s way k j o =
    let v = view_short way (drop (before p k + j) (cells_of c p s)) in
    let d = length-drop (before p k + j) (cells_of c p s) in
    let l = length_text c p s in
    let b = before_small p s s o (omega arith) in
    let m = o.most in
    omega arith
