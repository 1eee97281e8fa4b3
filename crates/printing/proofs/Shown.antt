-- Lists of cells: what is seen, where rows are cut, and what is printed of them.
use Rattle.std.proofs.Common.{◌≡◌, ℕ, zero, suc, ◌+◌, ◌-◌, ◌<◌, ◌≤◌, min, Bool, true, false, cond, eqb, leb, Option, Some, None, Result, Ok, Err, Vec, vec_items, Bor, List, [], ◌∷◌, ◌++◌, length, get_or, take, drop, reverse, sym, refl, ap, ◌∙◌, arith}
use denote.Param.Members.{Mut}
use lib.Dec.{eqb-suc-zero}
use Rattle.std.specs.Prelude.{filter, IfOk, IsSomeAnd, MatchOption}
use Rattle.std.specs.Fn.{Called}
use Rattle.std.specs.Iterator.{FindsPositionBack}
use Rattle.std.specs.List.{position_from}
use Rattle.std.specs.declared.slice.Iter.{Iter}
use Rattle.std.specs.Slice.Iter.{iter_rest, iter_steps_back}
use Rattle.std.proofs.lemmas.Iterator.{YieldsList}
use Rattle.std.proofs.lemmas.Iterator.Adapters.{position_from-zero}
use Rattle.std.proofs.lemmas.Iterator.Consumers.{YieldsList-from_shown}
use Rattle.std.proofs.lemmas.Iterator.Search.{position_from_yields_List}
use Rattle.std.proofs.lemmas.List.{append_assoc, append-nil, drop_more, drop_all, take-map, drop-map, length-map, length-reverse, reverse-append, nil_from_length}
use Rattle.std.proofs.lemmas.Bool.{le-leb, lt-leb}
use Rattle.model.specs.Paper.{pick, Cell, seen, view}
use Rattle.model.specs.Rows.{Cut, cut, cut_after, first_end, last_space, rows}
use Rattle.model.specs.Walk.{step}
use Rattle.model.proofs.Rows.{rows_step, rows_none, step_inside, step_moves}
use Rattle.text.specs.Shown.{cell_line, row_line}
use Rattle.printing.specs.declared.reading.Cell as code
use Rattle.printing.specs.declared.rows.Cut as code_cut
use Rattle.printing.specs.Printed.{rows_printed}
use Rattle.printing.specs.Values.{after_place, cell_of, cells_of, cut_of, FirstRow}

-- the cells that pass the test of a way to look
pub view_filter : (k : ℕ) (xs : List code.Cell) → cells_of (filter (λ x. seen k (cell_of x)) xs) ≡ view k (cells_of xs)
unfolding view
view_filter k [] = refl
view_filter k (x ∷ xs) =
    elim (seen k (cell_of x)) as (λ b. cells_of (cond b (x ∷ filter (λ y. seen k (cell_of y)) xs) (filter (λ y. seen k (cell_of y)) xs)) ≡ pick b (cell_of x ∷ view k (cells_of xs)) (view k (cells_of xs))) [
      | true ↦ ap (λ ys. cell_of x ∷ ys) (view_filter k xs)
      | false ↦ view_filter k xs
    ]

pub viewed : {Z E : Type 0} (k : ℕ) (xs : List code.Cell) (r : Result (Vec code.Cell Z) E) → IfOk r (λ v. vec_items v ≡ filter (λ x. seen k (cell_of x)) xs) → IfOk r (λ v. cells_of (vec_items v) ≡ view k (cells_of xs))
viewed k xs (Ok v) e = ap cells_of e ∙ view_filter k xs
viewed k xs (Err e) t = t

-- the first end of a paragraph, as `position` finds it
pub end_place : (xs : List code.Cell) (n i : ℕ) → after_place (position_from (λ x. eqb x.letter 10) i (take n xs)) ≡ first_end (cells_of xs) n i
unfolding first_end
end_place [] zero i = refl
end_place [] (suc n) i = refl
end_place (x ∷ xs) zero i = refl
end_place (x ∷ xs) (suc n) i =
    let s : i + 1 ≡ suc i = omega arith in
    let ih = rw s at (end_place xs n (i + 1)) in
    rw s (elim (eqb x.letter 10) as (λ b. after_place (cond b (Some i) (position_from (λ y. eqb y.letter 10) (suc i) (take n xs))) ≡ pick b (suc i) (first_end (cells_of xs) n (suc i))) [ true ↦ refl | false ↦ ih ])

-- one more than a place that was counted from the back, of n
abbrev pub before : ℕ → ℕ → ℕ → Option ℕ → ℕ
before i found n None = found
before i found n (Some k) = i + n - k

abbrev or_else : Option ℕ → Option ℕ → Option ℕ
or_else None o = o
or_else (Some k) o = Some k

position_push : {A : Type 0} (t : A → Bool) (i : ℕ) (ys : List A) (x : A) → position_from t i (ys ++ (x ∷ [])) ≡ or_else (position_from t i ys) (cond (t x) (Some (i + length ys)) None)
position_push t i [] x = let e : i + 0 ≡ i = omega arith in rw e refl
position_push t i (y ∷ ys) x =
    let e : i + 1 + length ys ≡ i + suc (length ys) = omega arith in
    let ih = rw e at (position_push t (i + 1) ys x) in
    elim (t y) as (λ b. cond b (Some i) (position_from t (i + 1) (ys ++ (x ∷ []))) ≡ or_else (cond b (Some i) (position_from t (i + 1) ys)) (cond (t x) (Some (i + suc (length ys))) None)) [ true ↦ refl | false ↦ ih ]

-- the last space of some cells, counted from the back
last_back : (zs : List code.Cell) (i found : ℕ) → last_space (cells_of zs) (length zs) i found ≡ before i found (length zs) (position_from (λ x. eqb x.letter 32) 0 (reverse zs))
unfolding last_space
last_back [] i found = refl
last_back (x ∷ xs) i found =
    let t : code.Cell → Bool = λ y. eqb y.letter 32 in
    let r : reverse (x ∷ xs) ≡ reverse xs ++ (x ∷ []) = reverse-append (x ∷ []) xs in
    let p = position_push t 0 (reverse xs) x in
    last_back xs (suc i) (pick (t x) (suc i) found)
    ∙ (go (position_from t 0 (reverse xs)) (t x) ∙ ap (before i found (suc (length xs))) (sym p ∙ ap (position_from t 0) (sym r)))
  where
    go : (o : Option ℕ) (b : Bool) → before (suc i) (pick b (suc i) found) (length xs) o ≡ before i found (suc (length xs)) (or_else o (cond b (Some (0 + length (reverse xs))) None))
    go None true = omega (arith, length-reverse xs)
    go None false = refl
    go (Some k) b = omega arith

last_near : (xs : List code.Cell) (n i found m : ℕ) → m ≡ min (length xs) n → last_space (cells_of xs) n i found ≡ last_space (cells_of (take m xs)) (length (take m xs)) i found
unfolding last_space
last_near [] n i found zero e = refl
last_near [] n i found (suc m) e = refl
last_near (x ∷ xs) zero i found zero e = refl
last_near (x ∷ xs) zero i found (suc m) e = absurd (omega arith)
last_near (x ∷ xs) (suc n) i found zero e = absurd (omega arith)
last_near (x ∷ xs) (suc n) i found (suc m) e = last_near xs n (suc i) (pick (eqb x.letter 32) (suc i) found) m (omega arith)

-- what `rposition` finds
from_back : {A : Type 0} (s : Iter A) → YieldsList iter_steps_back (λ y. y.now) s (reverse (iter_rest s))
from_back s =
    YieldsList-from_shown iter_steps_back (λ y. y.now) (λ t. reverse (iter_rest t)) (λ a b e. length-reverse (iter_rest a) ∙ e.0)
    (λ a x b e. ap reverse e ∙ reverse-append (iter_rest b) (x.now ∷ [])) s

module _ {A F : Type 0} (g : Mut F (Bor A × Unit {0}) Bool) (test : A → Bool) (s u : Iter A) (f : F) (n : ℕ) (r : Option ℕ) where
  counted : (xs : List (Bor A)) (o : Option (Bor A)) (f' : F) → MatchOption o (r ≡ None) (λ x. IsSomeAnd r (λ i. i + 1 + length xs ≡ n) × ((h : F) × Called g f' (x, tt) true h))
      → (k : Option ℕ) × MatchOption o (k ≡ None) (λ x. (k ≡ Some (length xs)) × ((h : F) × Called g f' (x, tt) true h)) × (after_place r ≡ before 0 0 n k)
  counted xs None f' e = (None, refl, ap after_place e)
  counted xs (Some x) f' e = (Some (length xs), (refl, e.1), suffices r e.0)
    where
      suffices : (q : Option ℕ) → IsSomeAnd q (λ i. i + 1 + length xs ≡ n) → after_place q ≡ 0 + n - length xs
      suffices (Some i) h = omega arith
      suffices None h = absurd h

  pub place_back : FindsPositionBack iter_steps_back g s f n r u → ((x : Bor A) (b : Bool) (q : F) → Called g f (x, tt) b q → (q ≡ f) × (b ≡ test x.now))
      → after_place r ≡ before 0 0 n (position_from test 0 (reverse (iter_rest s)))
  place_back ran calls =
      let k = counted ran.0 ran.1 ran.2 ran.5 in
      let p = position_from_yields_List test u f k.0 (ran.0, ran.1, ran.2, ran.3, ran.4, k.1) (from_back s) calls in
      k.2 ∙ ap (before 0 0 n) (p ∙ position_from-zero test (reverse (iter_rest s)))

pub last_place : (cells near : List code.Cell) (n : ℕ) (r : Option ℕ) → near ≡ take (min (length cells) 65) cells → n ≡ length near → after_place r ≡ before 0 0 n (position_from (λ x. eqb x.letter 32) 0 (reverse near))
    → after_place r ≡ last_space (cells_of cells) 65 0 0
last_place cells near n r e l h =
    let a = last_back near 0 0 in
    let b = last_near cells 65 0 0 (min (length cells) 65) refl in
    cc

-- where the first row is cut
module _ (w : ℕ) (xs : List Cell) where
  pub cut_end : (s : ℕ) → suc s ≡ first_end xs (suc w) 0 → record { long = s; skips = 1 } ≡ cut w xs
  cut_end s e =
      let m : suc s - 1 ≡ s = omega arith in
      ap (λ (k : ℕ). record { long = k; skips = 1 }) (sym m)
      ∙ (ap (λ b. pick b (pick (leb (length xs) w) (record { long = length xs; skips = 0 }) (cut_after w (last_space xs (suc w) 0 0))) (record { long = suc s - 1; skips = 1 })) (sym (eqb-suc-zero s))
      ∙ ap (λ (v : ℕ). pick (eqb v 0) (pick (leb (length xs) w) (record { long = length xs; skips = 0 }) (cut_after w (last_space xs (suc w) 0 0))) (record { long = v - 1; skips = 1 })) e)

  module _ (none : 0 ≡ first_end xs (suc w) 0) where
    cut_rest : cut w xs ≡ pick (leb (length xs) w) (record { long = length xs; skips = 0 }) (cut_after w (last_space xs (suc w) 0 0))
    cut_rest = ap (λ (v : ℕ). pick (eqb v 0) (pick (leb (length xs) w) (record { long = length xs; skips = 0 }) (cut_after w (last_space xs (suc w) 0 0))) (record { long = v - 1; skips = 1 })) (sym none)

    pub cut_all : length xs ≤ w → record { long = length xs; skips = 0 } ≡ cut w xs
    cut_all h = sym (cut_rest ∙ ap (λ b. pick b (record { long = length xs; skips = 0 }) (cut_after w (last_space xs (suc w) 0 0))) (le-leb (length xs) w h))

    cut_wide : w < length xs → cut w xs ≡ cut_after w (last_space xs (suc w) 0 0)
    cut_wide h = cut_rest ∙ ap (λ b. pick b (record { long = length xs; skips = 0 }) (cut_after w (last_space xs (suc w) 0 0))) (lt-leb (length xs) w h)

    pub cut_space : w < length xs → (s : ℕ) → suc s ≡ last_space xs (suc w) 0 0 → record { long = s; skips = 1 } ≡ cut w xs
    unfolding cut_after
    cut_space h s e = sym (cut_wide h ∙ ap (cut_after w) (sym e))

    pub cut_full : w < length xs → 0 ≡ last_space xs (suc w) 0 0 → record { long = w; skips = 0 } ≡ cut w xs
    unfolding cut_after
    cut_full h e = sym (cut_wide h ∙ ap (cut_after w) (sym e))

-- a row, and the rows after it
row_more : (line : List ℕ) (x : Cell) (xs : List Cell) → (line ++ cell_line x.letter x.put_in x.struck) ++ row_line xs ≡ line ++ row_line (x ∷ xs)
unfolding row_line
row_more line x xs = append_assoc line (cell_line x.letter x.put_in x.struck) (row_line xs)

row_none : (line : List ℕ) → line ++ row_line [] ≡ line
unfolding row_line
row_none line = append-nil line

pub row_step : (out after whole : List ℕ) (row : List code.Cell) (i : ℕ) (d : code.Cell) → i < length row → out ++ row_line (cells_of (drop i row)) ≡ whole →
    after ≡ out ++ cell_line (get_or row i d).letter (get_or row i d).put_in (get_or row i d).struck → after ++ row_line (cells_of (drop (i + 1) row)) ≡ whole
row_step out after whole row i d h q p =
    ap (λ o. o ++ row_line (cells_of (drop (i + 1) row))) p
    ∙ (row_more out (cell_of (get_or row i d)) (cells_of (drop (i + 1) row)) ∙ (ap (λ ys. out ++ row_line (cells_of ys)) (sym (drop_more row i d h)) ∙ q))

pub row_end : (out whole : List ℕ) (row : List code.Cell) (i : ℕ) → length row ≤ i → out ++ row_line (cells_of (drop i row)) ≡ whole → out ≡ whole
row_end out whole row i h q = sym (row_none out) ∙ (ap (λ ys. out ++ row_line (cells_of ys)) (sym (drop_all i row h)) ∙ q)

-- a row that is cut so ends where there are cells, and takes at least one
pub first_row : (xs : List code.Cell) (r : code_cut.Cut) → cut_of r ≡ cut 64 (cells_of xs) → FirstRow xs r
first_row xs r e =
    let a : r.long ≡ (cut 64 (cells_of xs)).long = ap (λ (c : Cut). c.long) e in
    let b : r.skips ≡ (cut 64 (cells_of xs)).skips = ap (λ (c : Cut). c.skips) e in
    let l = length-map xs cell_of in
    let i : step 64 (cells_of xs) ≤ length (cells_of xs) = step_inside 64 (cells_of xs) in
    record {
      is = e;
      inside = omega arith;
      moves = λ h. let m : 0 < step 64 (cells_of xs) = step_moves 64 (cells_of xs) (omega arith) (omega arith) in omega arith;
    }

rows_more : (line : List ℕ) (w : ℕ) (xs : List Cell) → 0 < w → 0 < length xs →
    ((line ++ row_line (take (cut w xs).long xs)) ++ (10 ∷ [])) ++ rows_printed (rows w (drop (step w xs) xs)) ≡ line ++ rows_printed (rows w xs)
unfolding rows_printed
rows_more line w xs h k =
    let r = rows_step w xs h k in
    let a = append_assoc (line ++ row_line (take (cut w xs).long xs)) (10 ∷ []) (rows_printed (rows w (drop (step w xs) xs))) in
    let b = append_assoc line (row_line (take (cut w xs).long xs)) (10 ∷ rows_printed (rows w (drop (step w xs) xs))) in
    a ∙ (b ∙ ap (λ rs. line ++ rows_printed rs) (sym r))

pub rows_go : (out after whole : List ℕ) (rest : List code.Cell) (r : code_cut.Cut) (k : ℕ) → FirstRow rest r → 0 < length rest → k ≡ r.long →
    after ≡ (out ++ row_line (cells_of (take k rest))) ++ (10 ∷ []) → out ++ rows_printed (rows 64 (cells_of rest)) ≡ whole →
    after ++ rows_printed (rows 64 (cells_of (drop (r.long + r.skips) rest))) ≡ whole
rows_go out after whole rest r k f h same e q =
    let xs : List Cell = cells_of rest in
    let long : k ≡ (cut 64 xs).long = same ∙ ap (λ (c : Cut). c.long) f.is in
    let next : r.long + r.skips ≡ step 64 xs = ap (λ (c : Cut). c.long + c.skips) f.is in
    let row : cells_of (take k rest) ≡ take (cut 64 xs).long xs = sym (take-map cell_of k rest) ∙ ap (λ (j : ℕ). take j xs) long in
    let left : cells_of (drop (r.long + r.skips) rest) ≡ drop (step 64 xs) xs = sym (drop-map cell_of (r.long + r.skips) rest) ∙ ap (λ (j : ℕ). drop j xs) next in
    let some : 0 < length xs = omega (arith, length-map rest cell_of) in
    let wide : 0 < 64 = omega arith in
    ap (λ o. o ++ rows_printed (rows 64 (cells_of (drop (r.long + r.skips) rest)))) (e ∙ ap (λ (ys : List Cell). (out ++ row_line ys) ++ (10 ∷ [])) row)
    ∙ (ap (λ (ys : List Cell). ((out ++ row_line (take (cut 64 xs).long xs)) ++ (10 ∷ [])) ++ rows_printed (rows 64 ys)) left ∙ (rows_more out 64 xs wide some ∙ q))

rows_end : (line : List ℕ) (w : ℕ) → line ++ rows_printed (rows w []) ≡ line
unfolding rows_printed
rows_end line w = ap (λ rs. line ++ rows_printed rs) (rows_none w) ∙ append-nil line

pub rows_over : (out whole : List ℕ) (rest : List code.Cell) → length rest ≤ 0 → out ++ rows_printed (rows 64 (cells_of rest)) ≡ whole → out ≡ whole
rows_over out whole rest h q =
    let z : length rest ≡ 0 = omega arith in
    sym (rows_end out 64) ∙ (ap (λ (ys : List code.Cell). out ++ rows_printed (rows 64 (cells_of ys))) (sym (nil_from_length rest z)) ∙ q)
