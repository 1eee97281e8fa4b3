-- What holds of all marks of some cells, and what each act on the cells does to it; a change that was decided has no mark left.
use Rattle.std.proofs.Common.{◌≡◌, ℕ, zero, suc, ◌≤◌, Bool, true, false, eqb, ◌≢◌, List, [], ◌∷◌, take, drop, refl, arith}
use Rattle.std.proofs.lemmas.Bool.{eqb-false, ne_eqb, leb-true, and_parts}
use Rattle.model.specs.Paper.{pick, Cell, accept, reject, touched}
use Rattle.model.specs.Promise.{decided, below}
use Rattle.model.specs.Faults.{AllMarksGone}
use Rattle.model.proofs.Rows.{by_test}

-- every mark of the cells is such
abbrev pub Marks : (ℕ → Type 0) → List Cell → Type 0
Marks M [] = Unit {0}
Marks M (x ∷ xs) = (M x.put_in × M x.struck) × Marks M xs

module _ (M : ℕ → Type 0) where
  pub marks_take : (i : ℕ) (xs : List Cell) → Marks M xs → Marks M (take i xs)
  marks_take zero xs h = tt
  marks_take (suc i) [] h = tt
  marks_take (suc i) (x ∷ xs) h = (h.0, marks_take i xs h.1)

  pub marks_drop : (i : ℕ) (xs : List Cell) → Marks M xs → Marks M (drop i xs)
  marks_drop zero xs h = h
  marks_drop (suc i) [] h = tt
  marks_drop (suc i) (x ∷ xs) h = marks_drop i xs h.1

  -- a cell y that stays if the test fails
  pub marks_pick : (t : Bool) (y : Cell) (ys : List Cell) → (t ≡ false → M y.put_in × M y.struck) → Marks M ys → Marks M (pick t ys (y ∷ ys))
  marks_pick true y ys h k = k
  marks_pick false y ys h k = (h refl, k)

pub marks_map : (M N : ℕ → Type 0) → ((m : ℕ) → M m → N m) → (xs : List Cell) → Marks M xs → Marks N xs
marks_map M N f [] h = tt
marks_map M N f (x ∷ xs) h = ((f x.put_in h.0.0, f x.struck h.0.1), marks_map M N f xs h.1)

pub marks_any : (xs : List Cell) → Marks (λ m. Unit {0}) xs
marks_any [] = tt
marks_any (x ∷ xs) = ((tt, tt), marks_any xs)

-- after change number c is decided: no mark, or the marks but for those of c
module _ (M N : ℕ → Type 0) (c : ℕ) (none : N 0) (other : (m : ℕ) → m ≢ suc c → M m → N m) where
  mark_cleared : (m : ℕ) → M m → N (pick (eqb m (suc c)) 0 m)
  mark_cleared m h = by_test (eqb m (suc c)) 0 m N (λ _. none) (λ e. other m (eqb-false m (suc c) e) h)

  pub marks_decided : (a : Bool) (xs : List Cell) → Marks M xs → Marks N (decided a xs c)
  unfolding decided accept reject
  marks_decided true [] h = tt
  marks_decided false [] h = tt
  marks_decided true (x ∷ xs) h =
      marks_pick N _ _ (accept xs c) (λ e. (mark_cleared x.put_in h.0.0, other x.struck (eqb-false x.struck (suc c) e) h.0.1)) (marks_decided true xs h.1)
  marks_decided false (x ∷ xs) h =
      marks_pick N _ _ (reject xs c) (λ e. (other x.put_in (eqb-false x.put_in (suc c) e) h.0.0, mark_cleared x.struck h.0.1)) (marks_decided false xs h.1)

-- every mark is of one of the first n changes
pub below_marks : (xs : List Cell) (n : ℕ) → below xs n ≡ true → Marks (λ m. m ≤ n) xs
unfolding below
below_marks [] n h = tt
below_marks (x ∷ xs) n h =
    let k = and_parts _ _ h in
    let m = and_parts _ _ k.0 in
    ((leb-true _ _ m.0, leb-true _ _ m.1), below_marks xs n k.1)

pub marks_below : (xs : List Cell) (n : ℕ) → Marks (λ m. m ≤ n) xs → below xs n ≡ true
unfolding below
marks_below [] n h = refl
marks_below (x ∷ xs) n h = let ih = marks_below xs n h.1 in grind arith

untouched : (xs : List Cell) (c : ℕ) → Marks (λ m. eqb m (suc c) ≡ false) xs → touched xs c ≡ 0
unfolding touched
untouched [] c h = refl
untouched (x ∷ xs) c h = let ih = untouched xs c h.1 in grind arith

pub all_marks_gone : AllMarksGone
unfolding AllMarksGone
all_marks_gone a xs c =
    untouched _ c (marks_decided (λ m. Unit {0}) (λ m. eqb m (suc c) ≡ false) c (ne_eqb 0 (suc c) (omega arith)) (λ m ne h. ne_eqb m (suc c) ne) a xs (marks_any xs))
