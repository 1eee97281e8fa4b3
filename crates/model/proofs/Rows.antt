-- Rows: where a row is cut, that the letters stay, and how the rows follow one another. Assumes nothing.
use Rattle.std.proofs.Common.{◌≡◌, ℕ, zero, suc, ◌+◌, ◌-◌, ◌<◌, ◌≤◌, Bool, true, false, eqb, leb, ◌⊎◌, ◌↔◌, List, [], ◌∷◌, ◌++◌, length, get_or, take, drop, sym, refl, ap, ◌∙◌, subst, inl, inr, arith}
use lib.Seq.{drop-nil}
use Rattle.std.proofs.lemmas.Bool.{leb-true, leb-false, eqb-true, eqb-false}
use Rattle.std.proofs.lemmas.List.{length-take, length-drop, drop-drop, take-append-drop}
use Rattle.model.specs.Paper.{pick, Cell, letters}
use Rattle.model.specs.Rows.{Cut, cut, cut_after, first_end, last_space, rows, rows_in}
use Rattle.model.specs.Walk.{step, rest}
use Rattle.model.specs.Promise.{set_letters, only_solid, LettersKept, RowsFit, NotEarlier}

-- what holds in both cases of a test
pub by_test : {A : Type 0} (b : Bool) (x y : A) (P : A → Type 0) → (b ≡ true → P x) → (b ≡ false → P y) → P (pick b x y)
by_test true x y P f g = f refl
by_test false x y P f g = g refl

-- Where the first end of a paragraph is, and that there is none.
EndAt : List Cell → ℕ → ℕ → Type 0
EndAt xs n k = (k < n) × (k < length xs) × (get_or (letters xs) k 0 ≡ 10)

end_found : (xs : List Cell) (n i s : ℕ) → first_end xs n i ≡ suc s → (k : ℕ) × (s ≡ i + k) × EndAt xs n k
unfolding first_end letters EndAt
end_found [] n i s e = absurd (omega arith)
end_found (x ∷ xs) zero i s e = absurd (omega arith)
end_found (x ∷ xs) (suc n) i s e =
    by_test (eqb x.letter 10) (suc i) (first_end xs n (suc i)) (λ v. v ≡ suc s → (k : ℕ) × (s ≡ i + k) × EndAt (x ∷ xs) (suc n) k)
    (λ t e. (0, omega arith, (omega arith, omega arith, eqb-true _ _ t)))
    (λ _ e. let r = end_found xs n (suc i) s e in (suc r.0, omega arith, (omega arith, omega arith, r.2.2)))
    e

no_end : (xs : List Cell) (n i k : ℕ) → first_end xs n i ≡ 0 → k < n → get_or (letters xs) k 0 ≡ 10 → ⊥
unfolding first_end letters
no_end [] n i k e h g = omega arith
no_end (x ∷ xs) zero i k e h g = omega arith
no_end (x ∷ xs) (suc n) i zero e h g = grind arith
no_end (x ∷ xs) (suc n) i (suc k) e h g = let ih = no_end xs n (suc i) k in grind arith

-- Where the last space is, and that there is none.
NoSpace : List Cell → ℕ → ℕ → Type 0
NoSpace xs n from = (k : ℕ) → from ≤ k → k < n → get_or (letters xs) k 0 ≡ 32 → ⊥

SpaceAt : List Cell → ℕ → ℕ → Type 0
SpaceAt xs n k = (k < n) × (k < length xs) × (get_or (letters xs) k 0 ≡ 32) × NoSpace xs n (suc k)

LastSpace : List Cell → ℕ → ℕ → ℕ → ℕ → Type 0
LastSpace xs n i found r = ((r ≡ found) × NoSpace xs n 0) ⊎ ((k : ℕ) × (r ≡ suc (i + k)) × SpaceAt xs n k)

space_found : (xs : List Cell) (n i found : ℕ) → LastSpace xs n i found (last_space xs n i found)
unfolding last_space letters LastSpace NoSpace SpaceAt
space_found [] n i found = inl (refl, λ k l h g. omega arith)
space_found (x ∷ xs) zero i found = inl (refl, λ k l h g. omega arith)
space_found (x ∷ xs) (suc n) i found =
    let last : ℕ = last_space xs n (suc i) (pick (eqb x.letter 32) (suc i) found) in
    elim (space_found xs n (suc i) (pick (eqb x.letter 32) (suc i) found)) [
      | inl r ↦
          by_test (eqb x.letter 32) (suc i) found (λ f. last ≡ f → LastSpace (x ∷ xs) (suc n) i found last)
          (λ t e. inr (0, omega arith, (omega arith, omega arith, eqb-true _ _ t, elim [ zero ↦ λ l h g. omega arith | suc j ↦ λ l h g. r.1 j (omega arith) (omega arith) g ])))
          (λ t e. inl (e, elim [ zero ↦ λ l h g. eqb-false _ _ t g | suc j ↦ λ l h g. r.1 j (omega arith) (omega arith) g ]))
          r.0
      | inr r ↦ inr (suc r.0, omega arith, (omega arith, omega arith, r.2.2, elim [ zero ↦ λ l h g. omega arith | suc j ↦ λ l h g. r.2.3 j (omega arith) (omega arith) g ]))
    ]

-- The four ways to cut a row: at the end of a paragraph; all that is left; as wide as it may be, where there is no space; and at the last space.
pub cut_cases : (w : ℕ) (xs : List Cell) (P : Cut → Type 0) →
    ((s : ℕ) → s ≤ w → s < length xs → get_or (letters xs) s 0 ≡ 10 → P (record { long = s; skips = 1 })) →
    (length xs ≤ w → P (record { long = length xs; skips = 0 })) →
    (w < length xs → P (record { long = w; skips = 0 })) →
    ((s : ℕ) → s ≤ w → s < length xs → get_or (letters xs) s 0 ≡ 32 →
    ((k : ℕ) → s < k → k ≤ w → (get_or (letters xs) k 0 ≡ 32 → ⊥) × (get_or (letters xs) k 0 ≡ 10 → ⊥)) → P (record { long = s; skips = 1 })) →
    P (cut w xs)
unfolding cut_after EndAt SpaceAt LastSpace NoSpace
cut_cases w xs P at_end all full at-space =
    by_test (eqb (first_end xs (suc w) 0) 0) _ _ P
    (λ t. by_test (leb (length xs) w) _ _ P (λ u. all (leb-true _ _ u)) (λ u. broken (eqb-true _ _ t) (leb-false _ _ u) (last_space xs (suc w) 0 0) (space_found xs (suc w) 0 0)))
    (λ t. ended (first_end xs (suc w) 0) refl (eqb-false _ _ t))
  where
    ended : (v : ℕ) → first_end xs (suc w) 0 ≡ v → (v ≡ 0 → ⊥) → P (record { long = v - 1; skips = 1 })
    ended zero e h = absurd (h refl)
    ended (suc s) e h =
        let r = end_found xs (suc w) 0 s e in
        let k : r.0 ≡ suc s - 1 = omega arith in
        subst (λ (m : ℕ). P (record { long = m; skips = 1 })) k (at_end r.0 (omega arith) (omega arith) r.2.2)

    broken : first_end xs (suc w) 0 ≡ 0 → w < length xs → (v : ℕ) → LastSpace xs (suc w) 0 0 v → P (cut_after w v)
    broken e h zero l = full h
    broken e h (suc s) l =
        elim l [
          | inl r ↦ absurd (omega arith)
          | inr r ↦
              let k : r.0 ≡ s = omega arith in
              subst (λ (m : ℕ). P (record { long = m; skips = 1 })) k
              (at-space r.0 (omega arith) (omega arith) r.2.2 (λ j a b. (r.2.3 j a (omega arith), no_end xs (suc w) 0 j e (omega arith))))
        ]

pub cut_fits : (w : ℕ) (xs : List Cell) → (cut w xs).long ≤ w
cut_fits w xs = cut_cases w xs (λ c. c.long ≤ w) (λ s a b e. a) (λ a. a) (λ a. omega arith) (λ s a b e f. a)

-- a row takes what is there, and at least one letter
pub step_inside : (w : ℕ) (xs : List Cell) → step w xs ≤ length xs
step_inside w xs =
    cut_cases w xs (λ c. c.long + c.skips ≤ length xs) (λ s a b e. omega arith) (λ a. omega arith) (λ a. omega arith) (λ s a b e f. omega arith)

pub step_moves : (w : ℕ) (xs : List Cell) → 0 < w → 0 < length xs → 0 < step w xs
step_moves w xs h k =
    cut_cases w xs (λ c. 0 < c.long + c.skips) (λ s a b e. omega arith) (λ a. omega arith) (λ a. omega arith) (λ s a b e f. omega arith)

pub not_earlier : NotEarlier
unfolding NotEarlier
not_earlier w xs i h =
    cut_cases w xs
    (λ c. c.skips ≡ 1 → c.long < i → i ≤ w → get_or (letters xs) c.long 0 ≡ 10 ⊎ ((get_or (letters xs) i 0 ≡ 32 → ⊥) × (get_or (letters xs) i 0 ≡ 10 → ⊥)))
    (λ s a b e _ _ _. inl e) (λ a e _ _. absurd (omega arith)) (λ a e _ _. absurd (omega arith)) (λ s a b e f _ k l. inr (f i k l))

fit_in : (n w i : ℕ) (xs : List Cell) → length (get_or (rows_in n w xs) i []) ≤ w
unfolding rows_in
fit_in zero w i xs = omega arith
fit_in (suc n) w i [] = omega arith
fit_in (suc n) w zero (x ∷ xs) = omega (arith, cut_fits w (x ∷ xs), length-take (cut w (x ∷ xs)).long (x ∷ xs))
fit_in (suc n) w (suc i) (x ∷ xs) = fit_in n w i (drop (step w (x ∷ xs)) (x ∷ xs))

pub rows_fit : RowsFit
unfolding RowsFit
rows_fit w i xs _ _ = fit_in (length xs) w i xs

-- Letters that are kept: those that are skipped after a row are ends of paragraphs and spaces.
pub letters_append : (xs ys : List Cell) → letters (xs ++ ys) ≡ letters xs ++ letters ys
unfolding letters
letters_append [] ys = refl
letters_append (x ∷ xs) ys = ap (λ (r : List ℕ). x.letter ∷ r) (letters_append xs ys)

only_solid_append : (xs ys : List ℕ) → only_solid (xs ++ ys) ≡ only_solid xs ++ only_solid ys
unfolding only_solid
only_solid_append [] ys = refl
only_solid_append (x ∷ xs) ys = let ih = only_solid_append xs ys in grind arith

letter_at : (xs : List Cell) (s : ℕ) → s < length xs → letters (take 1 (drop s xs)) ≡ get_or (letters xs) s 0 ∷ []
unfolding letters
letter_at [] s h = absurd (omega arith)
letter_at (x ∷ xs) zero h = refl
letter_at (x ∷ xs) (suc s) h = letter_at xs s (omega arith)

skipped : (w : ℕ) (xs : List Cell) → only_solid (letters (take (cut w xs).skips (drop (cut w xs).long xs))) ≡ []
unfolding only_solid letters
skipped w xs =
    cut_cases w xs (λ c. only_solid (letters (take c.skips (drop c.long xs))) ≡ [])
    (λ s a b e. ap only_solid (letter_at xs s b ∙ ap (λ (l : ℕ). l ∷ []) e)) (λ a. refl) (λ a. refl)
    (λ s a b e f. ap only_solid (letter_at xs s b ∙ ap (λ (l : ℕ). l ∷ []) e))

solid_append : (xs ys : List Cell) → only_solid (letters (xs ++ ys)) ≡ only_solid (letters xs) ++ only_solid (letters ys)
solid_append xs ys = ap only_solid (letters_append xs ys) ∙ only_solid_append (letters xs) (letters ys)

parted : (xs : List Cell) (l s : ℕ) → only_solid (letters (take s (drop l xs))) ≡ [] →
    only_solid (letters (take l xs)) ++ only_solid (letters (drop (l + s) xs)) ≡ only_solid (letters xs)
parted xs l s e =
    let a = take-append-drop l xs in
    let b = take-append-drop s (drop l xs) in
    let c = drop-drop s l xs in
    let f = solid_append (take l xs) (drop l xs) in
    let g = rw e at (solid_append (take s (drop l xs)) (drop s (drop l xs))) in
    cc

-- one row: its letters, and those of what is left, are the letters but for those that are skipped
row_kept : (w : ℕ) (xs : List Cell) → only_solid (letters (take (cut w xs).long xs)) ++ only_solid (letters (drop (step w xs) xs)) ≡ only_solid (letters xs)
row_kept w xs = parted xs (cut w xs).long (cut w xs).skips (skipped w xs)

kept_in : (n w : ℕ) (xs : List Cell) → length xs ≤ n → 0 < w → only_solid (set_letters (rows_in n w xs)) ≡ only_solid (letters xs)
unfolding rows_in set_letters letters only_solid
kept_in zero w [] h k = refl
kept_in zero w (x ∷ xs) h k = absurd (omega arith)
kept_in (suc n) w [] h k = refl
kept_in (suc n) w (x ∷ xs) h k =
    let s : length (drop (step w (x ∷ xs)) (x ∷ xs)) ≤ n = omega (arith, length-drop (step w (x ∷ xs)) (x ∷ xs), step_moves w (x ∷ xs) k (omega arith)) in
    let r = kept_in n w (drop (step w (x ∷ xs)) (x ∷ xs)) s k in
    only_solid_append (letters (take (cut w (x ∷ xs)).long (x ∷ xs))) (set_letters (rows_in n w (drop (step w (x ∷ xs)) (x ∷ xs)))) ∙ rw r (row_kept w (x ∷ xs))

pub letters_kept : LettersKept
unfolding LettersKept
letters_kept w xs h = kept_in (length xs) w xs (omega arith) h

-- The number of rows to make at most does not matter, if it is at least the number of letters.
same_rows : (n m w : ℕ) (xs : List Cell) → 0 < w → length xs ≤ n → length xs ≤ m → rows_in n w xs ≡ rows_in m w xs
unfolding rows_in
same_rows zero zero w xs h k l = refl
same_rows zero (suc m) w [] h k l = refl
same_rows zero (suc m) w (x ∷ xs) h k l = absurd (omega arith)
same_rows (suc n) zero w [] h k l = refl
same_rows (suc n) zero w (x ∷ xs) h k l = absurd (omega arith)
same_rows (suc n) (suc m) w [] h k l = refl
same_rows (suc n) (suc m) w (x ∷ xs) h k l =
    let e = length-drop (step w (x ∷ xs)) (x ∷ xs) in
    let f = step_moves w (x ∷ xs) h (omega arith) in
    ap (λ (r : List (List Cell)). take (cut w (x ∷ xs)).long (x ∷ xs) ∷ r) (same_rows n m w (drop (step w (x ∷ xs)) (x ∷ xs)) h (omega arith) (omega arith))

pub rows_enough : (n w : ℕ) (xs : List Cell) → 0 < w → length xs ≤ n → rows_in n w xs ≡ rows w xs
rows_enough n w xs h k = same_rows n (length xs) w xs h k (omega arith)

pub rows_none : (w : ℕ) → rows w [] ≡ []
unfolding rows_in
rows_none w = refl

pub rows_step : (w : ℕ) (xs : List Cell) → 0 < w → 0 < length xs → rows w xs ≡ take (cut w xs).long xs ∷ rows w (drop (step w xs) xs)
unfolding rows_in
rows_step w [] h k = absurd (omega arith)
rows_step w (x ∷ xs) h k =
    let e = length-drop (step w (x ∷ xs)) (x ∷ xs) in
    let f = step_moves w (x ∷ xs) h k in
    ap (λ (r : List (List Cell)). take (cut w (x ∷ xs)).long (x ∷ xs) ∷ r) (rows_enough (length xs) w (drop (step w (x ∷ xs)) (x ∷ xs)) h (omega arith))

-- The rows after the first n are the rows of what is left after n rows.
pub rest_none : (w n : ℕ) → rest w n [] ≡ []
unfolding rest
rest_none w zero = refl
rest_none w (suc n) = rw (rest_none w n) (drop-nil (step w []))

rows_next : (w : ℕ) (xs : List Cell) → 0 < w → drop 1 (rows w xs) ≡ rows w (drop (step w xs) xs)
rows_next w [] h = rw (drop-nil (step w []), rows_none w)
rows_next w (x ∷ xs) h = rw (rows_step w (x ∷ xs) h (omega arith))

pub rows_rest : (w n : ℕ) (xs : List Cell) → 0 < w → drop n (rows w xs) ≡ rows w (rest w n xs)
unfolding rest
rows_rest w zero xs h = refl
rows_rest w (suc n) xs h =
    let e : n + 1 ≡ suc n = omega arith in
    ap (λ (m : ℕ). drop m (rows w xs)) (sym e) ∙ sym (drop-drop 1 n (rows w xs)) ∙ ap (λ (r : List (List Cell)). drop 1 r) (rows_rest w n xs h) ∙ rows_next w (rest w n xs) h

-- there are rows if there are letters
pub rows_any : (w : ℕ) (xs : List Cell) → 0 < w → (0 < length (rows w xs)) ↔ (0 < length xs)
unfolding rows_in
rows_any w [] h = (λ k. k, λ k. k)
rows_any w (x ∷ xs) h = (λ k. omega arith, λ k. omega arith)

pub rows_left : (w n : ℕ) (xs : List Cell) → 0 < w → (n < length (rows w xs)) ↔ (0 < length (rest w n xs))
rows_left w n xs h =
    let e : length (rows w xs) - n ≡ length (rows w (rest w n xs)) = sym (length-drop n (rows w xs)) ∙ ap length (rows_rest w n xs h) in
    let a = rows_any w (rest w n xs) h in
    (λ k. a.0 (omega arith), λ k. let b = a.1 k in omega arith)
