-- Where the row begins that a scan has reached. Assumes nothing.
use Rattle.std.proofs.Common.{◌≡◌, ℕ, zero, suc, ◌+◌, ◌-◌, ◌<◌, ◌≤◌, false, eqb, ◌⊎◌, List, [], ◌∷◌, ◌++◌, length, drop, sym, refl, ap, ◌∙◌, subst, inl, inr, append_assoc, zero-add, add-zero, arith}
use Rattle.std.proofs.lemmas.Bool.{lt-leb, eq-eqb, ne_eqb, eqb-false}
use Rattle.std.proofs.lemmas.List.{length-append, length-drop, drop-drop, drop_at, drop-append-le, length_push}
use Rattle.model.specs.Paper.{pick, Cell}
use Rattle.model.specs.Rows.{Cut, cut, cut_after, first_end, last_space, rows}
use Rattle.model.specs.Walk.{step, rest}
use Rattle.model.proofs.Rows.{by_test, rows_step}
use Rattle.breaks.specs.declared.Begun.{Begun}
use Rattle.breaks.specs.declared.Reached.{Reached}
use Rattle.breaks.specs.Breaks.{fresh, break_at, scan}
use Rattle.breaks.specs.Laws.{RowBegins, ScanRows, Breaks}
use Rattle.breaks.proofs.Scan.{passed_cases, break_moves, scan_append, scan_wide, scan_few}

-- no letter is l
abbrev pub Without : ℕ → List Cell → Type 0
Without l [] = Unit {0}
Without l (x ∷ xs) = (x.letter ≡ l → ⊥) × Without l xs

without_more : (l : ℕ) (xs : List Cell) (x : Cell) → Without l xs → (x.letter ≡ l → ⊥) → Without l (xs ++ (x ∷ []))
without_more l [] x h k = (k, tt)
without_more l (y ∷ xs) x h k = (h.0, without_more l xs x h.1 k)

without_drop : (l n : ℕ) (xs : List Cell) → Without l xs → Without l (drop n xs)
without_drop l zero xs h = h
without_drop l (suc n) [] h = tt
without_drop l (suc n) (x ∷ xs) h = without_drop l n xs h.1

-- The first end of a paragraph and the last space, of one list behind another.
first_end_at : (x : Cell) (xs : List Cell) (n m i : ℕ) → n ≡ suc m → first_end (x ∷ xs) n i ≡ pick (eqb x.letter 10) (suc i) (first_end xs m (suc i))
unfolding first_end
first_end_at x xs n m i e = rw e refl

last_space_at : (x : Cell) (xs : List Cell) (n m i f : ℕ) → n ≡ suc m → last_space (x ∷ xs) n i f ≡ last_space xs m (suc i) (pick (eqb x.letter 32) (suc i) f)
unfolding last_space
last_space_at x xs n m i f e = rw e refl

first_end_none : (xs : List Cell) (i : ℕ) → first_end xs 0 i ≡ 0
unfolding first_end
first_end_none [] i = refl
first_end_none (x ∷ xs) i = refl

last_space_none : (xs : List Cell) (i f : ℕ) → last_space xs 0 i f ≡ f
unfolding last_space
last_space_none [] i f = refl
last_space_none (x ∷ xs) i f = refl

first_end_behind : (xs ys : List Cell) (m i : ℕ) → Without 10 xs → first_end (xs ++ ys) (length xs + m) i ≡ first_end ys m (i + length xs)
first_end_behind [] ys m i h = rw (zero-add m, add-zero i) refl
first_end_behind (x ∷ xs) ys m i h =
    let e : suc i + length xs ≡ i + suc (length xs) = omega arith in
    first_end_at x (xs ++ ys) (suc (length xs) + m) (length xs + m) i (omega arith) ∙ rw (ne_eqb x.letter 10 h.0) (first_end_behind xs ys m (suc i) h.1 ∙ ap (first_end ys m) e)

last_space_behind : (xs ys : List Cell) (m i f : ℕ) → last_space (xs ++ ys) (length xs + m) i f ≡ last_space ys m (i + length xs) (last_space xs (length xs) i f)
unfolding last_space
last_space_behind [] ys m i f = rw (zero-add m, add-zero i) refl
last_space_behind (x ∷ xs) ys m i f =
    let g : ℕ = pick (eqb x.letter 32) (suc i) f in
    let e : suc i + length xs ≡ i + suc (length xs) = omega arith in
    last_space_at x (xs ++ ys) (suc (length xs) + m) (length xs + m) i f (omega arith) ∙ last_space_behind xs ys m (suc i) g
    ∙ ap (λ (j : ℕ). last_space ys m j (last_space xs (length xs) (suc i) g)) e

-- there is no space, or none behind the last one
LastOf : List Cell → ℕ → ℕ → ℕ → Type 0
LastOf ys i f s = ((s ≡ f) × Without 32 ys) ⊎ ((k : ℕ) × (s ≡ suc (i + k)) × (k < length ys) × Without 32 (drop (suc k) ys))

last_of : (ys : List Cell) (i f : ℕ) → LastOf ys i f (last_space ys (length ys) i f)
unfolding last_space LastOf
last_of [] i f = inl (refl, tt)
last_of (y ∷ ys) i f =
    let s : ℕ = last_space ys (length ys) (suc i) (pick (eqb y.letter 32) (suc i) f) in
    elim (last_of ys (suc i) (pick (eqb y.letter 32) (suc i) f)) [
      | inl r ↦
          by_test (eqb y.letter 32) (suc i) f (λ g. s ≡ g → LastOf (y ∷ ys) i f s)
          (λ t e. inr (0, omega arith, omega arith, r.1)) (λ t e. inl (e, (eqb-false _ _ t, r.1))) r.0
      | inr r ↦ inr (suc r.0, omega arith, omega arith, r.3)
    ]

without_space : (ys : List Cell) (n i f : ℕ) → Without 32 ys → last_space ys n i f ≡ f
unfolding last_space
without_space [] n i f h = refl
without_space (y ∷ ys) zero i f h = refl
without_space (y ∷ ys) (suc n) i f h = rw (ne_eqb y.letter 32 h.0) (without_space ys n (suc i) f h.1)

-- What is left of a row that is broken has no space, and the break is within it.
left_plain : (w : ℕ) (ys : List Cell) → w ≤ length ys →
    (break_at w (last_space ys (length ys) 0 0) ≤ length ys) × Without 32 (drop (break_at w (last_space ys (length ys) 0 0)) ys)
unfolding LastOf break_at
left_plain w ys h = by_last (last_space ys (length ys) 0 0) (last_of ys 0 0)
  where
    by_last : (s : ℕ) → LastOf ys 0 0 s → (break_at w s ≤ length ys) × Without 32 (drop (break_at w s) ys)
    by_last zero l = elim l [ inl r ↦ (h, without_drop 32 w ys r.1) | inr r ↦ absurd (omega arith) ]
    by_last (suc s) l =
        elim l [
          | inl r ↦ absurd (omega arith)
          | inr r ↦ let e : r.0 ≡ s = omega arith in (omega arith, subst (λ (k : ℕ). Without 32 (drop (suc k) ys)) e r.3)
        ]

-- A cut by what was found.
cut_ended : (w : ℕ) (xs : List Cell) (i : ℕ) → first_end xs (suc w) 0 ≡ suc i → cut w xs ≡ record { long = i; skips = 1 }
cut_ended w xs i e =
    let t : eqb (first_end xs (suc w) 0) 0 ≡ false = ne_eqb _ _ (λ z. omega arith) in
    let f : first_end xs (suc w) 0 - 1 ≡ i = omega arith in
    rw (t, f)

cut_broken : (w : ℕ) (xs : List Cell) (f : ℕ) → first_end xs (suc w) 0 ≡ 0 → w < length xs → last_space xs (suc w) 0 0 ≡ f → cut w xs ≡ cut_after w f
cut_broken w xs f e l h = rw (e, lt-leb (length xs) w l, h) refl

step_after : (w f : ℕ) → (cut_after w f).long + (cut_after w f).skips ≡ break_at w f
unfolding cut_after break_at
step_after w zero = add-zero w
step_after w (suc s) = omega arith

-- The row that has begun has the letters cur.
pub record Open (w : ℕ) (b : Begun) (cur : List Cell) : Type 0 where
  pub long : length cur ≡ b.long
  pub fits : b.long ≤ w
  pub plain : Without 10 cur
  pub space : last_space cur (length cur) 0 0 ≡ b.space

open_none : (w : ℕ) → Open w fresh []
unfolding last_space
open_none w = record { long = refl; fits = omega arith; plain = tt; space = refl }

-- one letter more
module _ (w : ℕ) (b : Begun) (cur : List Cell) (x : Cell) (ys : List Cell) (o : Open w b cur) where
  first : first_end (cur ++ (x ∷ ys)) (suc w) 0 ≡ pick (eqb x.letter 10) (suc b.long) (first_end ys (w - b.long) (suc b.long))
  first =
      let l = o.long in
      let k = o.fits in
      let e : suc w ≡ length cur + suc (w - b.long) = omega arith in
      let i : 0 + length cur ≡ b.long = omega arith in
      ap (λ (n : ℕ). first_end (cur ++ (x ∷ ys)) n 0) e ∙ first_end_behind cur (x ∷ ys) (suc (w - b.long)) 0 o.plain ∙ rw i (first_end_at x ys (suc (w - b.long)) (w - b.long) b.long refl)

  pub step_end : x.letter ≡ 10 → step w (cur ++ (x ∷ ys)) ≡ b.long + 1
  step_end e = ap (λ (c : Cut). c.long + c.skips) (cut_ended w (cur ++ (x ∷ ys)) b.long (first ∙ rw (eq-eqb _ _ e) refl))

  pub step_broken : (x.letter ≡ 10 → ⊥) → w < suc b.long → step w (cur ++ (x ∷ ys)) ≡ break_at w (pick (eqb x.letter 32) (suc b.long) b.space)
  step_broken ne h =
      let l = o.long in
      let k = o.fits in
      let z : w - b.long ≡ 0 = omega arith in
      let e : suc w ≡ length cur + 1 = omega arith in
      let i : 0 + length cur ≡ b.long = omega arith in
      let f = pick (eqb x.letter 32) (suc b.long) b.space in
      let some = length-append cur (x ∷ ys) in
      let none : first_end (cur ++ (x ∷ ys)) (suc w) 0 ≡ 0 = first ∙ rw (ne_eqb x.letter 10 ne, z) (first_end_none ys (suc b.long)) in
      let last : last_space (cur ++ (x ∷ ys)) (suc w) 0 0 ≡ f =
      ap (λ (n : ℕ). last_space (cur ++ (x ∷ ys)) n 0 0) e ∙ last_space_behind cur (x ∷ ys) 1 0 0
      ∙ rw (i, o.space) (last_space_at x ys 1 0 b.long b.space refl ∙ last_space_none ys (suc b.long) f) in
      ap (λ (c : Cut). c.long + c.skips) (cut_broken w (cur ++ (x ∷ ys)) f none (omega arith) last) ∙ step_after w f

module _ (w : ℕ) (b : Begun) (cur : List Cell) (x : Cell) (o : Open w b cur) where
  pub space_more : last_space (cur ++ (x ∷ [])) (length (cur ++ (x ∷ []))) 0 0 ≡ pick (eqb x.letter 32) (suc b.long) b.space
  space_more =
      let l = o.long in
      let i : 0 + length cur ≡ b.long = omega arith in
      ap (λ (n : ℕ). last_space (cur ++ (x ∷ [])) n 0 0) (length_push cur x) ∙ last_space_behind cur (x ∷ []) 1 0 0
      ∙ rw (i, o.space) (last_space_at x [] 1 0 b.long b.space refl ∙ last_space_none [] (suc b.long) _)

  pub open_more : (x.letter ≡ 10 → ⊥) → suc b.long ≤ w → Open w (record { long = suc b.long; space = pick (eqb x.letter 32) (suc b.long) b.space }) (cur ++ (x ∷ []))
  open_more ne h =
      let l = o.long in
      let m = length_push cur x in
      record { long = omega arith; fits = h; plain = without_more 10 cur x o.plain ne; space = space_more }

  pub left_open : 0 < w → (x.letter ≡ 10 → ⊥) → w < suc b.long →
      (break_at w (pick (eqb x.letter 32) (suc b.long) b.space) ≤ suc b.long)
      × Open w (record { long = suc b.long - break_at w (pick (eqb x.letter 32) (suc b.long) b.space); space = 0 }) (drop (break_at w (pick (eqb x.letter 32) (suc b.long) b.space)) (cur ++ (x ∷ [])))
  left_open h ne k =
      let l = o.long in
      let f = o.fits in
      let s = pick (eqb x.letter 32) (suc b.long) b.space in
      let m = length_push cur x in
      let p = left_plain w (cur ++ (x ∷ [])) (omega arith) in
      let q = subst (λ (s : ℕ). (break_at w s ≤ length (cur ++ (x ∷ []))) × Without 32 (drop (break_at w s) (cur ++ (x ∷ [])))) space_more p in
      let d = length-drop (break_at w s) (cur ++ (x ∷ [])) in
      let v = break_moves w s h in (
        omega arith,
        record {
          long = omega arith;
          fits = omega arith;
          plain = without_drop 10 (break_at w s) (cur ++ (x ∷ [])) (without_more 10 cur x o.plain ne);
          space = without_space (drop (break_at w s) (cur ++ (x ∷ []))) _ 0 0 q.1;
        },
      )

-- From row to row, the first row first.
rest_first : (w n : ℕ) (xs : List Cell) → rest w (suc n) xs ≡ rest w n (drop (step w xs) xs)
unfolding rest
rest_first w zero xs = refl
rest_first w (suc n) xs = ap (λ (ys : List Cell). drop (step w ys) ys) (rest_first w n xs)

row_ended : (w : ℕ) (all next : List Cell) (s n : ℕ) (t : Reached) → 0 < w → 0 < length all → step w all ≡ s → drop s all ≡ next → RowBegins w t n next →
    RowBegins w (record { rows = 1 + t.rows; begun = t.begun }) (s + n) all
row_ended w all next s n t h k e f r =
    let i = r.within in
    let m = r.enough in
    let j : 1 + t.rows ≡ suc t.rows = omega arith in
    let g : drop (step w all) all ≡ next = ap (λ (c : ℕ). drop c all) e ∙ f in
    let p : s + (n - t.begun.long) ≡ s + n - t.begun.long = omega arith in
    let a : length (rows w all) ≡ suc (length (rows w (drop (step w all) all))) = ap length (rows_step w all h k) in
    let b : length (rows w (drop (step w all) all)) ≡ length (rows w next) = ap (λ (c : List Cell). length (rows w c)) g in
    record {
      within = omega arith;
      start =
          ap (λ (c : ℕ). rest w c all) j ∙ rest_first w t.rows all ∙ ap (rest w t.rows) g ∙ r.start
          ∙ ap (drop (n - t.begun.long)) (sym f) ∙ drop-drop (n - t.begun.long) s all ∙ ap (λ (c : ℕ). drop c all) p;
      enough = omega arith;
    }

begins_as : (w n m : ℕ) (r t : Reached) (xs ys : List Cell) → r ≡ t → n ≡ m → xs ≡ ys → RowBegins w r n xs → RowBegins w t m ys
begins_as w n m r t xs ys e f g h =
    subst (λ (c : Reached). RowBegins w c m ys) e (subst (λ (c : ℕ). RowBegins w r c ys) f (subst (λ (c : List Cell). RowBegins w r n c) g h))

-- The three cases of one letter more.
module _ (w : ℕ) (b : Begun) (cur : List Cell) (x : Cell) (ys : List Cell) (o : Open w b cur) (h : 0 < w) where
  both : (cur ++ (x ∷ [])) ++ ys ≡ cur ++ (x ∷ ys)
  both = append_assoc cur (x ∷ []) ys

  some : 0 < length (cur ++ (x ∷ ys))
  some = omega (arith, length-append cur (x ∷ ys))

  pub after_end : x.letter ≡ 10 → (t : Reached) (n : ℕ) → RowBegins w t n ys → RowBegins w (record { rows = 1 + t.rows; begun = t.begun }) (length cur + suc n) (cur ++ (x ∷ ys))
  after_end e t n r =
      let l = o.long in
      let m = length_push cur x in
      let d : drop (b.long + 1) (cur ++ (x ∷ ys)) ≡ ys = ap (drop (b.long + 1)) (sym both) ∙ drop_at (cur ++ (x ∷ [])) ys (b.long + 1) (omega arith) in
      begins_as w _ _ _ _ _ _ refl (omega arith) refl (row_ended w (cur ++ (x ∷ ys)) ys (b.long + 1) n t h some (step_end w b cur x ys o e) d r)

  pub after_fit : (t : Reached) (n : ℕ) → RowBegins w t (length (cur ++ (x ∷ [])) + n) ((cur ++ (x ∷ [])) ++ ys) → RowBegins w (record { rows = 0 + t.rows; begun = t.begun }) (length cur + suc n) (cur ++ (x ∷ ys))
  after_fit t n r =
      let m = length_push cur x in
      begins_as w _ _ _ _ _ _ (rw (zero-add t.rows) refl) (omega arith) both r

  pub after_break : (x.letter ≡ 10 → ⊥) → w < suc b.long → (s : ℕ) → s ≡ break_at w (pick (eqb x.letter 32) (suc b.long) b.space) → s ≤ suc b.long → (t : Reached) (n : ℕ) →
      RowBegins w t (length (drop s (cur ++ (x ∷ []))) + n) (drop s (cur ++ (x ∷ [])) ++ ys) → RowBegins w (record { rows = 1 + t.rows; begun = t.begun }) (length cur + suc n) (cur ++ (x ∷ ys))
  after_break ne k s e v t n r =
      let l = o.long in
      let m = length_push cur x in
      let c = length-drop s (cur ++ (x ∷ [])) in
      let d : drop s (cur ++ (x ∷ ys)) ≡ drop s (cur ++ (x ∷ [])) ++ ys = ap (drop s) (sym both) ∙ drop-append-le s (cur ++ (x ∷ [])) ys (omega arith) in
      begins_as w _ _ _ _ _ _ refl (omega arith) refl (row_ended w (cur ++ (x ∷ ys)) (drop s (cur ++ (x ∷ [])) ++ ys) s (length (drop s (cur ++ (x ∷ []))) + n) t h some (step_broken w b cur x ys o ne k ∙ sym e) d r)

scan_open : (w : ℕ) → 0 < w → (xs zs cur : List Cell) (b : Begun) → Open w b cur → RowBegins w (scan w b xs) (length cur + length xs) (cur ++ (xs ++ zs))
unfolding scan rest
scan_open w h [] zs cur b o =
    let l = o.long in
    let e : length cur + 0 - b.long ≡ 0 = omega arith in
    record { within = omega arith; start = rw e refl; enough = omega arith }
scan_open w h (x ∷ xs) zs cur b o =
    let sp : ℕ = pick (eqb x.letter 32) (suc b.long) b.space in
    passed_cases w b x.letter (λ r. let t : Reached = scan w r.begun xs in RowBegins w (record { rows = r.rows + t.rows; begun = t.begun }) (length cur + suc (length xs)) (cur ++ (x ∷ (xs ++ zs))))
    (λ e. after_end w b cur x (xs ++ zs) o h e (scan w fresh xs) (length xs) (rw (zero-add (length xs)) at (scan_open w h xs zs [] fresh (open_none w))))
    (λ ne k.
    let next : Begun = record { long = suc b.long; space = sp } in
    after_fit w b cur x (xs ++ zs) o h (scan w next xs) (length xs) (scan_open w h xs zs (cur ++ (x ∷ [])) next (open_more w b cur x o ne k)))
    (λ ne k.
    let p = left_open w b cur x o h ne k in
    let next : Begun = record { long = suc b.long - break_at w sp; space = 0 } in
    after_break w b cur x (xs ++ zs) o h ne k (break_at w sp) refl p.0 (scan w next xs) (length xs) (scan_open w h xs zs (drop (break_at w sp) (cur ++ (x ∷ []))) next p.1))

pub scan_rows : ScanRows
scan_rows w xs zs h = rw (zero-add (length xs)) at (scan_open w h xs zs [] fresh (open_none w))

pub breaks : Breaks
breaks = record { append = scan_append; wide = scan_wide; few = scan_few; rows = scan_rows }
