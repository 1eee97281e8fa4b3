-- Looking for the end of a row, letter by letter: xs is what is left where the row begins, and `now` what is left after i letters of it.
use Rattle.std.proofs.Common.{◌≡◌, ℕ, suc, ◌+◌, ◌-◌, ◌<◌, ◌≤◌, false, eqb, List, [], ◌∷◌, length, drop, sym, refl, ap, ◌∙◌, arith}
use Rattle.std.proofs.lemmas.Bool.{le-leb, lt-leb, eq-eqb, ne_eqb}
use Rattle.std.proofs.lemmas.List.{length-drop, drop-drop}
use Rattle.model.specs.Paper.{pick, Cell}
use Rattle.model.specs.Rows.{cut, cut_after, first_end, last_space}

-- no end of a paragraph among the i letters, and `found` is the last space among them, by one more than its place; what is to come decides
pub record Scan (w : ℕ) (xs now : List Cell) (i found : ℕ) : Type 0 where
  pub fits : i ≤ w
  pub within : i ≤ length xs
  pub rest : drop i xs ≡ now
  pub end : first_end xs (suc w) 0 ≡ first_end now (suc w - i) i
  pub space : last_space xs (suc w) 0 0 ≡ last_space now (suc w - i) i found

first_end_at : (x : Cell) (xs : List Cell) (n m i : ℕ) → n ≡ suc m → first_end (x ∷ xs) n i ≡ pick (eqb x.letter 10) (suc i) (first_end xs m (suc i))
unfolding first_end
first_end_at x xs n m i e = rw e refl

last_space_at : (x : Cell) (xs : List Cell) (n m i f : ℕ) → n ≡ suc m → last_space (x ∷ xs) n i f ≡ last_space xs m (suc i) (pick (eqb x.letter 32) (suc i) f)
unfolding last_space
last_space_at x xs n m i f e = rw e refl

first_end_none : (xs : List Cell) (i : ℕ) → first_end xs 0 i ≡ 0
unfolding first_end
first_end_none [] i = refl
first_end_none (x ∷ xs) i = refl

first_end_nil : (n i : ℕ) → first_end [] n i ≡ 0
unfolding first_end
first_end_nil n i = refl

last_space_none : (xs : List Cell) (i f : ℕ) → last_space xs 0 i f ≡ f
unfolding last_space
last_space_none [] i f = refl
last_space_none (x ∷ xs) i f = refl

-- a cut by what was found
cut_ended : (w : ℕ) (xs : List Cell) (i : ℕ) → first_end xs (suc w) 0 ≡ suc i → cut w xs ≡ record { long = i; skips = 1 }
cut_ended w xs i e =
    let t : eqb (first_end xs (suc w) 0) 0 ≡ false = ne_eqb _ _ (λ z. omega arith) in
    let f : first_end xs (suc w) 0 - 1 ≡ i = omega arith in
    rw (t, f)

cut_short : (w : ℕ) (xs : List Cell) (i : ℕ) → first_end xs (suc w) 0 ≡ 0 → length xs ≡ i → i ≤ w → cut w xs ≡ record { long = i; skips = 0 }
cut_short w xs i e l h = rw (e, l, le-leb i w h) refl

cut_broken : (w : ℕ) (xs : List Cell) (f : ℕ) → first_end xs (suc w) 0 ≡ 0 → w < length xs → last_space xs (suc w) 0 0 ≡ f → cut w xs ≡ cut_after w f
cut_broken w xs f e l h = rw (e, lt-leb (length xs) w l, h) refl

module _ (w : ℕ) (xs : List Cell) (x : Cell) (now : List Cell) (i f : ℕ) (h : Scan w xs (x ∷ now) i f) where
  -- one letter further
  pub scan_next : drop (i + 1) xs ≡ now
  scan_next = sym (drop-drop 1 i xs) ∙ ap (drop 1) h.rest

  pub scan_some : i < length xs
  scan_some = let e = ap length h.rest in omega (arith, length-drop i xs)

  room : suc w - i ≡ suc (w - i)
  room = let k = h.fits in omega arith

  pub scan_end : x.letter ≡ 10 → cut w xs ≡ record { long = i; skips = 1 }
  scan_end e = cut_ended w xs i (h.end ∙ first_end_at x now (suc w - i) (w - i) i room ∙ rw (eq-eqb _ _ e) refl)

  no_end : (x.letter ≡ 10 → ⊥) → first_end xs (suc w) 0 ≡ first_end now (w - i) (suc i)
  no_end ne = h.end ∙ first_end_at x now (suc w - i) (w - i) i room ∙ rw (ne_eqb _ _ ne) refl

  spaces : last_space xs (suc w) 0 0 ≡ last_space now (w - i) (suc i) (pick (eqb x.letter 32) (suc i) f)
  spaces = h.space ∙ last_space_at x now (suc w - i) (w - i) i f room

  pub scan_more : (x.letter ≡ 10 → ⊥) → i < w → Scan w xs now (i + 1) (pick (eqb x.letter 32) (suc i) f)
  scan_more ne l =
      let some = scan_some in
      let n : suc w - (i + 1) ≡ w - i = omega arith in
      let m : i + 1 ≡ suc i = omega arith in
      record { fits = omega arith; within = omega arith; rest = scan_next; end = rw (n, m) (no_end ne); space = rw (n, m) spaces }

  -- the first letter that does not fit
  pub scan_full : (x.letter ≡ 10 → ⊥) → i ≡ w → cut w xs ≡ cut_after w (pick (eqb x.letter 32) (suc i) f)
  scan_full ne e =
      let some = scan_some in
      let z : w - i ≡ 0 = omega arith in
      cut_broken w xs (pick (eqb x.letter 32) (suc i) f)
      (no_end ne ∙ rw z (first_end_none now (suc i))) (omega arith) (spaces ∙ rw z (last_space_none now (suc i) (pick (eqb x.letter 32) (suc i) f)))

-- nothing is left
pub scan_all : (w : ℕ) (xs : List Cell) (i f : ℕ) → Scan w xs [] i f → cut w xs ≡ record { long = i; skips = 0 }
scan_all w xs i f h = cut_short w xs i (h.end ∙ first_end_nil (suc w - i) i) (scan_length w xs i f h) h.fits
  where
    scan_length : (w : ℕ) (xs : List Cell) (i f : ℕ) → Scan w xs [] i f → length xs ≡ i
    scan_length w xs i f h = let e = ap length h.rest in let k = h.within in omega (arith, length-drop i xs)
