-- What a letter does to a row that has begun, in three cases; and a scan of one part after another. Assumes nothing.
use Rattle.std.proofs.Common.{◌≡◌, ℕ, zero, suc, ◌+◌, ◌-◌, ◌<◌, ◌≤◌, eqb, leb, [], ◌∷◌, refl, ap, ◌∙◌, add_assoc, zero-add, arith}
use Rattle.std.proofs.lemmas.Bool.{leb-true, leb-false, eqb-true, eqb-false}
use Rattle.model.specs.Paper.{pick}
use Rattle.model.proofs.Rows.{by_test}
use Rattle.breaks.specs.declared.Begun.{Begun}
use Rattle.breaks.specs.declared.Reached.{Reached}
use Rattle.breaks.specs.Breaks.{fresh, break_at, passed, scan}
use Rattle.breaks.specs.Laws.{ScanAppend, ScanWide, ScanFew}

-- the letter ends a paragraph; it fits; or the row is broken
pub passed_cases : (w : ℕ) (b : Begun) (l : ℕ) (P : Reached → Type 0) →
    (l ≡ 10 → P (record { rows = 1; begun = fresh })) →
    ((l ≡ 10 → ⊥) → suc b.long ≤ w → P (record { rows = 0; begun = record { long = suc b.long; space = pick (eqb l 32) (suc b.long) b.space } })) →
    ((l ≡ 10 → ⊥) → w < suc b.long → P (record { rows = 1; begun = record { long = suc b.long - break_at w (pick (eqb l 32) (suc b.long) b.space); space = 0 } })) →
    P (passed w b l)
unfolding passed
passed_cases w b l P ended fits broken =
    by_test (eqb l 10) _ _ P (λ t. ended (eqb-true _ _ t))
    (λ t. by_test (leb (suc b.long) w) _ _ P (λ u. fits (eqb-false _ _ t) (leb-true _ _ u)) (λ u. broken (eqb-false _ _ t) (leb-false _ _ u)))

pub break_moves : (w s : ℕ) → 0 < w → 0 < break_at w s
unfolding break_at
break_moves w zero h = h
break_moves w (suc s) h = omega arith

pub passed_wide : (w : ℕ) (b : Begun) (l : ℕ) → 0 < w → b.long ≤ w → (passed w b l).begun.long ≤ w
passed_wide w b l h k =
    passed_cases w b l (λ r. r.begun.long ≤ w) (λ _. omega arith) (λ _ f. f)
    (λ _ _. let m = break_moves w (pick (eqb l 32) (suc b.long) b.space) h in omega arith)

pub passed_few : (w : ℕ) (b : Begun) (l : ℕ) → (passed w b l).rows ≤ 1
passed_few w b l = passed_cases w b l (λ r. r.rows ≤ 1) (λ _. omega arith) (λ _ _. omega arith) (λ _ _. omega arith)

pub scan_append : ScanAppend
unfolding scan
scan_append w b [] ys = rw (zero-add (scan w b ys).rows) refl
scan_append w b (x ∷ xs) ys =
    let r : Reached = passed w b x.letter in
    let t : Reached = scan w r.begun xs in
    ap (λ (u : Reached). let v : Reached = record { rows = r.rows + u.rows; begun = u.begun } in v) (scan_append w r.begun xs ys)
    ∙ rw (add_assoc r.rows t.rows (scan w t.begun ys).rows) refl

pub scan_wide : ScanWide
unfolding scan
scan_wide w b [] h k = k
scan_wide w b (x ∷ xs) h k = scan_wide w (passed w b x.letter).begun xs h (passed_wide w b x.letter h k)

pub scan_few : ScanFew
unfolding scan
scan_few w b [] = omega arith
scan_few w b (x ∷ xs) =
    let r : Reached = passed w b x.letter in
    let f = passed_few w b x.letter in
    let g = scan_few w r.begun xs in
    omega arith
