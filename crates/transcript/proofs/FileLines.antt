-- The lines of a file, one by one. Assumes nothing.
use Rattle.std.proofs.Common.{Bor, ◌≡◌, ℕ, zero, suc, ◌<◌, true, false, eqb, None, List, [], ◌∷◌, length, map, get_or, take, drop, sym, refl, ap, ◌∙◌, arith}
use Rattle.std.specs.Iterator.{Yields, YieldsFirstRef}
use Rattle.std.proofs.lemmas.Bool.{ne_eqb}
use Rattle.std.proofs.lemmas.Iterator.Consumers.{YieldsList-from_first, YieldsList-end}
use Rattle.transcript.specs.Transcript.{onto, lines_of, passed_over, kept_lines, call_lines}
use Rattle.transcript.specs.declared.lines.Lines.{Lines}

-- none of the first n bytes ends a line
abbrev pub Plain : List ℕ → ℕ → Type 0
Plain xs n = (k : ℕ) → k < n → get_or xs k 0 ≡ 10 → ⊥

rest_plain : (x : ℕ) (xs : List ℕ) (n : ℕ) → Plain (x ∷ xs) (suc n) → Plain xs n
rest_plain x xs n f k h e = f (suc k) (omega arith) e

-- a line that ends with byte 10
pub line_ends : (xs : List ℕ) (i : ℕ) → i < length xs → Plain xs i → get_or xs i 0 ≡ 10 → lines_of xs ≡ take i xs ∷ lines_of (drop (suc i) xs)
unfolding lines_of
line_ends [] i h f e = absurd (omega arith)
line_ends (x ∷ xs) zero h f e = rw e refl
line_ends (x ∷ xs) (suc i) h f e =
    let l : i < length xs = omega arith in
    let no : eqb x 10 ≡ false = ne_eqb x 10 (f 0 (omega arith)) in
    rw (no, line_ends xs i l (rest_plain x xs i f) e) refl

-- a line that ends with the file
pub line_last : (xs : List ℕ) → 0 < length xs → Plain xs (length xs) → lines_of xs ≡ xs ∷ []
unfolding lines_of
line_last [] h f = absurd (omega arith)
line_last (x ∷ []) h f =
    let no : eqb x 10 ≡ false = ne_eqb x 10 (f 0 (omega arith)) in
    rw no refl
line_last (x ∷ (y ∷ xs)) h f =
    let no : eqb x 10 ≡ false = ne_eqb x 10 (f 0 (omega arith)) in
    let l : 0 < length (y ∷ xs) = omega arith in
    let e : lines_of (y ∷ xs) ≡ (y ∷ xs) ∷ [] = line_last (y ∷ xs) l (rest_plain x (y ∷ xs) (length (y ∷ xs)) f) in
    rw no (ap (onto x) e)

-- a line that is passed over, and one that is kept
pub passes : (file line rest : List ℕ) → lines_of file ≡ line ∷ lines_of rest → passed_over line ≡ true → call_lines file ≡ call_lines rest
unfolding kept_lines
passes file line rest e h = ap kept_lines e ∙ rw h refl

pub keeps : (file line rest : List ℕ) → lines_of file ≡ line ∷ lines_of rest → passed_over line ≡ false → call_lines file ≡ line ∷ call_lines rest
unfolding kept_lines
keeps file line rest e h = ap kept_lines e ∙ rw h refl

pub no_lines : (file : List ℕ) → length file ≡ 0 → call_lines file ≡ []
unfolding kept_lines lines_of
no_lines [] h = refl
no_lines (x ∷ xs) h = absurd (omega arith)

-- the lines that came one by one, to the last
pub came : (s from u : Lines) (xs : List (Bor (List ℕ))) → from ≡ s → Yields (YieldsFirstRef (λ l. call_lines l.rest.now)) from xs u → call_lines u.rest.now ≡ [] → call_lines s.rest.now ≡ map (λ w. w.now) xs
came s from u xs at y last =
    let all = YieldsList-from_first (λ w. w.now) (λ l. call_lines l.rest.now) (call_lines from.rest.now) refl in
    ap (λ l. call_lines l.rest.now) (sym at) ∙ sym (YieldsList-end all xs u y None u refl (last, last)).0
