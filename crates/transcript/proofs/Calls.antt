-- The answers to the file of a list of calls are those of the model. Assumes nothing.
use Rattle.std.proofs.Common.{◌≡◌, ℕ, ◌+◌, ◌%◌, ◌^◌, ◌<◌, Bool, true, false, not, ◌&&◌, eqb, ltb, List, [], ◌∷◌, ◌++◌, codes, decimal, refl, ap, ◌∙◌, arith}
use Rattle.std.specs.List.{AllByRecursion}
use Rattle.std.proofs.lemmas.Fmt.{decimal_by_steps}
use Rattle.std.proofs.ByRecursion.{All-append}
use Rattle.std.proofs.lemmas.Bool.{and_parts, ltb-true, lt-ltb, ne_eqb, eqb-false, not-true}
use Rattle.model.specs.Paper.{pick}
use Rattle.model.specs.Calls.{Call, put, strikes, accepts, rejects, styles, undo, redo, show, find, count, change, save, Answer, Desk, Limits, after, answer, answers, new_desk}
use Rattle.model.proofs.Rows.{by_test}
use Rattle.text.specs.Lines.{Reading, means, line_reading, numbers_line, letter_line, letters_line, quoted_line, line_of, limits_line, small, readable, ReadsBack, LimitsBack}
use Rattle.transcript.specs.Transcript.{lines_of, passed_over, kept_lines, call_lines, line_answer, line_after, line_answers, limits_for, answers_after, file_answers, told_lines, lines_for, file_for, all_sayable, AnswersCalls}
use Rattle.transcript.proofs.FileLines.{keeps}
use Rattle.transcript.proofs.Serving.{room_parts, room_answers}

-- no byte ends a line
abbrev Other : ℕ → Type 0
Other x = x ≡ 10 → ⊥

abbrev Free : List ℕ → Type 0
Free xs = AllByRecursion Other xs

plain : List ℕ → Bool
plain [] = true
plain (x ∷ xs) = not (eqb x 10) && plain xs

free_if : (xs : List ℕ) → plain xs ≡ true → Free xs
unfolding plain
free_if [] h = tt
free_if (x ∷ xs) h =
    let p = and_parts (not (eqb x 10)) (plain xs) h in
    (eqb-false x 10 (not-true (eqb x 10) p.0), free_if xs p.1)

free_decimal : (n : ℕ) → n < 2 ^ 64 → Free (decimal n)
free_decimal =
    decimal_by_steps (λ _ ds. Free ds) (λ n h. (λ e. omega arith, tt)) (λ n ds h free. All-append Other ds ((48 + n % 10) ∷ []) free (λ e. omega arith, tt))

free_numbers : (ns : List ℕ) → small ns ≡ true → Free (numbers_line ns)
unfolding numbers_line small
free_numbers [] h = tt
free_numbers (n ∷ ns) h =
    let p = and_parts (ltb n 4294967296) (small ns) h in
    (λ e. omega arith, All-append Other (decimal n) (numbers_line ns) (free_decimal n (omega (arith, ltb-true n 4294967296 p.0))) (free_numbers ns p.1))

free_letter : (l : ℕ) → Free (letter_line l)
unfolding plain
free_letter l =
    by_test (eqb l 10) (codes "\\n") (pick (eqb l 34) (codes "\\\"") (pick (eqb l 92) (codes "\\\\") (l ∷ []))) Free (λ _. free_if (codes "\\n") refl)
    (λ no.
    by_test (eqb l 34) (codes "\\\"") (pick (eqb l 92) (codes "\\\\") (l ∷ [])) Free (λ _. free_if (codes "\\\"") refl)
    (λ _. by_test (eqb l 92) (codes "\\\\") (l ∷ []) Free (λ _. free_if (codes "\\\\") refl) (λ _. (eqb-false l 10 no, tt))))

free_letters : (ls : List ℕ) → Free (letters_line ls)
unfolding letters_line plain
free_letters [] = free_if (codes "\"") refl
free_letters (l ∷ ls) = All-append Other (letter_line l) (letters_line ls) (free_letter l) (free_letters ls)

free_quoted : (ls : List ℕ) → Free (quoted_line ls)
unfolding plain
free_quoted ls = All-append Other (codes " \"") (letters_line ls) (free_if (codes " \"") refl) (free_letters ls)

-- a word and numbers
free_head : (word ns : List ℕ) → plain word ≡ true → small ns ≡ true → Free (word ++ numbers_line ns)
free_head word ns w h = All-append Other word (numbers_line ns) (free_if word w) (free_numbers ns h)

free_lettered : (word ns ls : List ℕ) → plain word ≡ true → small ns ≡ true → Free (word ++ (numbers_line ns ++ quoted_line ls))
free_lettered word ns ls w h = All-append Other word (numbers_line ns ++ quoted_line ls) (free_if word w) (All-append Other (numbers_line ns) (quoted_line ls) (free_numbers ns h) (free_quoted ls))

free_call : (c : Call) → readable c ≡ true → Free (line_of c)
unfolding line_of readable plain
free_call (put a i s ls) h = free_lettered (codes "put") (a ∷ (i ∷ (s ∷ []))) ls refl h
free_call (strikes a i n) h = free_head (codes "strike") (a ∷ (i ∷ (n ∷ []))) refl h
free_call (accepts c) h = free_head (codes "accept") (c ∷ []) refl h
free_call (rejects c) h = free_head (codes "reject") (c ∷ []) refl h
free_call (styles i n s) h = free_head (codes "style") (i ∷ (n ∷ (s ∷ []))) refl h
free_call undo h = free_if (codes "undo") refl
free_call redo h = free_if (codes "redo") refl
free_call (show k w r n) h = free_head (codes "show") (k ∷ (w ∷ (r ∷ (n ∷ [])))) refl h
free_call (find k i ls) h = free_lettered (codes "find") (k ∷ (i ∷ [])) ls refl h
free_call (count k) h = free_head (codes "count") (k ∷ []) refl h
free_call (change c) h = free_head (codes "change") (c ∷ []) refl h
free_call (save i n) h = free_head (codes "save") (i ∷ (n ∷ [])) refl h

kept_call : (c : Call) → passed_over (line_of c) ≡ false
unfolding line_of
kept_call (put a i s ls) = refl
kept_call (strikes a i n) = refl
kept_call (accepts c) = refl
kept_call (rejects c) = refl
kept_call (styles i n s) = refl
kept_call undo = refl
kept_call redo = refl
kept_call (show k w r n) = refl
kept_call (find k i ls) = refl
kept_call (count k) = refl
kept_call (change c) = refl
kept_call (save i n) = refl

-- a line without byte 10, which ends with it
line_first : (xs ys : List ℕ) → Free xs → lines_of (xs ++ (10 ∷ ys)) ≡ xs ∷ lines_of ys
unfolding lines_of
line_first [] ys h = refl
line_first (x ∷ xs) ys h = rw (ne_eqb x 10 h.0, line_first xs ys h.1) refl

calls_told : ReadsBack → (l : Limits) (d : Desk) (cs : List Call) → all_sayable cs ≡ true → line_answers l d (call_lines (lines_for cs)) ≡ answers l d cs
unfolding lines_of kept_lines line_answers lines_for all_sayable answers
calls_told back l d [] h = refl
calls_told back l d (c ∷ cs) h =
    let p = and_parts (readable c) (all_sayable cs) h in
    let first : call_lines (line_of c ++ (10 ∷ lines_for cs)) ≡ line_of c ∷ call_lines (lines_for cs) =
    keeps (line_of c ++ (10 ∷ lines_for cs)) (line_of c) (lines_for cs) (line_first (line_of c) (lines_for cs) (free_call c p.0)) (kept_call c) in
    let is : line_reading (line_of c) ≡ means c = back c p.0 in
    ap (line_answers l d) first
    ∙ (ap (λ (r : Reading Call). line_answer l d r ∷ line_answers l (line_after l d r) (call_lines (lines_for cs))) is
    ∙ ap (λ (others : List Answer). answer l d c ∷ others) (calls_told back l (after l d c) cs p.1))

limits_small : (n c u : ℕ) → n < 4294967296 → c < 4294967296 → u < 4294967296 → small (n ∷ (c ∷ (u ∷ []))) ≡ true
unfolding small
limits_small n c u h k m = rw (lt-ltb n 4294967296 h, lt-ltb c 4294967296 k, lt-ltb u 4294967296 m) refl

pub answers_calls : ReadsBack → LimitsBack → AnswersCalls
unfolding plain
answers_calls back limits n c u cs room ok =
    let p = room_parts n c u room in
    let a : n < 4294967296 = omega (arith, p.0) in
    let b : c < 4294967296 = omega (arith, p.1) in
    let d : u < 4294967296 = omega (arith, p.2) in
    let first : call_lines (file_for n c u cs) ≡ limits_line n c u ∷ call_lines (lines_for cs) =
    keeps (file_for n c u cs) (limits_line n c u) (lines_for cs) (line_first (limits_line n c u) (lines_for cs) (free_head (codes "limits") (n ∷ (c ∷ (u ∷ []))) refl (limits_small n c u a b d))) refl in
    ap (λ (ls : List (List ℕ)). told_lines (file_answers ls)) first
    ∙ (ap (λ (r : Reading (List ℕ)). told_lines (answers_after r (call_lines (lines_for cs)))) (limits n c u a b d)
    ∙ (ap told_lines (room_answers n c u (call_lines (lines_for cs)) room)
    ∙ ap told_lines (calls_told back (limits_for n c u) new_desk cs ok)))
