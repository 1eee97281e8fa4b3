-- Every letter of a paper that calls made is a byte, so that every answer of its desk can be told. Assumes nothing.
use Rattle.std.proofs.Common.{◌≡◌, ℕ, zero, suc, ◌+◌, ◌<◌, true, ◌&&◌, ◌||◌, eqb, ltb, leb, List, [], ◌∷◌, ◌++◌, length, take, drop, sym, refl, ap, ◌∙◌, subst, ⊎_elim, arith}
use Rattle.std.specs.List.{AllByRecursion}
use Rattle.std.proofs.ByRecursion.{All-take, All-drop, all-has, All-weaker}
use Rattle.std.proofs.lemmas.Bool.{and_parts, or_cases, eqb-true, leb-true, lt-ltb}
use Rattle.model.specs.Paper.{pick, Cell, seen, view}
use Rattle.model.specs.Rows.{Cut, cut, rows_in, rows}
use Rattle.model.specs.Calls.{Call, put, strikes, accepts, rejects, styles, undo, redo, show, find, count, change, save, Answer, refused, Desk, Limits, good_letters, good_fields, good_call, turned_by, call_number, rewritten, fits, turned, told, place, after, answer, ran, new_desk}
use Rattle.model.specs.Origin.{PutBy, NothingFromNowhere}
use Rattle.model.proofs.Rows.{by_test}
use Rattle.text.specs.Lines.{Reading, means, ceases}
use Rattle.text.specs.Shown.{byte_letters, byte_rows, showable}
use Rattle.transcript.specs.Transcript.{line_after}
use Rattle.transcript.specs.Serving.{Reached}

abbrev Byte : Cell → Type 0
Byte x = x.letter < 256

-- of letters
letter_byte : (l : ℕ) → (eqb l 10 || (leb 32 l && leb l 126)) ≡ true → l < 256
letter_byte l h =
    ⊎_elim (λ e. omega (arith, eqb-true l 10 e)) (λ e. omega (arith, leb-true l 126 (and_parts (leb 32 l) (leb l 126) e).1)) (or_cases (eqb l 10) (leb 32 l && leb l 126) h)

letters_byte : (ls : List ℕ) → good_letters ls ≡ true → AllByRecursion (λ l. l < 256) ls
unfolding good_letters
letters_byte [] h = tt
letters_byte (l ∷ ls) h =
    let p = and_parts (eqb l 10 || (leb 32 l && leb l 126)) (good_letters ls) h in
    (letter_byte l p.0, letters_byte ls p.1)

-- a call that is not turned away is in range
in_range : (l : Limits) (d : Desk) (c : Call) → turned l d c ≡ 0 → good_fields c ≡ true
in_range l d c h =
    by_test (good_call l c) (pick (eqb (turned_by d c) 0) (pick (fits l (rewritten d.now c)) 0 9) (turned_by d c)) 2 (λ (n : ℕ). n ≡ 0 → good_fields c ≡ true)
    (λ t _. (and_parts (l.calls_can (call_number c)) (good_fields c) t).1)
    (λ _ e. absurd (omega arith)) h

put_byte : (l : Limits) (cs : List Call) (x : ℕ) → PutBy l cs x → x < 256
unfolding good_fields
put_byte l cs x p =
    let g = in_range l (ran l new_desk p.before) (put p.author p.place p.style p.typed) p.done in
    let q = and_parts (ltb p.author 256 && ltb p.style 256) (good_letters p.typed && (leb 1 (length p.typed) && leb (length p.typed) 1024)) g in
    let r = and_parts (good_letters p.typed) (leb 1 (length p.typed) && leb (length p.typed) 1024) q.1 in
    all-has (λ l. l < 256) p.typed x (letters_byte p.typed r.0) p.has

-- of rows
view_all : (P : Cell → Type 0) (k : ℕ) (xs : List Cell) → AllByRecursion P xs → AllByRecursion P (view k xs)
unfolding view
view_all P k [] h = tt
view_all P k (x ∷ xs) h = by_test (seen k x) (x ∷ view k xs) (view k xs) (AllByRecursion P) (λ _. (h.0, view_all P k xs h.1)) (λ _. view_all P k xs h.1)

rows_all : (P : Cell → Type 0) (n w : ℕ) (xs : List Cell) → AllByRecursion P xs → AllByRecursion (AllByRecursion P) (rows_in n w xs)
unfolding rows_in
rows_all P zero w xs h = tt
rows_all P (suc n) w [] h = tt
rows_all P (suc n) w (x ∷ xs) h =
    let c : Cut = cut w (x ∷ xs) in
    (All-take P c.long (x ∷ xs) h, rows_all P n w (drop (c.long + c.skips) (x ∷ xs)) (All-drop P (c.long + c.skips) (x ∷ xs) h))

cells_bytes : (xs : List Cell) → AllByRecursion Byte xs → byte_letters xs ≡ true
unfolding byte_letters
cells_bytes [] h = refl
cells_bytes (x ∷ xs) h = rw (lt-ltb x.letter 256 h.0) (cells_bytes xs h.1)

rows_bytes : (rs : List (List Cell)) → AllByRecursion (AllByRecursion Byte) rs → byte_rows rs ≡ true
unfolding byte_rows
rows_bytes [] h = refl
rows_bytes (r ∷ rs) h = rw (cells_bytes r h.0) (rows_bytes rs h.1)

-- of answers
told_shows : (d : Desk) (c : Call) → AllByRecursion Byte d.now.cells → showable (told d c) ≡ true
unfolding told showable
told_shows d (put a i s ls) h = refl
told_shows d (strikes a i n) h = refl
told_shows d (accepts c) h = refl
told_shows d (rejects c) h = refl
told_shows d (styles i n s) h = refl
told_shows d undo h = refl
told_shows d redo h = refl
told_shows d (show k w r n) h =
    let v : List Cell = view k d.now.cells in
    rows_bytes (take n (drop r (rows w v))) (All-take (AllByRecursion Byte) n (drop r (rows w v)) (All-drop (AllByRecursion Byte) r (rows w v) (rows_all Byte (length v) w v (view_all Byte k d.now.cells h))))
told_shows d (find k i ls) h = refl
told_shows d (count k) h = refl
told_shows d (change c) h = refl
told_shows d (save i n) h = refl

pub refusal_shows : (n i : ℕ) → showable (refused n i) ≡ true
unfolding showable
refusal_shows n i = refl

pub answer_shows : NothingFromNowhere → (l : Limits) (d : Desk) (c : Call) → Reached l d → showable (answer l d c) ≡ true
unfolding NothingFromNowhere
answer_shows law l d c reached =
    let bytes : AllByRecursion Byte (ran l new_desk reached.0).now.cells =
    All-weaker (λ (x : Cell). PutBy l reached.0 x.letter) Byte (λ x p. put_byte l reached.0 x.letter p) (ran l new_desk reached.0).now.cells (law l reached.0) in
    let here : AllByRecursion Byte d.now.cells = subst (λ (e : Desk). AllByRecursion Byte e.now.cells) (sym reached.1) bytes in
    by_test (eqb (turned l d c) 0) (told d c) (refused (turned l d c) (place c (turned l d c))) (λ (a : Answer). showable a ≡ true)
    (λ _. told_shows d c here) (λ _. refusal_shows (turned l d c) (place c (turned l d c)))

-- calls that are done one after the other
ran_push : (l : Limits) (d : Desk) (cs : List Call) (c : Call) → ran l d (cs ++ (c ∷ [])) ≡ after l (ran l d cs) c
unfolding ran
ran_push l d [] c = refl
ran_push l d (b ∷ cs) c = ran_push l (after l d b) cs c

pub reached_new : (l : Limits) → Reached l new_desk
unfolding ran
reached_new l = ([], refl)

pub reached_after : (l : Limits) (d : Desk) (r : Reading Call) → Reached l d → Reached l (line_after l d r)
reached_after l d (ceases i) h = h
reached_after l d (means c) h = (h.0 ++ (c ∷ []), ap (λ (e : Desk). after l e c) h.1 ∙ sym (ran_push l new_desk h.0 c))
