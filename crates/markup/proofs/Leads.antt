-- What a reader of the page sees: tags are passed over, whatever stands in them, and letters are read back.
use Rattle.std.proofs.Common.{◌≡◌, ℕ, zero, suc, ◌+◌, ◌-◌, ◌/◌, ◌%◌, true, false, cond, eqb, ltb, List, [], ◌∷◌, ◌++◌, codes, decimal, sym, refl, ap, ◌∙◌, arith}
use Rattle.std.specs.Fmt.{digits, digits_onto, digit_glyph}
use Rattle.std.proofs.lemmas.List.{append_assoc}
use Rattle.std.proofs.lemmas.Bool.{eqb-true, ne_eqb}
use Rattle.model.specs.Paper as paper
use Rattle.model.specs.Paper.{pick, Cell, Change}
use Rattle.model.proofs.Picks.{pick_both}
use Rattle.model.proofs.Rows.{by_test}
use Rattle.markup.specs.Plain.{Where, body, tag, escaped, all_escaped, same, plain_at, plain}
use Rattle.markup.specs.Marked.{bare, colour, hue, author_by, said, title, span, mark_tag, opened, closed, alike, between, following, marked}
use Rattle.markup.specs.Laws.{ReadsLetters, ReadsCells}

-- bytes that show nothing, and bring a reader from one state to another
abbrev Leads : Where → List ℕ → Where → Type 0
Leads a bs b = (rest : List ℕ) → plain_at a (bs ++ rest) ≡ plain_at b rest

both : (a b c : Where) (xs ys : List ℕ) → Leads a xs b → Leads b ys c → Leads a (xs ++ ys) c
both a b c xs ys f g rest = ap (plain_at a) (append_assoc xs ys rest) ∙ (f (ys ++ rest) ∙ g rest)

none : (a : Where) → Leads a [] a
none a rest = refl

-- a letter is read back
pub letter_back : (l : ℕ) (rest : List ℕ) → plain (escaped l ++ rest) ≡ l ∷ plain rest
unfolding plain_at same
letter_back l rest =
    let P : List ℕ → Type 0 = λ bs. plain (bs ++ rest) ≡ l ∷ plain rest in
    by_test (eqb l 60) _ _ P (λ t. ap (λ m. m ∷ plain rest) (sym (eqb-true l 60 t)))
    (λ a. by_test (eqb l 62) _ _ P (λ t. ap (λ m. m ∷ plain rest) (sym (eqb-true l 62 t)))
    (λ b. by_test (eqb l 38) _ _ P (λ t. ap (λ m. m ∷ plain rest) (sym (eqb-true l 38 t)))
    (λ c. by_test (eqb l 34) _ _ P (λ t. ap (λ m. m ∷ plain rest) (sym (eqb-true l 34 t)))
    (λ d. rw (a, c)))))

pub reads_letters : ReadsLetters
unfolding all_escaped
reads_letters [] rest = refl
reads_letters (l ∷ ls) rest = ap plain (append_assoc (escaped l) (all_escaped ls) rest) ∙ (letter_back l (all_escaped ls ++ rest) ∙ ap (λ ms. l ∷ ms) (reads_letters ls rest))

-- a digit does not end a tag
digit_stays : (n : ℕ) (acc : List ℕ) → Leads tag acc tag → Leads tag (digit_glyph false (n % 10) ∷ acc) tag
unfolding plain_at
digit_stays n acc f rest =
    let d : eqb (digit_glyph false (n % 10)) 62 ≡ false =
    elim (ltb (n % 10) 10) as (λ b. eqb (cond b (48 + n % 10) (87 + n % 10)) 62 ≡ false) [
      | true ↦ ne_eqb (48 + n % 10) 62 (λ e. omega arith)
      | false ↦ ne_eqb (87 + n % 10) 62 (λ e. omega arith)
    ] in
    rw d (f rest)

spelled_stays : (k n : ℕ) (acc : List ℕ) → Leads tag acc tag → Leads tag (digits_onto k 10 false n acc) tag
spelled_stays zero n acc f = f
spelled_stays (suc k) n acc f =
    let here : List ℕ = digit_glyph false (n % 10) ∷ acc in
    let g : Leads tag here tag = digit_stays n acc f in
    elim (eqb (n / 10) 0) as (λ b. Leads tag (cond b here (digits_onto k 10 false (n / 10) here)) tag) [ true ↦ g | false ↦ spelled_stays k (n / 10) here g ]

number_stays : (n : ℕ) → Leads tag (decimal n) tag
unfolding digits
number_stays n = spelled_stays 64 n [] (none tag)

-- in a tag: colours and titles
colour_stays : (a : ℕ) → Leads tag (colour a) tag
unfolding plain_at
colour_stays a =
    both tag tag tag (codes " style='color:hsl(") (decimal (hue a) ++ codes ",70%,30%)'") (λ rest. refl)
    (both tag tag tag (decimal (hue a)) (codes ",70%,30%)'") (number_stays (hue a)) (λ rest. refl))

said_stays : (words : List ℕ) (m : ℕ) → Leads tag words tag → Leads tag (said words m) tag
unfolding plain_at
said_stays words m f =
    pick_both (λ bs. Leads tag bs tag) (eqb m 0) _ _ (none tag)
    (both tag tag tag words (decimal (m - 1) ++ codes ". ") f (both tag tag tag (decimal (m - 1)) (codes ". ") (number_stays (m - 1)) (λ rest. refl)))

title_stays : (p k : ℕ) → Leads tag (title p k) tag
unfolding plain_at
title_stays p k =
    let a : List ℕ = said (codes "Put in by change ") p in
    let b : List ℕ = said (codes "Struck out by change ") k in
    pick_both (λ bs. Leads tag bs tag) (bare p k) _ _ (none tag)
    (both tag tag tag (codes " title='") (a ++ (b ++ codes "'")) (λ rest. refl)
    (both tag tag tag a (b ++ codes "'") (said_stays (codes "Put in by change ") p (λ rest. refl))
    (both tag tag tag b (codes "'") (said_stays (codes "Struck out by change ") k (λ rest. refl)) (λ rest. refl))))

-- whole tags
span_silent : (x : Cell) → Leads body (span x) body
unfolding plain_at
span_silent x =
    let t : List ℕ = title x.put_in x.struck in
    both body tag body (codes "<span class='s") (decimal x.style ++ (codes "'" ++ (t ++ codes ">"))) (λ rest. refl)
    (both tag tag body (decimal x.style) (codes "'" ++ (t ++ codes ">")) (number_stays x.style)
    (both tag tag body (codes "'") (t ++ codes ">") (λ rest. refl)
    (both tag tag body t (codes ">") (title_stays x.put_in x.struck) (λ rest. refl))))

mark_silent : (start : List ℕ) (cs : List Change) (m : ℕ) → Leads body start tag → Leads body (mark_tag start cs m) body
unfolding plain_at
mark_silent start cs m f =
    let t : List ℕ = colour (author_by cs m) in
    pick_both (λ bs. Leads body bs body) (eqb m 0) _ _ (none body)
    (both body tag body start (decimal (m - 1) ++ (codes "'" ++ (t ++ codes ">"))) f
    (both tag tag body (decimal (m - 1)) (codes "'" ++ (t ++ codes ">")) (number_stays (m - 1))
    (both tag tag body (codes "'") (t ++ codes ">") (λ rest. refl)
    (both tag tag body t (codes ">") (colour_stays (author_by cs m)) (λ rest. refl)))))

opened_silent : (cs : List Change) (x : Cell) → Leads body (opened cs x) body
unfolding plain_at
opened_silent cs x =
    let a : List ℕ = mark_tag (codes "<ins data-change='") cs x.put_in in
    let b : List ℕ = mark_tag (codes "<del data-change='") cs x.struck in
    both body body body (span x) (a ++ b) (span_silent x)
    (both body body body a b (mark_silent (codes "<ins data-change='") cs x.put_in (λ rest. refl)) (mark_silent (codes "<del data-change='") cs x.struck (λ rest. refl)))

closed_silent : (p k : ℕ) → Leads body (closed p k) body
unfolding plain_at
closed_silent p k =
    let P : List ℕ → Type 0 = λ bs. Leads body bs body in
    pick_both P (eqb p 0) _ _ (pick_both P (eqb k 0) _ _ (λ rest. refl) (λ rest. refl)) (pick_both P (eqb k 0) _ _ (λ rest. refl) (λ rest. refl))

between_silent : (cs : List Change) (x y : Cell) → Leads body (between cs x y) body
unfolding plain_at
between_silent cs x y =
    let P : List ℕ → Type 0 = λ bs. Leads body bs body in
    let c : List ℕ = closed x.put_in x.struck in
    let o : List ℕ = opened cs y in
    let f = closed_silent x.put_in x.struck in
    let g = opened_silent cs y in
    pick_both P (eqb x.letter 10) _ _
    (both body body body c (codes "</p><p>" ++ o) f (both body body body (codes "</p><p>") o (λ rest. refl) g))
    (pick_both P (alike x y) _ _ (none body) (both body body body c o f g))

letter_then : (l : ℕ) (bs rest ls : List ℕ) → plain (bs ++ rest) ≡ ls ++ plain rest → plain ((escaped l ++ bs) ++ rest) ≡ l ∷ (ls ++ plain rest)
letter_then l bs rest ls e = ap plain (append_assoc (escaped l) bs rest) ∙ (letter_back l (bs ++ rest) ∙ ap (λ ms. l ∷ ms) e)

following_read : (cs : List Change) (x : Cell) (ys : List Cell) (rest : List ℕ) → plain (following cs x ys ++ rest) ≡ paper.letters ys ++ plain rest
unfolding following plain_at paper.letters
following_read cs x [] rest = both body body body (closed x.put_in x.struck) (codes "</p>") (closed_silent x.put_in x.struck) (λ rest. refl) rest
following_read cs x (y ∷ ys) rest =
    let f : List ℕ = following cs y ys in
    ap plain (append_assoc (between cs x y) (escaped y.letter ++ f) rest)
    ∙ (between_silent cs x y ((escaped y.letter ++ f) ++ rest) ∙ letter_then y.letter f rest (paper.letters ys) (following_read cs y ys rest))

pub reads_cells : ReadsCells
unfolding marked plain_at paper.letters
reads_cells cs [] rest = refl
reads_cells cs (x ∷ xs) rest =
    let f : List ℕ = following cs x xs in
    ap plain (append_assoc (opened cs x) (escaped x.letter ++ f) rest)
    ∙ (opened_silent cs x ((escaped x.letter ++ f) ++ rest)
    ∙ letter_then x.letter f rest (paper.letters xs) (following_read cs x xs rest))
