-- From a search letter by letter to the first place at which letters stand. Assumes nothing.
use Rattle.std.proofs.Common.{◌≡◌, ℕ, zero, suc, ◌+◌, ◌-◌, ◌<◌, ◌≤◌, true, ◌&&◌, eqb, leb, List, [], ◌∷◌, ◌++◌, length, get_or, take, drop, refl, ap, inl, inr, arith}
use Rattle.std.proofs.lemmas.Bool.{leb-true, le-leb, and_parts, eqb-true, eq-eqb, cases_lt}
use Rattle.std.proofs.lemmas.List.{length-append, length-take, length-take-le, length-drop, append_assoc, drop-drop, take_all, take_at, take-take, take-append-drop, take-append-le, take_more, drop_at}
use Rattle.model.specs.Paper.{pick, Cell, letters}
use Rattle.model.specs.Rows.{begins, find_in}
use Rattle.model.proofs.Rows.{by_test}
use Rattle.finder.specs.Match.{Ends, Matches, Step, Unfound, Seeking}
use Rattle.finder.specs.Laws.{FullIsFound, UnfoundIsAbsent}
use Rattle.finder.proofs.Matching.{ends_length, matches_none}

pub letters_length : (xs : List Cell) → length (letters xs) ≡ length xs
unfolding letters
letters_length [] = refl
letters_length (x ∷ xs) = ap suc (letters_length xs)

pub letters_take : (n : ℕ) (xs : List Cell) → letters (take n xs) ≡ take n (letters xs)
unfolding letters
letters_take zero xs = refl
letters_take (suc n) [] = refl
letters_take (suc n) (x ∷ xs) = ap (λ ls. x.letter ∷ ls) (letters_take n xs)

pub letters_drop : (n : ℕ) (xs : List Cell) → letters (drop n xs) ≡ drop n (letters xs)
unfolding letters
letters_drop zero xs = refl
letters_drop (suc n) [] = refl
letters_drop (suc n) (x ∷ xs) = letters_drop n xs

-- cells that begin with the letters, as lists
begins_split : (xs : List Cell) (ls : List ℕ) → begins xs ls ≡ true → (g : List ℕ) × (letters xs ≡ ls ++ g)
unfolding begins letters
begins_split xs [] e = (letters xs, refl)
begins_split [] (l ∷ ls) e = let z : ◌≡◌ {A = ℕ} 0 1 = cc in absurd (omega arith)
begins_split (x ∷ xs) (l ∷ ls) e =
    let p = and_parts (eqb x.letter l) (begins xs ls) e in
    let h = eqb-true x.letter l p.0 in
    let r = begins_split xs ls p.1 in
    let t = r.1 in
    (r.0, cc)

begins_from : (xs : List Cell) (ls g : List ℕ) → letters xs ≡ ls ++ g → begins xs ls ≡ true
unfolding begins letters
begins_from xs [] g e = refl
begins_from [] (l ∷ ls) g e = absurd (omega (arith, ap length e))
begins_from (x ∷ xs) (l ∷ ls) g e =
    let h : x.letter ≡ l = cc in
    let t : letters xs ≡ ls ++ g = cc in
    rw (eq-eqb x.letter l h) (begins_from xs ls g t)

nothing_begins : (k : ℕ) (ls : List ℕ) → 0 < length ls → begins (drop k []) ls ≡ true → ⊥
nothing_begins k ls z e =
    let r = begins_split (drop k []) ls e in
    let a = ap length r.1 in
    omega (arith, length-append ls r.0, letters_length (drop k []), length-drop {A = Cell} k [])

-- the test of `find_in` fails where the letters do not stand
not_here :
    {v w : ℕ} (from i : ℕ) (xs : List Cell) (ls : List ℕ) → (from ≤ i → begins xs ls ≡ true → ⊥) → v ≡ w →
    pick (leb from i && begins xs ls) (suc i) v ≡ w
not_here {v} {w} from i xs ls never e =
    by_test (leb from i && begins xs ls) (suc i) v (λ n. n ≡ w)
    (λ t. let p = and_parts (leb from i) (begins xs ls) t in absurd (never (leb-true from i p.0) p.1)) (λ _. e)

-- the place that `find_in` tells, from where the letters stand
find_at :
    (xs : List Cell) (ls : List ℕ) (from i k : ℕ) → 0 < length ls → from ≤ i + k → begins (drop k xs) ls ≡ true →
    ((j : ℕ) → from ≤ i + j → j < k → begins (drop j xs) ls ≡ true → ⊥) → find_in xs ls from i ≡ suc (i + k)
unfolding find_in
find_at [] ls from i k z h b never = absurd (nothing_begins k ls z b)
find_at (x ∷ xs) ls from i zero z h b never = let l : leb from i ≡ true = le-leb from i (omega arith) in rw (l, b) (omega arith)
find_at (x ∷ xs) ls from i (suc k) z h b never =
    let r = find_at xs ls from (suc i) k z (omega arith) b (λ j o l. never (suc j) (omega arith) (omega arith)) in
    not_here from i (x ∷ xs) ls (λ o. never 0 (omega arith) (omega arith)) (omega arith)

find_none :
    (xs : List Cell) (ls : List ℕ) (from i : ℕ) → ((j : ℕ) → from ≤ i + j → begins (drop j xs) ls ≡ true → ⊥) → find_in xs ls from i ≡ 0
unfolding find_in
find_none [] ls from i never = not_here from i [] ls (λ o. never 0 (omega arith)) refl
find_none (x ∷ xs) ls from i never =
    not_here from i (x ∷ xs) ls (λ o. never 0 (omega arith)) (find_none xs ls from (suc i) (λ j o. never (suc j) (omega arith)))

-- Where the letters stand in cells, and where their text ends with them.
ends_where_begins :
    (xs : List Cell) (ls : List ℕ) (j : ℕ) → 0 < length ls → begins (drop j xs) ls ≡ true →
    Ends ls (take (j + length ls) (letters xs)) (length ls)
ends_where_begins xs ls j z b =
    let r = begins_split (drop j xs) ls b in
    let g = r.1 in
    let d = letters_drop j xs in
    let n = ap length g in
    let a = length-append ls r.0 in
    let q = letters_length (drop j xs) in
    let h : j ≤ length (letters xs) = omega (arith, letters_length xs, length-drop j xs) in
    let t = length-take-le j (letters xs) h in
    let w = take-append-drop j (letters xs) in
    let o = append_assoc (take j (letters xs)) ls r.0 in
    let s : letters xs ≡ (take j (letters xs) ++ ls) ++ r.0 = cc in
    let all = take_all (length ls) ls (omega arith) in
    let k = take_at (take j (letters xs) ++ ls) r.0 (j + length ls) (omega (arith, length-append (take j (letters xs)) ls)) in
    let e = ap (take (j + length ls)) s in
    record { fits = omega arith; front = take j (letters xs); split = cc }

begins_where_ends :
    (xs : List Cell) (ls : List ℕ) (i : ℕ) → i ≤ length xs → Ends ls (take i (letters xs)) (length ls) →
    begins (drop (i - length ls) xs) ls ≡ true
begins_where_ends xs ls i h e =
    let s = e.split in
    let all = take_all (length ls) ls (omega arith) in
    let f : take i (letters xs) ≡ e.front ++ ls = cc in
    let t = length-take-le i (letters xs) (omega (arith, letters_length xs)) in
    let n : length e.front ≡ i - length ls = omega (arith, ap length f, length-append e.front ls) in
    let w = take-append-drop i (letters xs) in
    let o = append_assoc e.front ls (drop i (letters xs)) in
    let d = drop_at e.front (ls ++ drop i (letters xs)) (i - length ls) n in
    let q : letters xs ≡ e.front ++ (ls ++ drop i (letters xs)) = cc in
    let p = ap (drop (i - length ls)) q in
    let l = letters_drop (i - length ls) xs in
    begins_from (drop (i - length ls) xs) ls (drop i (letters xs)) (cc)

-- letters that stand at or after `from` stand in the text that begins there
ends_from :
    (xs : List Cell) (ls : List ℕ) (from j : ℕ) → 0 < length ls → from ≤ j → begins (drop j xs) ls ≡ true →
    Ends ls (take (j - from + length ls) (letters (drop from xs))) (length ls)
ends_from xs ls from j z o b =
    let e : from + (j - from) ≡ j = omega arith in
    ends_where_begins (drop from xs) ls (j - from) z (rw (drop-drop, e) b)

pub full_is_found : FullIsFound
unfolding FullIsFound
full_is_found xs ls from i z l u m =
    let n = length-drop from xs in
    let q = letters_length (drop from xs) in
    let t = length-take-le (i + 1) (letters (drop from xs)) (omega arith) in
    let h : length ls ≤ i + 1 = omega (arith, ends_length m.ends) in
    let b = begins_where_ends (drop from xs) ls (i + 1) (omega arith) m.ends in
    let r =
    find_at xs ls from 0 (from + (i + 1 - length ls)) z (omega arith) (rw drop-drop at b)
    (λ j o s c.
    let k : j - from + length ls ≤ i = omega arith in
    u (j - from + length ls) (rw (take-take (j - from + length ls) i (letters (drop from xs)) k) (ends_from xs ls from j z (omega arith) c))) in
    omega arith

pub unfound_is_absent : UnfoundIsAbsent
unfolding UnfoundIsAbsent
unfound_is_absent xs ls from i z l u =
    let a = take_all i (letters (drop from xs)) (omega (arith, letters_length (drop from xs), length-drop from xs)) in
    find_none xs ls from 0 (λ j o c. u (j - from + length ls) (rw a (ends_from xs ls from j z (omega arith) c)))

-- Nothing is found in no letters, and one letter more finds nothing unless all match.
pub unfound_none : (ls : List ℕ) → 0 < length ls → Unfound ls []
unfound_none ls z i e = let n : length (take {A = ℕ} i []) ≤ 0 = simp length-take (omega arith) in omega (arith, ends_length e)

pub unfound_more : (ls t : List ℕ) (x k : ℕ) → Matches ls (t ++ (x ∷ [])) k → k < length ls → Unfound ls t → Unfound ls (t ++ (x ∷ []))
unfound_more ls t x k m h u i e =
    elim (cases_lt (length t) i) [
      | inl l ↦
          let a = take_all i (t ++ (x ∷ [])) (omega (arith, length-append t (x ∷ []))) in
          omega (arith, m.longest (length ls) (rw a at e))
      | inr l ↦ u i (rw take-append-le at e)
    ]

-- A search from its first letter to its end: what a caller carries from letter to letter.
pub seeking_none : (ls ys : List ℕ) → 0 < length ls → Seeking ls ys 0 0
seeking_none ls ys z = record { short = z; matches = matches_none ls; unfound = unfound_none ls z }

step_matches : {ls ys : List ℕ} {i k r : ℕ} → i < length ys → Step ls k (get_or ys i 0) r → Seeking ls ys i k → Matches ls (take (i + 1) ys) r
step_matches {ls} {ys} {i} h s f = rw (take_more ys i 0 h) (s (take i ys) f.matches)

pub seeking_more :
    {ls ys : List ℕ} {i k r : ℕ} → i < length ys → Step ls k (get_or ys i 0) r → (r ≡ length ls → ⊥) → Seeking ls ys i k →
    Seeking ls ys (i + 1) r
seeking_more {ls} {ys} {i} {k} {r} h s ne f =
    let m = s (take i ys) f.matches in
    let l : r < length ls = omega (arith, m.ends.fits) in
    record { short = l; matches = step_matches h s f; unfound = rw (take_more ys i 0 h) (unfound_more ls (take i ys) (get_or ys i 0) r m l f.unfound) }

-- no more match than were read
pub seeking_read : {ls ys : List ℕ} {i k x r : ℕ} → Step ls k x r → Seeking ls ys i k → r ≤ i + 1
seeking_read {ls} {ys} {i} {k} {x} s f =
    let n : length (take i ys) ≤ i = simp length-take (omega arith) in
    omega (arith, ends_length (s (take i ys) f.matches).ends, length-append (take i ys) (x ∷ []))

-- all match, so they are found; all was read, so they are not there
pub seeking_full :
    (xs : List Cell) (ls : List ℕ) (from i k r : ℕ) → from + i < length xs → Step ls k (get_or (letters (drop from xs)) i 0) r → r ≡ length ls →
    Seeking ls (letters (drop from xs)) i k → find_in xs ls from 0 ≡ suc (from + (i + 1) - length ls)
unfolding FullIsFound
seeking_full xs ls from i k r l s e f =
    let h : i < length (letters (drop from xs)) = omega (arith, letters_length (drop from xs), length-drop from xs) in
    full_is_found xs ls from i (omega (arith, f.short)) l f.unfound (rw e at (step_matches h s f))

pub seeking_all :
    (xs : List Cell) (ls : List ℕ) (from i k : ℕ) → length xs ≤ from + i → Seeking ls (letters (drop from xs)) i k → find_in xs ls from 0 ≡ 0
unfolding UnfoundIsAbsent
seeking_all xs ls from i k l f = unfound_is_absent xs ls from i (omega (arith, f.short)) l f.unfound
