-- Laws of lists that are strung one after the other.
use Rattle.std.proofs.Common.{◌≡◌, ℕ, zero, suc, ◌+◌, ◌-◌, ◌<◌, ◌≤◌, List, [], ◌∷◌, ◌++◌, length, take, drop, refl, ap, ◌∙◌, append_assoc, add-zero, add-suc, suc-add, zero-add, arith}
use Rattle.std.proofs.lemmas.List.{append-nil, drop-append-le, take-append-le}
use Rattle.model.specs.Paper.{Cell}
use Rattle.pieces.specs.Store.{strung}

-- two rows of lists, list by list the same
pub strung_same : (f g : ℕ → List Cell) (j k n : ℕ) → ((i : ℕ) → i < n → f (j + i) ≡ g (k + i)) → strung f j n ≡ strung g k n
unfolding strung
strung_same f g j k zero h = refl
strung_same f g j k (suc n) h =
    let first : f j ≡ g k = simp add-zero at (h 0 (omega arith)) in
    let rest = strung_same f g (suc j) (suc k) n (λ i l. simp suc-add (simp add-suc at (h (suc i) (omega arith)))) in
    cc

pub strung_none : (f : ℕ → List Cell) (k n : ℕ) → ((i : ℕ) → i < n → f (k + i) ≡ []) → strung f k n ≡ []
unfolding strung
strung_none f k zero h = refl
strung_none f k (suc n) h =
    let first : f k ≡ [] = simp add-zero at (h 0 (omega arith)) in
    let rest = strung_none f (suc k) n (λ i l. simp suc-add (simp add-suc at (h (suc i) (omega arith)))) in
    cc

pub strung_zero : (f : ℕ → List Cell) (k : ℕ) → strung f k 0 ≡ []
unfolding strung
strung_zero f k = refl

pub strung_split : (f : ℕ → List Cell) (k m n : ℕ) → strung f k (m + n) ≡ strung f k m ++ strung f (k + m) n
unfolding strung
strung_split f k zero n = rw (zero-add, add-zero)
strung_split f k (suc m) n = rw (suc-add, add-suc) (rw append_assoc (ap (λ xs. f k ++ xs) (strung_split f (suc k) m n ∙ rw suc-add)))

-- one more list
pub strung_more : (f : ℕ → List Cell) (k : ℕ) → strung f 0 (suc k) ≡ strung f 0 k ++ f k
unfolding strung
strung_more f k = let e : suc k ≡ k + 1 = omega arith in ap (strung f 0) e ∙ strung_split f 0 k 1 ∙ rw (zero-add, append-nil)

-- one list, and those before and after it
pub strung_at : (f : ℕ → List Cell) (k s : ℕ) → k < s → strung f 0 s ≡ strung f 0 k ++ (f k ++ strung f (suc k) (s - suc k))
unfolding strung
strung_at f k s l =
    let e : s ≡ k + suc (s - suc k) = omega arith in
    ap (strung f 0) e ∙ strung_split f 0 k (suc (s - suc k)) ∙ rw zero-add

-- a place in the middle one of three lists
pub take_within : (b x r : List Cell) (o : ℕ) → o ≤ length x → take (length b + o) (b ++ (x ++ r)) ≡ b ++ take o x
take_within [] x r o l = rw zero-add (take-append-le o x r l)
take_within (y ∷ b) x r o l = rw suc-add (ap (λ xs. y ∷ xs) (take_within b x r o l))

pub drop_within : (b x r : List Cell) (o : ℕ) → o ≤ length x → drop (length b + o) (b ++ (x ++ r)) ≡ drop o x ++ r
drop_within [] x r o l = rw zero-add (drop-append-le o x r l)
drop_within (y ∷ b) x r o l = rw suc-add (drop_within b x r o l)
