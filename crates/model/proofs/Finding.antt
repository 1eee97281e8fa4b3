-- What is found stands there and nowhere earlier, and what is not found stands nowhere. Assumes nothing.
use Rattle.std.proofs.Common.{◌≡◌, ℕ, zero, suc, ◌+◌, ◌<◌, ◌≤◌, Bool, true, false, ◌&&◌, leb, List, [], ◌∷◌, length, drop, refl, subst, arith}
use lib.Seq.{drop-nil}
use Rattle.std.proofs.lemmas.Bool.{leb-true, and_parts}
use Rattle.model.specs.Paper.{Cell}
use Rattle.model.specs.Rows.{begins, find_in}
use Rattle.model.specs.Promise.{FoundFirst, NotFound}
use Rattle.model.proofs.Rows.{by_test}

-- the letters stand k letters after place i, and nowhere between `from` and there
Found : List Cell → List ℕ → ℕ → ℕ → ℕ → Type 0
Found xs ls from i k = (from ≤ i + k) × (begins (drop k xs) ls ≡ true) × ((j : ℕ) → from ≤ i + j → j < k → begins (drop j xs) ls ≡ false)

fails : (from i : ℕ) (b : Bool) → (leb from i && b) ≡ false → from ≤ i → b ≡ false
fails from i b e h = grind arith

here : (xs : List Cell) (ls : List ℕ) (from i s : ℕ) → (leb from i && begins xs ls) ≡ true → suc i ≡ suc s → (k : ℕ) × (s ≡ i + k) × Found xs ls from i k
unfolding Found
here xs ls from i s t e =
    let p = and_parts _ _ t in
    let l = leb-true from i p.0 in
    (0, omega arith, (omega arith, p.1, λ j a b. absurd (omega arith)))

found : (xs : List Cell) (ls : List ℕ) (from i s : ℕ) → find_in xs ls from i ≡ suc s → (k : ℕ) × (s ≡ i + k) × Found xs ls from i k
unfolding Found find_in
found [] ls from i s e =
    by_test (leb from i && begins [] ls) (suc i) 0 (λ v. v ≡ suc s → (k : ℕ) × (s ≡ i + k) × Found [] ls from i k)
    (here [] ls from i s) (λ _ e. absurd (omega arith)) e
found (x ∷ xs) ls from i s e =
    by_test (leb from i && begins (x ∷ xs) ls) (suc i) (find_in xs ls from (suc i)) (λ v. v ≡ suc s → (k : ℕ) × (s ≡ i + k) × Found (x ∷ xs) ls from i k)
    (here (x ∷ xs) ls from i s)
    (λ t e.
    let r = found xs ls from (suc i) s e in
    (suc r.0, omega arith, (omega arith, r.2.1, elim [ zero ↦ λ a b. fails from i _ t (omega arith) | suc j ↦ λ a b. r.2.2 j (omega arith) (omega arith) ])))
    e

pub found_first : FoundFirst
unfolding FoundFirst Found
found_first xs ls from k e =
    let r = found xs ls from 0 k e in
    let s : r.0 ≡ k = omega arith in
    let f = subst (Found xs ls from 0) s r.2 in
    (omega arith, f.1, λ i a b. f.2 i (omega arith) b)

none_begins : (ls : List ℕ) → 0 < length ls → begins [] ls ≡ false
unfolding begins
none_begins [] h = absurd (omega arith)
none_begins (l ∷ ls) h = refl

nowhere : (xs : List Cell) (ls : List ℕ) (from i k : ℕ) → 0 < length ls → find_in xs ls from i ≡ 0 → from ≤ i + k → begins (drop k xs) ls ≡ false
unfolding find_in
nowhere [] ls from i k h e l = rw (drop-nil k) (none_begins ls h)
nowhere (x ∷ xs) ls from i zero h e l = grind arith
nowhere (x ∷ xs) ls from i (suc k) h e l = let ih = nowhere xs ls from (suc i) k h in grind arith

pub not_found : NotFound
unfolding NotFound
not_found xs ls from i h e l = nowhere xs ls from 0 i h e (omega arith)
