-- Laws of the row of changes in words. Assumes nothing.
use Rattle.std.proofs.Common.{◌≡◌, ℕ, zero, suc, ◌+◌, ◌*◌, ◌<◌, ◌≤◌, ◌≢◌, List, [], ◌∷◌, ◌++◌, length, get_or, set, sym, refl, ap, ◌∙◌, add-zero, zero-add, arith, get_or-set_other, get_or-set_same}
use Rattle.std.proofs.lemmas.List.{length-set}
use Rattle.model.specs.Paper.{Change}
use Rattle.model.specs.Calls.{with_became}
use Rattle.changes.specs.Row.{change_at, changes_from, changes_of}

pub length_changes : (w : List ℕ) (k n : ℕ) → length (changes_from w k n) ≡ n
unfolding changes_from
length_changes w k zero = refl
length_changes w k (suc n) = ap suc (length_changes w (suc k) n)

-- the row reads only its own words
pub changes_same : (v w : List ℕ) (k n : ℕ) → ((i : ℕ) → 2 * k ≤ i → i < 2 * (k + n) → get_or v i 0 ≡ get_or w i 0) → changes_from v k n ≡ changes_from w k n
unfolding changes_from
changes_same v w k zero h = refl
changes_same v w k (suc n) h =
    let a : get_or v (2 * k) 0 ≡ get_or w (2 * k) 0 = h (2 * k) (omega arith) (omega arith) in
    let b : get_or v (2 * k + 1) 0 ≡ get_or w (2 * k + 1) 0 = h (2 * k + 1) (omega arith) (omega arith) in
    let rest : changes_from v (suc k) n ≡ changes_from w (suc k) n = changes_same v w (suc k) n (λ i low high. h i (omega arith) (omega arith)) in
    cc

pub changes_more : (w : List ℕ) (k n : ℕ) → changes_from w k (suc n) ≡ changes_from w k n ++ (change_at w (k + n) ∷ [])
unfolding changes_from
changes_more w k zero = rw add-zero refl
changes_more w k (suc n) = let e : suc k + n ≡ k + suc n = omega arith in ap (λ (xs : List Change). change_at w k ∷ xs) (rw e at (changes_more w (suc k) n))

pub added : (w : List ℕ) (n a : ℕ) → 2 * n + 1 < length w → let v : List ℕ = set (set w (2 * n) a) (2 * n + 1) 0 in changes_of v (n + 1) ≡ changes_of w n ++ (record { author = a; became = 0 } ∷ [])
added w n a h =
    let v : List ℕ = set (set w (2 * n) a) (2 * n + 1) 0 in
    let long : 2 * n + 1 < length (set w (2 * n) a) = simp length-set (omega arith) in
    let apart : 2 * n ≢ 2 * n + 1 = omega arith in
    let b : get_or v (2 * n + 1) 0 ≡ 0 = get_or-set_same (set w (2 * n) a) (2 * n + 1) 0 0 long in
    let c : get_or v (2 * n) 0 ≡ a = get_or-set_other (set w (2 * n) a) (2 * n + 1) (2 * n) 0 0 apart ∙ get_or-set_same w (2 * n) a 0 (omega arith) in
    let old : changes_from v 0 n ≡ changes_from w 0 n =
    changes_same v w 0 n (λ i low high.
    let p : i ≢ 2 * n + 1 = omega arith in
    let q : i ≢ 2 * n = omega arith in
    get_or-set_other (set w (2 * n) a) (2 * n + 1) i 0 0 p ∙ get_or-set_other w (2 * n) i a 0 q) in
    let more : changes_from v 0 (suc n) ≡ changes_from v 0 n ++ (change_at v n ∷ []) = rw zero-add at (changes_more v 0 n) in
    let one : n + 1 ≡ suc n = omega arith in
    cc

-- number k of the row
pub change_in : (w : List ℕ) (j n k : ℕ) (d : Change) → k < n → get_or (changes_from w j n) k d ≡ change_at w (j + k)
unfolding changes_from
change_in w j zero k d h = absurd (omega arith)
change_in w j (suc n) zero d h = rw add-zero refl
change_in w j (suc n) (suc k) d h = let e : suc j + k ≡ j + suc k = omega arith in rw e at (change_in w (suc j) n k d (omega arith))

decided_at : (w : List ℕ) (j n k b : ℕ) → k < n → 2 * (j + n) ≤ length w →
    changes_from (set w (2 * (j + k) + 1) b) j n ≡ set (changes_from w j n) k (record { author = get_or w (2 * (j + k)) 0; became = b })
unfolding changes_from
decided_at w j zero k b h l = absurd (omega arith)
decided_at w j (suc n) zero b h l =
    let v : List ℕ = set w (2 * (j + 0) + 1) b in
    let p : 2 * j ≢ 2 * (j + 0) + 1 = omega arith in
    let e : 2 * (j + 0) + 1 ≡ 2 * j + 1 = omega arith in
    let f : 2 * (j + 0) ≡ 2 * j = omega arith in
    let x : get_or v (2 * j) 0 ≡ get_or w (2 * j) 0 = get_or-set_other w (2 * (j + 0) + 1) (2 * j) b 0 p in
    let y : get_or v (2 * j + 1) 0 ≡ b = ap (λ (i : ℕ). get_or v i 0) (sym e) ∙ get_or-set_same w (2 * (j + 0) + 1) b 0 (omega arith) in
    let z : changes_from v (suc j) n ≡ changes_from w (suc j) n =
    changes_same v w (suc j) n (λ i low high. let q : i ≢ 2 * (j + 0) + 1 = omega arith in get_or-set_other w (2 * (j + 0) + 1) i b 0 q) in
    cc
decided_at w j (suc n) (suc k) b h l =
    let e : suc j + k ≡ j + suc k = omega arith in
    let v : List ℕ = set w (2 * (j + suc k) + 1) b in
    let p : 2 * j ≢ 2 * (j + suc k) + 1 = omega arith in
    let q : 2 * j + 1 ≢ 2 * (j + suc k) + 1 = omega arith in
    let x : get_or v (2 * j) 0 ≡ get_or w (2 * j) 0 = get_or-set_other w (2 * (j + suc k) + 1) (2 * j) b 0 p in
    let y : get_or v (2 * j + 1) 0 ≡ get_or w (2 * j + 1) 0 = get_or-set_other w (2 * (j + suc k) + 1) (2 * j + 1) b 0 q in
    let z : changes_from v (suc j) n ≡ set (changes_from w (suc j) n) k (record { author = get_or w (2 * (j + suc k)) 0; became = b }) =
    rw e at (decided_at w (suc j) n k b (omega arith) (omega arith)) in
    cc

pub decided : (w : List ℕ) (n k b : ℕ) → k < n → 2 * n ≤ length w → changes_of (set w (2 * k + 1) b) n ≡ with_became (changes_of w n) k b
decided w n k b h l =
    let d : Change = record { author = 0; became = 0 } in
    let s : changes_from (set w (2 * k + 1) b) 0 n ≡ set (changes_from w 0 n) k (record { author = get_or w (2 * k) 0; became = b }) =
    rw zero-add at (decided_at w 0 n k b h (omega arith)) in
    let e : get_or (changes_from w 0 n) k d ≡ change_at w k = rw zero-add at (change_in w 0 n k d h) in
    cc
