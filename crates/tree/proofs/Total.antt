-- Totals of words: one more word, two runs in a row, the same words elsewhere, more words.
use Rattle.std.proofs.Common.{◌≡◌, ℕ, zero, suc, ◌+◌, ◌-◌, ◌<◌, ◌≤◌, List, get_or, drop, sym, refl, ap, ◌∙◌, add-zero, zero-add, arith}
use Rattle.std.proofs.lemmas.List.{get_or-drop}
use Rattle.tree.specs.Tree.{total}

pub total_none : (t : List ℕ) (k : ℕ) → total t k 0 ≡ 0
unfolding total
total_none t k = refl

pub total_one : (t : List ℕ) (k : ℕ) → total t k 1 ≡ get_or t k 0
unfolding total
total_one t k = add-zero _

pub total_split : (t : List ℕ) (k m n : ℕ) → total t k (m + n) ≡ total t k m + total t (k + m) n
unfolding total
total_split t k zero n =
    let a : 0 + n ≡ n = zero-add n in
    let b : k + 0 ≡ k = add-zero k in
    rw (a, b) (sym (zero-add _))
total_split t k (suc m) n =
    let a : suc m + n ≡ suc (m + n) = omega arith in
    let b : k + suc m ≡ (k + 1) + m = omega arith in
    rw (a, b) (omega (arith, total_split t (k + 1) m n))

-- one more word at the end
pub total_more : (t : List ℕ) (k n : ℕ) → total t k (n + 1) ≡ total t k n + get_or t (k + n) 0
total_more t k n = omega (arith, total_split t k n 1, total_one t (k + n))

-- a total depends only on the words that it reads
pub total_ext : (t u : List ℕ) (k m n : ℕ) → ((i : ℕ) → i < n → get_or t (k + i) 0 ≡ get_or u (m + i) 0) → total t k n ≡ total u m n
unfolding total
total_ext t u k m zero same = refl
total_ext t u k m (suc n) same =
    let a : k + 0 ≡ k = omega arith in
    let b : m + 0 ≡ m = omega arith in
    let first : get_or t (k + 0) 0 ≡ get_or u (m + 0) 0 = same 0 (omega arith) in
    let rest : (i : ℕ) → i < n → get_or t ((k + 1) + i) 0 ≡ get_or u ((m + 1) + i) 0 =
    λ i h.
    let d : k + 1 + i ≡ k + suc i = omega arith in
    let e : m + 1 + i ≡ m + suc i = omega arith in
    rw (d, e) (same (suc i) (omega arith))
    in
    let first' : get_or t k 0 ≡ get_or u m 0 = rw (a, b) at first in
    omega (arith, total_ext t u (k + 1) (m + 1) n rest)

-- the words of a part of a slice, as words of the whole
pub total_drop : (t : List ℕ) (a k n : ℕ) → total (drop a t) k n ≡ total t (a + k) n
total_drop t a k n =
    total_ext (drop a t) t k (a + k) n λ i h.
    let e : a + (k + i) ≡ a + k + i = omega arith in
    get_or-drop a t (k + i) 0 ∙ ap (λ (j : ℕ). get_or t j 0) e

-- more words have no smaller total
pub total_mono : (t : List ℕ) (k m n : ℕ) → m ≤ n → total t k m ≤ total t k n
total_mono t k m n h =
    let e : n ≡ m + (n - m) = omega arith in
    rw e (omega (arith, total_split t k m (n - m)))
