-- The nodes of the tree: a node holds the total of the leaves below it, which fits a word.
use Rattle.std.proofs.Common.{◌≡◌, ℕ, zero, suc, ◌+◌, ◌-◌, ◌*◌, ◌^◌, ◌<◌, ◌≤◌, List, get_or, sym, refl, pow-suc, arith, pow_pos}
use native.Mathlib.Decide.{dec_lt}
use Rattle.tree.specs.Tree.{leftmost, total, Sum, Sums, Light}
use Rattle.tree.proofs.Total.{total_one, total_split}

-- every node from m on is the sum of its children
abbrev pub Above : List ℕ → ℕ → Type 0
Above t m = (i : ℕ) → m ≤ i → i < 2048 → Sum t i

pub above_root : (t : List ℕ) → Sums t → (n : ℕ) → 0 < n → Above t n
above_root t s n pos i h k = s.sums i (omega arith) k

pub double : (h : ℕ) → 2 ^ suc h ≡ 2 ^ h + 2 ^ h
double h = omega (arith, pow-suc 2 h)

pub leftmost_le : (n h : ℕ) → n ≤ leftmost n h
unfolding leftmost
leftmost_le n zero = omega arith
leftmost_le n (suc h) = omega (arith, leftmost_le (2 * n) h)

pub leftmost_next : (n h : ℕ) → leftmost (n + 1) h ≡ leftmost n h + 2 ^ h
unfolding leftmost
leftmost_next n zero = refl
leftmost_next n (suc h) =
    let e : 2 * (n + 1) ≡ 2 * n + 1 + 1 = omega arith in
    rw e (omega (arith, leftmost_next (2 * n + 1) h, leftmost_next (2 * n) h, double h))

-- a node h levels above the leaves holds the total of the 2 ^ h leaves below it
pub node_total : (t : List ℕ) (n h : ℕ) → Above t n → leftmost n h + 2 ^ h ≤ 4096 → get_or t n 0 ≡ total t (leftmost n h) (2 ^ h)
unfolding leftmost
node_total t n zero above last = sym (total_one t n)
node_total t n (suc h) above last =
    let d : 2 ^ suc h ≡ 2 ^ h + 2 ^ h = double h in
    let next : leftmost (2 * n + 1) h ≡ leftmost (2 * n) h + 2 ^ h = leftmost_next (2 * n) h in
    let left : get_or t (2 * n) 0 ≡ total t (leftmost (2 * n) h) (2 ^ h) = node_total t (2 * n) h (λ i a b. above i (omega arith) b) (omega arith) in
    let right : get_or t (2 * n + 1) 0 ≡ total t (leftmost (2 * n + 1) h) (2 ^ h) =
    node_total t (2 * n + 1) h (λ i a b. above i (omega arith) b) (omega arith)
    in
    let right' : get_or t (2 * n + 1) 0 ≡ total t (leftmost (2 * n) h + 2 ^ h) (2 ^ h) = rw next at right in
    let both : Sum t n = above n (omega arith) (omega (arith, leftmost_le (2 * n) h, pow_pos h)) in
    rw d (omega (arith, total_split t (leftmost (2 * n) h) (2 ^ h) (2 ^ h)))

first_leaf : leftmost 1 11 ≡ 2048
unfolding leftmost
first_leaf = refl

-- the root holds the total of all leaves
pub root_total : (t : List ℕ) → Sums t → get_or t 1 0 ≡ total t 2048 2048
root_total t s = rw first_leaf at (node_total t 1 11 (above_root t s 1 (omega arith)) (rw first_leaf (omega arith)))

leaf_small : (t : List ℕ) (n : ℕ) → Light t → n < 4096 → 2048 ≤ n → get_or t n 0 ≤ 1024
leaf_small t n light below from =
    let e : n ≡ 2048 + (n - 2048) = omega arith in
    rw e (light (n - 2048) (omega arith))

-- a node from which the leaves are reached within h levels
bound : (t : List ℕ) (n h : ℕ) → Above t n → Light t → n < 4096 → 2048 ≤ leftmost n h → get_or t n 0 ≤ 1024 * 2 ^ h
unfolding leftmost
bound t n zero above light below from = leaf_small t n light below from
bound t n (suc h) above light below from =
    let d : 2 ^ suc h ≡ 2 ^ h + 2 ^ h = double h in
    elim (dec_lt n 2048) [
      | yes inner ↦
          let both : Sum t n = above n (omega arith) inner in
          let next : leftmost (2 * n + 1) h ≡ leftmost (2 * n) h + 2 ^ h = leftmost_next (2 * n) h in
          let left : get_or t (2 * n) 0 ≤ 1024 * 2 ^ h = bound t (2 * n) h (λ i a b. above i (omega arith) b) light (omega arith) from in
          let right : get_or t (2 * n + 1) 0 ≤ 1024 * 2 ^ h =
          bound t (2 * n + 1) h (λ i a b. above i (omega arith) b) light (omega arith) (omega arith)
          in
          omega arith
      | no outer ↦ omega (arith, leaf_small t n light below (omega arith), pow_pos h)
    ]

-- no node is too large to be added to another
pub node_small : (t : List ℕ) (n : ℕ) → 0 < n → n < 4096 → Above t n → Light t → get_or t n 0 ≤ 2097152
unfolding leftmost
node_small t n pos below above light = bound t n 11 above light below (omega arith)
