-- The counts of the tree as places in the text.
use Rattle.std.proofs.Common.{◌≡◌, ℕ, zero, suc, ◌+◌, ◌-◌, ◌<◌, ◌≤◌, List, get_or, drop, ap, ◌∙◌, inl, inr, add-zero, add-suc, arith}
use Rattle.std.proofs.lemmas.List.{get_or-drop}
use Rattle.std.proofs.lemmas.Bool.{cases_lt}
use Rattle.tree.specs.Tree.{Found, Light, total}
use Rattle.tree.proofs.Total.{total_none, total_more}
use Rattle.tree.proofs.Node.{root_total}
use Rattle.pieces.specs.Store.{used, before, Order, Table, Located}

-- leaf k of the tree
pub leaf_used : (p : List ℕ) (k : ℕ) → get_or (drop 2048 p) (2048 + k) 0 ≡ used p k
leaf_used p k = let e : 2048 + (2048 + k) ≡ 4096 + k = omega arith in get_or-drop 2048 p (2048 + k) 0 ∙ ap (λ i. get_or p i 0) e

pub total_before : (p : List ℕ) (k : ℕ) → total (drop 2048 p) 2048 k ≡ before p k
unfolding before
total_before p zero = total_none (drop 2048 p) 2048
total_before p (suc k) =
    let m = total_more (drop 2048 p) 2048 k in
    let e = leaf_used p k in
    let r = total_before p k in
    let n : suc k ≡ k + 1 = omega arith in
    rw n (omega arith)

-- what stands before a leaf past the pieces is the whole text
pub before_idle : (p : List ℕ) (s n : ℕ) → Order p s → s + n ≤ 2048 → before p (s + n) ≡ before p s
unfolding before
before_idle p s zero o l = rw add-zero
before_idle p s (suc n) o l =
    rw add-suc (let e = o.idle (s + n) (omega arith) (omega arith) in omega (arith, before_idle p s n o (omega arith)))

pub root_before : (p : List ℕ) (s : ℕ) → Table p s → get_or p 2049 0 ≡ before p s
root_before p s t =
    let r = root_total (drop 2048 p) t.sums in
    let g = get_or-drop 2048 p 1 0 in
    let b = total_before p 2048 in
    let m = t.order.most in
    let i = before_idle p s (2048 - s) t.order (omega arith) in
    let e : s + (2048 - s) ≡ 2048 = omega arith in
    let j : before p 2048 ≡ before p s = rw e at i in
    omega arith

pub found_located : (p : List ℕ) (s place k o : ℕ) → Table p s → Found (drop 2048 p) place k o → Located p s place k o
found_located p s place k o t f =
    let u = leaf_used p k in
    let b = total_before p k in
    let w : o < used p k = omega (arith, f.inside) in
    record { here = below w; within = w; sum = omega (arith, f.sum) }
  where
    below : o < used p k → k < s
    below w = elim (cases_lt k s) [ inl h ↦ h | inr h ↦ absurd (let z = t.order.idle k h f.within in omega arith) ]

-- no leaf counts too much
pub light : (p : List ℕ) (s : ℕ) → Order p s → Light (drop 2048 p)
light p s o j l =
    rw leaf_used (elim (cases_lt j s) [ inl h ↦ o.small j h | inr h ↦ let z = o.idle j h l in omega arith ])
